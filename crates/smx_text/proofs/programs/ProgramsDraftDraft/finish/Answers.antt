use Rattle.std.proofs.Common.{◌≡◌, refl, sym, subst, rules}
use Rattle.smx_types.specs.ProgramLists.{AreWithinLimits}
use Rattle.smx_text.proofs.MachineLemmas.{finished}
use Rattle.smx_text.proofs.ProgramsMachineLemmas.{begun_within, stands}
use Rattle.smx_text.proofs.programs.ProgramsDraftDraft.finish.Goals as goal

pub in_version-requires : goal.in_version-requires
in_version-requires c =
    let same : record {
      version = c.self.inside.version;
      drivers = c.from_vec.result;
      programs = c.from_vec-2.result;
    } ≡ c.args.self = search rules in
    subst AreWithinLimits (sym same) (begun_within c.args.self c.requires.begun)

pub returns : goal.returns
returns c =
    let same : c.in_version.result ≡ c.args.self = search rules in
    rw same (finished (stands c.args.self) c.requires.begun refl)
