use Rattle.smx_tables.proofs.Common.{refl, sym, ap, ◌∙◌, arith, Machine}
use Rattle.smx_tables.proofs.DoneLemmas.{hangup_does}
use Rattle.smx_tables.proofs.TablesLemmas.{tells_seen}
use Rattle.smx_tables.proofs.tables.Tables.hangup.Goals as goal

pub hang-requires : goal.hang-requires
hang-requires c = grind (arith, tells_seen)

pub returns-clause-refines : goal.returns-clause-refines
returns-clause-refines c = λ process. (
  ap (λ (m : Machine). m.drivers) c.self.view_is,
  hangup_does c.args.self.now.drivers c.args.self.now.configuration process c.args.name.now c.args.minor
      c.in_ok-stream.stream _ _ c.requires.swept
      (sym c.leaf_stream.ensures ∙ c.in_ok-stream.was)
      (rw (c.hang.ensures.fds, c.hang.ensures.hungs, ← c.self.view_is) refl) c.done.ensures,
)
