use Rattle.smx_text.proofs.Common.{rules, ProgramLists}
use Rattle.smx_text.specs.ProgramLines as line
use Rattle.smx_text.proofs.MachineLemmas.{misplaced, too_many, adds, longer_begun}
use Rattle.smx_text.proofs.ProgramsMachineLemmas.{stands}
use Rattle.smx_text.proofs.programs.ProgramsDraft.add_driver.Goals as goal

pub returns-then-not-is_empty-clause-answers : goal.returns-then-not-is_empty-clause-answers
returns-then-not-is_empty-clause-answers c =
    misplaced (stands c.args.self.now) (line.Driver c.args.driver) (search rules)

pub returns-then-len-max_drivers-clause-answers : goal.returns-then-len-max_drivers-clause-answers
returns-then-len-max_drivers-clause-answers c =
    too_many (stands c.args.self.now) (line.Driver c.args.driver) (search rules) (search rules)

pub returns-in_err-push-clause-answers : goal.returns-in_err-push-clause-answers
returns-in_err-push-clause-answers c =
    let room =
    longer_begun (stands c.args.self.now) (line.Driver c.args.driver) c.requires.begun
    (search rules) (search rules) c.requires.fits (λ e. cc) in
    search rules

pub returns-clause-answers : goal.returns-clause-answers
returns-clause-answers c =
    let more : ProgramLists = record {
      version = c.self.inside.version;
      drivers = c.push.new.self.items;
      programs = c.self.inside.programs.items;
    } in
    adds {e = more} (stands c.args.self.now) (line.Driver c.args.driver) (search rules)
    c.requires.begun (search rules) (search rules) c.requires.fits (λ e. cc)
