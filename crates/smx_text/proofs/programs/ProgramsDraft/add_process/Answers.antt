use Rattle.smx_text.proofs.Common.{rules, ProgramLists}
use Rattle.smx_text.specs.ProgramLines as line
use Rattle.smx_text.proofs.MachineLemmas.{misplaced, too_many, adds, longer_begun}
use Rattle.smx_text.proofs.ProgramsMachineLemmas.{stands}
use Rattle.smx_text.proofs.programs.ProgramsDraft.add_process.Goals as goal

pub returns-then-number-len-clause-answers : goal.returns-then-number-len-clause-answers
returns-then-number-len-clause-answers c =
    misplaced (stands c.args.self.now) (line.Process c.args.number) (search rules)

pub returns-then-number-ge-MAX_PROCESSES-clause-answers : goal.returns-then-number-ge-MAX_PROCESSES-clause-answers
returns-then-number-ge-MAX_PROCESSES-clause-answers c =
    too_many (stands c.args.self.now) (line.Process c.args.number) (search rules) (search rules)

pub returns-in_err-push-clause-answers : goal.returns-in_err-push-clause-answers
returns-in_err-push-clause-answers c =
    let room =
    longer_begun (stands c.args.self.now) (line.Process c.args.number) c.requires.begun
    (search rules) (search rules) c.ranges.number.fits (λ e. cc) in
    search rules

pub returns-clause-answers : goal.returns-clause-answers
returns-clause-answers c =
    let more : ProgramLists = record {
      version = c.self.inside.version;
      drivers = c.self.inside.drivers.items;
      programs = c.push.new.self.items;
    } in
    adds {e = more} (stands c.args.self.now) (line.Process c.args.number) (search rules)
    c.requires.begun (search rules) (search rules) c.ranges.number.fits (λ e. cc)
