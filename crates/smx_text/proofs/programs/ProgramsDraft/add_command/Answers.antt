use Rattle.smx_text.proofs.Common.{◌-◌, ◌<◌, ap, ◌∙◌, rules, set, ProgramLists, Command}
use Rattle.std.proofs.Common.{◌≡◌, List, length}
use Rattle.smx_text.specs.ProgramLines as line
use Rattle.smx_text.proofs.BodyLemmas.{last_more}
use Rattle.smx_text.proofs.MachineLemmas.{adds, longer_begun}
use Rattle.smx_text.proofs.ProgramsMachineLemmas.{stands, with_line}
use Rattle.smx_text.proofs.programs.ProgramsDraft.add_command.Goals as goal

pub returns-in_err-room_for_command-clause-answers : goal.returns-in_err-room_for_command-clause-answers
returns-in_err-room_for_command-clause-answers c =
    let why = c.in_err-room_for_command.ensures.refused c.args.command in search rules

pub returns-in_err-push-clause-answers : goal.returns-in_err-push-clause-answers
returns-in_err-push-clause-answers c =
    let room =
    longer_begun (stands c.args.self.now) (line.Command c.args.command) c.requires.begun
    (search rules) (search rules) c.requires.fits (λ e. cc) in
    search rules

pub returns-clause-answers : goal.returns-clause-answers
returns-clause-answers c =
    let programs = c.self.inside.programs.items in
    let more : ProgramLists = record {
      version = c.self.inside.version;
      drivers = c.self.inside.drivers.items;
      programs = set programs (c.len-last.result - 1) c.push.new.self;
    } in
    let some : 0 < length programs = search rules in
    let last = last_more programs c.len-last.result c.index_mut.result.now c.push.new.self c.args.command some
    (search rules) c.index_mut.ensures.value c.in_ok-push.ensures.ok in
    let now : record { version = c.self.inside.version; drivers = c.self.inside.drivers.items; programs = programs }
    ≡ c.args.self.now = c.self.view_is in
    let same : more ≡ with_line c.args.self.now (line.Command c.args.command) =
    ap (λ (ps : List (List Command)). record more { programs = ps }) last
    ∙ ap (λ (v : ProgramLists). with_line v (line.Command c.args.command)) now in
    adds {e = more} (stands c.args.self.now) (line.Command c.args.command) same c.requires.begun
    (search rules) (search rules) c.requires.fits (λ e. cc)
