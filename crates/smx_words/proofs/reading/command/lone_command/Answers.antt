use Rattle.std.specs.Prelude.{codes}
use Rattle.smx_words.proofs.DecidedCommandLemmas.{no_verb}
use Rattle.smx_words.proofs.CutLemmas.{differs}
use Rattle.smx_words.proofs.reading.command.lone_command.Goals as goal

pub returns : goal.returns
returns c = λ v x told e.
    let not_exit = differs c.args.line.now (codes "exit") c.is.result c.is.ensures c.if-is.false in
    no_verb c.args.line.now c.requires not_exit x told.0 e
