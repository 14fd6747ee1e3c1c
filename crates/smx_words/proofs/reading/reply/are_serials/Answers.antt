use Rattle.std.proofs.Common.{[], ◌∷◌, ◌++◌}
use Rattle.smx_words.proofs.ReplyLemmas.{at_first, one_more, tells_last}
use Rattle.smx_words.proofs.reading.reply.are_serials.Goals as goal

pub words-init : goal.words-init
words-init c = ([], at_first c.args.line.now)

pub words-preserved : goal.words-preserved
words-preserved c =
    let before = c.words.invariant in (
      before.0 ++ c.in-Some.field-0-0 ∷ [],
      one_more c.args.line.now before.0 c.words.rest.now
          c.in-Some.after.now c.in-Some.field-0-0 before.1 c.in-Some.ensures.0 c.in-Some.ensures.1,
    )

pub returns-in_default : goal.returns-in_default
returns-in_default c =
    let before = c.words.invariant in
    tells_last c.args.line.now before.0 c.words.rest.now c.number.result c.is_some.result c.is_some.ensures
    before.1 c.in_default.ensures c.number.ensures
