use Rattle.std.proofs.Common.{[], ◌∷◌, arith}
use Rattle.smx_words.proofs.ReplyLemmas.{one_more, last_is_none, none_left}
use Rattle.smx_words.proofs.reading.reply.serials.Goals as goal

pub returns-in_default-clause-reading : goal.returns-in_default-clause-reading
returns-in_default-clause-reading c =
    rw c.in_ok-push.ensures.ok (c.words.invariant.then (c.in-Some-number.serial ∷ [])
    ((omega arith, (c.in-Some-number.ensures.0, tt)), c.in-Some-number.ensures.1))

pub returns-in_default-number-clause-reading : goal.returns-in_default-number-clause-reading
returns-in_default-number-clause-reading c =
    none_left c.args.line.now c.words.serials c.words.rest.now c.words.invariant
    (last_is_none c.words.rest.now c.in_default.ensures c.in_default-number.ensures)

pub words-preserved : goal.words-preserved
words-preserved c =
    rw c.in_ok-push-2.ensures.ok (one_more c.args.line.now c.words.serials c.words.rest.now c.in-Some.after.now
    c.in-Some.serial c.words.invariant c.in-Some.ensures.0 c.in-Some.ensures.1)
