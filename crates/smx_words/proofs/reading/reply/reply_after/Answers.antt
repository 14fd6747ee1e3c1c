use Rattle.std.proofs.lemmas.Result.{err_from_is_err_and}
use Rattle.smx_words.proofs.ReplyLemmas.{done_line}
use Rattle.smx_words.proofs.reading.reply.reply_after.Goals as goal

pub returns-in_err-serials-in-Done-clause-wanted : goal.returns-in_err-serials-in-Done-clause-wanted
returns-in_err-serials-in-Done-clause-wanted c =
    let p = err_from_is_err_and c.from_residual.result c.from_residual.ensures.1 in
    rw (p.1, c.in-Done.is) (done_line c.args.rest.now c.in_err-serials-in-Done.ensures.wanted)
