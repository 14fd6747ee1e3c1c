use Rattle.std.proofs.Common.{None}
use Rattle.smx_words.proofs.ReplyLemmas.{standing_alone}
use Rattle.smx_words.proofs.reading.reply.reply_of.Goals as goal

pub returns-in-None-lone_reply-clause-reading : goal.returns-in-None-lone_reply-clause-reading
returns-in-None-lone_reply-clause-reading c = λ x told e.
    standing_alone c.args.line.now None c.in-None.ensures c.in-None-lone_reply.ensures x told.0 e
