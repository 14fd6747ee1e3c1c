use Rattle.smx_explain.proofs.RowLemmas.{passed}
use Rattle.smx_explain.proofs.rows.+find.Goals as goal

pub returns-in-len1-up : goal.returns-in-len1-up
returns-in-len1-up t c =
    passed c.args.rows.now c.args.word.now c.as_bytes.result.now _ c.find.result c.eq.result c.in-len1-up.len_at_least
    c.as_bytes.ensures.value c.eq.ensures c.if-eq.false c.find.ensures
