use Rattle.std.proofs.Common.{◌∙◌, sym, arith, add-one}
use Rattle.smx_types.proofs.NameLemmas.{one_more, one_more_named}
use Rattle.smx_types.proofs.name.padded.Goals as goal

pub bytes-preserved : goal.bytes-preserved
bytes-preserved c = record {
  named = one_more_named _ c.bytes.i c.bytes-test.true c.bytes.invariant.named
      (sym c.is_name_byte.ensures ∙ c.if-not-is_name_byte.false);
  all = rw (c.bytes.invariant.all, add-one) (one_more c.args.bytes.now _ c.bytes.i c.bytes-test.true (omega arith));
}
