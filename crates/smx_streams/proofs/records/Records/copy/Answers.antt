use Rattle.smx_streams.proofs.RecordLemmas.{same_records, same_slots, same_uses}
use Rattle.smx_streams.proofs.records.Records.copy.Goals as goal

pub invariant_of-result : goal.invariant_of-result
invariant_of-result c = rw (c.in_ok-copies.ensures, c.deref.ensures.value)
    (same_records _ _ _ (same_slots _ _ c.in_ok-clone.ensures.cases) c.self.invariant)

pub returns : goal.returns
returns c = rw (← c.self.view_is, c.in_ok-copies.ensures, c.deref.ensures.value)
    (same_uses _ c.self.inside.records c.in_ok-clone.field-0
    (same_slots c.self.inside.records c.in_ok-clone.field-0 c.in_ok-clone.ensures.cases))
