use Rattle.smx_model.proofs.Common.{◌≡◌, None, map, replicate, take}
use Rattle.smx_streams.proofs.records.new_keys.Given as goal

abbrev pub invariant-loop-count : goal.invariant-loop-count
invariant-loop-count l = l.drivers.items ≡ map (λ n. replicate n None) (take l.count-index l.minors)
