use Rattle.std.proofs.Common.{rules}
use Rattle.smx_types.proofs.NameLemmas.{same_numbers}
use Rattle.smx_types.proofs.name.are_same.Goals as goal

-- src/name.rt:35:1
pub returns : goal.returns
returns c =
    same_numbers c.args.bytes c.args.others _ _ (search rules) (search rules) (search rules) (search rules)
    c.from_le_bytes.ensures c.from_le_bytes-2.ensures
