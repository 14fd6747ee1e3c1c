use Rattle.smx_model.proofs.Common.{Some}
use Rattle.smx_streams.proofs.GridLemmas.{key_set, lengths_set}
use Rattle.smx_streams.proofs.RecordLemmas.{put_new}
use Rattle.smx_streams.proofs.records.put.Goals as goal

pub returns-clause-ok : goal.returns-clause-ok
returns-clause-ok c = put_new c.args.drivers.now.items c.args.records.now c.in_ok-key.key c.args.added
    c.set_cell.new.rows.items c.insert.new.self c.requires.whole c.requires.none c.in_ok-key.ensures.was_vacant
    c.requires.used c.in_ok-key.ensures.updates
    (λ x. rw c.set_cell.ensures
    (key_set c.args.drivers.now.items c.args.added.stream (Some c.in_ok-key.key) x c.requires.driver c.requires.minor))
    (rw c.set_cell.ensures (lengths_set c.args.drivers.now.items c.args.added.stream (Some c.in_ok-key.key)))
