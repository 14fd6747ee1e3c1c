use Rattle.std.proofs.Common.{◌≡◌, [], ◌∷◌, ◌++◌}
use Rattle.smx_types.specs.declared.command.Entry.{Entry}
use Rattle.smx_shared.proofs.RecordLemmas.{one_entry_more}
use Rattle.smx_shared.proofs.system.System.apply.Goals as goal

pub invariant_of-self-2 : goal.invariant_of-self-2
invariant_of-self-2 g c =
    let e : Entry = record { process = c.args.process; command = c.in_ok-kept.kept; reply = c.in_ok-reply.reply } in
    let old = c.self.inside in
    let entries = g.K.EntrySink.entries in
    let added : entries c.add.new.self ≡ entries old.sink ++ e ∷ [] =
    rw (← c.in_ok-make_room.ensures.same) c.add.ensures in
    let did = c.in_ok-reply.ensures in
    one_entry_more old.config c.step_twin.new.self old.limit (entries old.sink)
    (entries c.add.new.self) e c.self.invariant c.in_ok-make_room.ensures.below did.drivers
    (rw c.in_ok-kept.ensures did.ok) added

pub returns-clause-sound : goal.returns-clause-sound
returns-clause-sound g c = (invariant_of-self-2 g c).sound
