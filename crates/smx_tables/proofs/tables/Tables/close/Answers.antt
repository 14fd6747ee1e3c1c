use Rattle.smx_tables.proofs.Common.{[], List, refl, sym, ap, ◌∙◌, StreamId, configuration_of}
use Rattle.smx_streams.specs.StreamTables.{exists as is_there}
use Rattle.smx_tables.proofs.ExistingLemmas.{tells_existing}
use Rattle.smx_tables.proofs.HungLemmas.{all_pass}
use Rattle.smx_tables.proofs.TouchLemmas.{linked_still, swept_still, touched_beside, touched_by}
use Rattle.smx_tables.specs.Closing.{closing}
use Rattle.smx_tables.proofs.ClosingLemmas.{all_stay, closed_stays, closes_shared}
use Rattle.smx_tables.proofs.TablesLemmas.{accepted, sound_inside, tells_inside}
use Rattle.smx_tables.proofs.tables.Tables.close.Goals as goal

pub returns-then-is_last : goal.returns-then-is_last
returns-then-is_last c = rw (sym c.stream_of.ensures ∙ c.in_ok-stream.was) c.close_last.ensures

pub returns : goal.returns
returns c =
    let ds = c.self.inside.drivers.items in
    let old = configuration_of c.self.inside.lists in
    let t = c.self.inside.lists.streams in
    let u = c.close_fd-stays.new.self in
    let sound = sound_inside c.self.inside c.args.self.now c.self.view_is c.requires in
    let still = closed_stays t u c.args.process c.args.fd (sym c.is_last.ensures ∙ c.if-is_last.false)
    c.close_fd-stays.ensures.rest c.close_fd-stays.ensures.went in
    let touched = touched_by ds old t u []
    (tells_inside c.self.inside c.args.self.now c.self.view_is c.self.invariant c.requires) sound.swept still in
    let told = tells_existing ds (record old { fds = u.fds }) u sound.links sound.known.controlling
    refl (λ s. c.close_fd-stays.ensures.rest.holds s ∙ c.self.invariant.kept.held s)
    (linked_still u [] old refl touched) in
    let stays = all_stay t u old.hungs c.close_fd-stays.ensures.sound.exist still in
    let hungs = c.close_fd-stays.ensures.rest.hungs ∙ sym (all_pass (is_there u) old.hungs stays) in
    rw (sym c.stream_of.ensures ∙ c.in_ok-stream.was)
    (accepted c.self.inside c.args.self.now _ (λ m. closing m.drivers m.configuration c.args.process c.args.fd) _
    c.self.view_is
    (closes_shared ds old c.args.process c.args.fd u.fds _ _
    (swept_still ds (record old { fds = u.fds }) u []
    told refl (touched_beside u [] old u.fds old.hungs touched) stays)
    c.close_fd-stays.ensures.rest.fds
    (ap (λ (hs : List StreamId). record old { fds = u.fds; hungs = hs }) hungs) c.done.ensures))
