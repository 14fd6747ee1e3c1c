use Rattle.smx_tables.proofs.Common.{◌≡◌, ℕ, true, ◌||◌, not, eqb, List, filter, refl, sym, ap, subst, ◌∙◌, arith}
use Rattle.smx_tables.proofs.Common.{vec_capacity, All, list_all, list_any, Link, IsKnown, AreLinksSound}
use Rattle.smx_tables.proofs.Common.{is_persistent, StreamTable, AreHeld, is_held, is_listed, is_orphaned, AreIdsOf}
use Rattle.smx_tables.proofs.Common.{configuration_of}
use Rattle.std.proofs.Common.{length}
use Rattle.std.proofs.lemmas.List.Elements.{All-filter}
use Rattle.smx_model.proofs.SoundLemmas.{sound_filter}
use Rattle.smx_streams.specs.StreamTables.{exists as is_there}
use Rattle.smx_tables.proofs.ExistingLemmas.{tells_existing}
use Rattle.smx_tables.proofs.OrphanLemmas.{held_is_left, left_is_linked, left_links, released_are_orphaned}
use Rattle.smx_tables.proofs.OrphanIdLemmas.{none_released_yet}
use Rattle.smx_tables.proofs.RemovalLemmas.{kept_alike}
use Rattle.smx_tables.proofs.TouchLemmas.{cascade_at_first}
use Rattle.smx_tables.proofs.sweep.drop_orphans.Goals as goal
use Rattle.smx_tables.proofs.sweep.drop_orphans.Goals.{After-drop_links}

-- the links that are left are those whose lower streams are still held
left : (c : After-drop_links) → c.drop_links.new.lists.links.links
    ≡ filter (is_held c.release_orphans.new.streams) c.args.lists.now.links.links
left c =
    let links = c.args.lists.now.links.links in
    let t = c.release_orphans.new.streams in
    c.drop_links.ensures.links ∙ left_links links _ t c.release_orphans.ensures.sound.ids.rise
    (subst (AreIdsOf (λ l. not (is_held t l)) links) (sym c.deref.ensures.value) c.release_orphans.ensures.gone.same)

-- each stream below a link that is left is held
held : (c : After-drop_links) → AreHeld c.drop_links.new.lists.links.links c.drop_links.new.lists.streams
held c =
    let links = c.args.lists.now.links.links in
    let t = c.release_orphans.new.streams in
    subst (λ (ls : List Link). AreHeld ls c.drop_links.new.lists.streams) (sym (left c))
    (subst (λ (u : StreamTable). AreHeld (filter (is_held t) links) u) (sym c.drop_links.ensures.streams)
    (held_is_left links (length c.args.drivers.now) t
    (c.release_orphans.ensures.releasing (length c.args.drivers.now))))

pub release_orphans-requires-clause-cascade : goal.release_orphans-requires-clause-cascade
release_orphans-requires-clause-cascade c = cascade_at_first c.args.lists.now.links.links c.args.lists.now.streams
    c.args.room.now.touched.items _ c.requires.kept.held c.requires.touched.links
    (omega (arith, c.requires.room.touched_room))

pub release_orphans-requires-clause-room : goal.release_orphans-requires-clause-room
release_orphans-requires-clause-room c =
    let cascade = cascade_at_first c.args.lists.now.links.links c.args.lists.now.streams c.args.room.now.touched.items
    (vec_capacity c.args.room.now.seen) c.requires.kept.held c.requires.touched.links
    (omega (arith, c.requires.room.seen_room)) in
    omega (arith, cascade.enough, ap length c.requires.room.seen_empty)

pub release_orphans-requires-clause-gone : goal.release_orphans-requires-clause-gone
release_orphans-requires-clause-gone c = none_released_yet c.args.lists.now.links.links c.args.lists.now.streams
    c.args.room.now.orphaned.items _ c.requires.kept.held c.requires.room.orphaned_empty c.requires.room.orphaned_room

-- the table of streams has exactly the streams that exist
pub returns-clause-existing : goal.returns-clause-existing
returns-clause-existing c =
    let links = c.args.lists.now.links.links in
    let t = c.release_orphans.new.streams in
    let after = (goal.at.returns-clause-existing c).After-drop_links in
    let new = c.drop_links.new.lists in
    tells_existing c.args.drivers.now (configuration_of new) new.streams
    (subst AreLinksSound (sym (left after)) (sound_filter (is_held t) links c.release_orphans.ensures.sound.sound))
    (subst (λ (ls : List Link). All (λ l. IsKnown c.args.drivers.now l.ctl) ls) (sym (left after))
    (All-filter (is_held t) (λ l. IsKnown c.args.drivers.now l.ctl) links c.requires.known))
    refl (held after)
    (subst (λ (ls : List Link). list_all (λ l. is_persistent l || is_there new.streams l.ctl) ls ≡ true)
    (sym (left after))
    (subst (λ (u : StreamTable). list_all (λ l. is_persistent l || is_there u l.ctl) (filter (is_held t) links) ≡ true)
    (sym c.drop_links.ensures.streams) (left_is_linked t links c.release_orphans.ensures.none)))

pub returns-clause-value : goal.returns-clause-value
returns-clause-value c =
    let links = c.args.lists.now.links.links in
    let n = length c.args.drivers.now in
    let t = c.release_orphans.new.streams in
    let goes = is_orphaned c.args.lists.now.streams.fds links n in
    let alike = released_are_orphaned c.args.drivers.now (configuration_of c.args.lists.now) t
    c.release_orphans.ensures.sound.sound c.requires.known
    c.release_orphans.ensures.fds (c.release_orphans.ensures.releasing n) c.release_orphans.ensures.none in
    c.drop_links.ensures.value goes
    (subst (λ (ls : List Link). (id : ℕ) → is_listed c.deref.result.now id ≡ list_any (λ l. eqb l.id id) ls)
    (kept_alike _ goes links alike)
    (subst (AreIdsOf (λ l. not (is_held t l)) links) (sym c.deref.ensures.value) c.release_orphans.ensures.gone.same))
    ∙ rw (c.release_orphans.ensures.fds, c.drop_links.ensures.streams) refl

pub returns-clause-kept : goal.returns-clause-kept
returns-clause-kept c = record { held = held (goal.at.returns-clause-kept c).After-drop_links }
