-- A transcript is allowed exactly if it is within the limits, can be spelled, and needs no later version.
use Rattle.smx_text.proofs.Common.{map, AllByRecursion, is_of_hangup, most_drivers, MAX_COMMANDS, Transcript, Version}
use Rattle.smx_text.proofs.Common.{V1, ConfigView, FitsEntry, TranscriptLine, view_body}
use Rattle.std.proofs.Common.{◌≡◌, ◌≤◌, List, ◌++◌, length, true}
use Rattle.smx_types.specs.Versions.{least_of_transcript}
use Rattle.smx_words.specs.Spellable.{CanTell, FitsHung}
use Rattle.smx_text.specs.TranscriptLines as line
use Rattle.smx_text.specs.TranscriptText.{IsSpellable, IsSpellableView, FitsLine, body, IsAllowed}
use Rattle.smx_text.proofs.EachLemmas.{all_left, all_right, all_append, all_map, of_map, all_both, all_parts}
use Rattle.smx_text.proofs.TranscriptVersionLemmas.{AreHungsIn, entries_expressed, hungs_expressed, needs_no_later}

module _ (version : Version) where
  -- each of these lines fits the version
  abbrev AreFit : List TranscriptLine → Type 0
  AreFit ls = AllByRecursion (FitsLine version) ls

  -- if all values of a group fit and all lines after it fit, so do the lines of the group and those after it
  joined : {X : Type 0} (f : X → TranscriptLine) (xs : List X) (rest : List TranscriptLine)
      → AllByRecursion (λ x. FitsLine version (f x)) xs → AreFit rest → AreFit (map f xs ++ rest)
  joined f xs rest h k = all_append (FitsLine version) (map f xs) rest (all_map (FitsLine version) f xs h) k

  -- if the lines of a group and those after it fit, so do the values of the group and the lines after it
  parted : {X : Type 0} (f : X → TranscriptLine) (xs : List X) (rest : List TranscriptLine)
      → AreFit (map f xs ++ rest) → AllByRecursion (λ x. FitsLine version (f x)) xs × AreFit rest
  parted f xs rest h = (
    of_map (FitsLine version) f xs (all_left (FitsLine version) (map f xs) rest h),
    all_right (FitsLine version) (map f xs) rest h,
  )

  -- each line of a transcript that can be spelled, and needs no later version than this one, fits this version
  fits_body : (t : Transcript) → IsSpellable t → (version ≡ V1 → least_of_transcript t ≡ V1) → AreFit (body t)
  fits_body t fit told =
      let view = fit.view in
      let hungs = all_both FitsHung (λ h. CanTell version true) t.view.hungs view.hungs
      (hungs_expressed version t told) in
      let entries = all_both FitsEntry (λ e. CanTell version (is_of_hangup e)) t.entries fit.entries
      (entries_expressed version t told) in
      joined line.Driver _ _ fit.drivers (joined line.Entry _ _ entries (
        tt,
        (
          (view.next_id, view.next_serial),
          joined line.Fd _ _ view.fds (joined line.Link _ _ view.links (joined line.Bind _ _ view.binds
              (joined line.Route _ _ view.routes (joined line.Msg _ _ view.msgs (joined line.Full _ _ view.fulls
              (all_map (FitsLine version) line.Hung t.view.hungs hungs)))))),
        ),
      ))

  -- if the lines of a view fit, the view can be spelled, and this version can express its hung-up streams
  view_fits : (v : ConfigView) → AreFit (view_body v) → IsSpellableView v × AreHungsIn version v.hungs
  view_fits v h =
      let fds = parted line.Fd v.fds _ h.1 in
      let links = parted line.Link v.links _ fds.1 in
      let binds = parted line.Bind v.binds _ links.1 in
      let routes = parted line.Route v.routes _ binds.1 in
      let msgs = parted line.Msg v.msgs _ routes.1 in
      let fulls = parted line.Full v.fulls _ msgs.1 in
      let hungs = all_parts FitsHung (λ x. CanTell version true) v.hungs
      (of_map (FitsLine version) line.Hung v.hungs fulls.1) in (
        record {
          next_id = h.0.0;
          next_serial = h.0.1;
          fds = fds.0;
          links = links.0;
          binds = binds.0;
          routes = routes.0;
          msgs = msgs.0;
          fulls = fulls.0;
          hungs = hungs.0;
        },
        hungs.1,
      )

-- a transcript within the limits that can be spelled, and needs no later version than its own, is allowed
pub spellable_allowed : (version : Version) (t : Transcript) → t.version ≡ version
    → length t.drivers ≤ most_drivers version → length t.entries ≤ MAX_COMMANDS → IsSpellable t
    → (version ≡ V1 → least_of_transcript t ≡ V1) → IsAllowed version t
spellable_allowed version t is drivers entries fit told =
    record { version_is = is; drivers = drivers; entries = entries; fits = fits_body version t fit told }

-- an allowed transcript can be spelled, and needs no later version
pub allowed_spellable : (version : Version) (t : Transcript) → IsAllowed version t
    → IsSpellable t × (version ≡ V1 → least_of_transcript t ≡ V1)
allowed_spellable version t allowed =
    let drivers = parted version line.Driver t.drivers _ allowed.fits in
    let entries = parted version line.Entry t.entries _ drivers.1 in
    let both = all_parts FitsEntry (λ e. CanTell version (is_of_hangup e)) t.entries entries.0 in
    let view = view_fits version t.view entries.1.1 in (
      record { drivers = drivers.0; entries = both.0; view = view.0 },
      needs_no_later version t allowed.drivers both.1 view.1,
    )
