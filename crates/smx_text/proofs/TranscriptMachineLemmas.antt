-- A transcript text is read by a machine that accepts one line after another.
use Rattle.smx_text.proofs.Common.{◌≢◌, map, refl, sym, ap, append_assoc, arith, rules, AllByRecursion, nat_tests}
use Rattle.smx_text.proofs.Common.{append-nil, length-append, map-append, nil_from_length, Entry, DriverSpec}
use Rattle.smx_text.proofs.Common.{Transcript, Version, ConfigView, HungLine, Stage, TranscriptDraft, grammar_of}
use Rattle.smx_text.proofs.Common.{lines, TranscriptLine, transcript_grammar, view_body}
use Rattle.std.proofs.Common.{◌≡◌, true, false, eqb, List, [], ◌∷◌, ◌++◌, length}
use Rattle.smx_types.specs.declared.view.BindingLine.{BindingLine}
use Rattle.smx_types.specs.declared.view.DescriptorLine.{DescriptorLine}
use Rattle.smx_types.specs.declared.view.FullLine.{FullLine}
use Rattle.smx_types.specs.declared.view.LinkLine.{LinkLine}
use Rattle.smx_types.specs.declared.view.MessageLine.{MessageLine}
use Rattle.smx_types.specs.declared.view.RouteLine.{RouteLine}
use Rattle.smx_text.specs.declared.transcript.Stage.TheVariants as stage
use Rattle.smx_text.specs.Drafts.{is_view}
use Rattle.smx_text.specs.TranscriptLines as line
use Rattle.smx_text.specs.TranscriptText.{FitsLine, body}
use Rattle.smx_text.proofs.EachLemmas.{all_append}
use Rattle.smx_text.proofs.MachineLemmas.{IsReader, IsAt, Leads, each, group}
use Rattle.smx_text.proofs.TranscriptDrafts.{draft, takes, is_full, with_line, IsWithin, completed, still, machine}

-- ---- one more line

-- a list whose length is tested to be 0 is empty
none : {A : Type 0} (xs : List A) → eqb (length xs) 0 ≡ true → xs ≡ []
none xs h = nil_from_length xs (grind (arith, nat_tests))

-- a line that a draft accepts, other than the end, comes after its other lines
longer : (s : Stage) (t : Transcript) (k : TranscriptLine) → takes (draft s t) k ≡ true → k ≢ line.End
    → lines (with_line (draft s t) k) ≡ lines (draft s t) ++ k ∷ []
longer stage.History t (line.Driver x) h other = rw (none t.entries h) (simp (map-append, append_assoc))
longer stage.History t (line.Entry x) h other = simp (map-append, append-nil, append_assoc)
longer stage.History t line.Config h other = simp append_assoc
longer stage.Config t (line.Next id serial) h other = simp append_assoc
longer stage.View t (line.Fd x) h other =
    rw (
      none t.view.links (grind (arith, nat_tests)),
      none t.view.binds (grind (arith, nat_tests)),
      none t.view.routes (grind (arith, nat_tests)),
      none t.view.msgs (grind (arith, nat_tests)),
      none t.view.fulls (grind (arith, nat_tests)),
      none t.view.hungs (grind (arith, nat_tests)),
    )
    (simp (map-append, append-nil, append_assoc))
longer stage.View t (line.Link x) h other =
    rw (
      none t.view.binds (grind (arith, nat_tests)),
      none t.view.routes (grind (arith, nat_tests)),
      none t.view.msgs (grind (arith, nat_tests)),
      none t.view.fulls (grind (arith, nat_tests)),
      none t.view.hungs (grind (arith, nat_tests)),
    ) (simp (map-append, append-nil, append_assoc))
longer stage.View t (line.Bind x) h other =
    rw (
      none t.view.routes (grind (arith, nat_tests)),
      none t.view.msgs (grind (arith, nat_tests)),
      none t.view.fulls (grind (arith, nat_tests)),
      none t.view.hungs (grind (arith, nat_tests)),
    )
    (simp (map-append, append-nil, append_assoc))
longer stage.View t (line.Route x) h other =
    rw (
      none t.view.msgs (grind (arith, nat_tests)),
      none t.view.fulls (grind (arith, nat_tests)),
      none t.view.hungs (grind (arith, nat_tests)),
    ) (simp (map-append, append-nil, append_assoc))
longer stage.View t (line.Msg x) h other =
    rw (none t.view.fulls (grind (arith, nat_tests)), none t.view.hungs (grind (arith, nat_tests)))
    (simp (map-append, append-nil, append_assoc))
longer stage.View t (line.Full x) h other =
    rw (none t.view.hungs (grind (arith, nat_tests))) (simp (map-append, append-nil, append_assoc))
longer stage.View t (line.Hung x) h other = simp (map-append, append_assoc)
longer stage.View t line.End h other = absurd (other refl)
longer s t k h other = absurd cc

-- a draft that is within the limits with one more line was so before it, and the limit for it was not reached
before : (version : Version) (d : TranscriptDraft) (k : TranscriptLine) → IsWithin version (with_line d k)
    → IsWithin version d × (is_full d k ≡ false)
before version d (line.Driver x) w = grind (arith, length-append d.transcript.drivers (x ∷ []), nat_tests)
before version d (line.Entry x) w = grind (arith, length-append d.transcript.entries (x ∷ []), nat_tests)
before version d k w = (record { version_is = w.version_is; drivers = w.drivers; entries = w.entries }, refl)

-- a draft within the limits stays within them with one more line whose limit is not reached
behind : (version : Version) (d : TranscriptDraft) (k : TranscriptLine) → is_full d k ≡ false → IsWithin version d
    → IsWithin version (with_line d k)
behind version d (line.Driver x) room w = grind (arith, length-append d.transcript.drivers (x ∷ []), nat_tests)
behind version d (line.Entry x) room w = grind (arith, length-append d.transcript.entries (x ∷ []), nat_tests)
behind version d k room w = record { version_is = w.version_is; drivers = w.drivers; entries = w.entries }

-- ---- the lines of a transcript lead to it

module _ (version : Version) (view : ConfigView) where
  -- a draft of this version with these drivers and entries, before the line `config`
  abbrev in_history : List DriverSpec → List Entry → TranscriptDraft
  in_history ds es =
      draft stage.History (record { version = version; drivers = ds; entries = es; view = view })

  -- drivers, entries and more lines lead to a draft, if the other lines lead to it after the drivers and entries
  history : (ds : List DriverSpec) (es : List Entry) (rest : List TranscriptLine) (d : TranscriptDraft)
      → Leads (machine version view) line.End (in_history ds es) rest d
      → Leads (machine version view) line.End (in_history [] []) (map line.Driver ds ++ (map line.Entry es ++ rest)) d
  history ds es rest d leads =
      let m = machine version view in
      group m line.End line.Driver (λ ds. in_history ds []) (λ xs x. (refl, (λ e. cc), refl)) ds _ d
      (group m line.End line.Entry (in_history ds) (λ xs x. (refl, (λ e. cc), refl)) es rest d leads)

  -- a draft at the stage `View`, with these groups in its view
  abbrev in_view : Transcript → List DescriptorLine → List LinkLine → List BindingLine → List RouteLine
      → List MessageLine → List FullLine → List HungLine → TranscriptDraft
  in_view t fds links binds routes msgs fulls hungs =
      draft stage.View
      (record {
        version = version;
        drivers = t.drivers;
        entries = t.entries;
        view = record {
          next_id = t.view.next_id;
          next_serial = t.view.next_serial;
          fds = fds;
          links = links;
          binds = binds;
          routes = routes;
          msgs = msgs;
          fulls = fulls;
          hungs = hungs;
        };
      })

  -- the lines of a view, accepted after `config`, give that view
  view_leads : (t : Transcript) → Leads (machine version view) line.End
      (draft stage.Config (record { version = version; drivers = t.drivers; entries = t.entries; view = view }))
      (view_body t.view) (draft stage.View (record t { version = version }))
  view_leads t =
      let v = t.view in
      let m = machine version view in
      let all =
      group m line.End line.Fd (λ xs. in_view t xs [] [] [] [] [] []) (λ xs x. (refl, (λ e. cc), refl)) v.fds _ _
      (group m line.End line.Link (λ xs. in_view t v.fds xs [] [] [] [] [])
      (λ xs x. (refl, (λ e. cc), refl)) v.links _ _
      (group m line.End line.Bind (λ xs. in_view t v.fds v.links xs [] [] [] [])
      (λ xs x. (refl, (λ e. cc), refl)) v.binds _ _
      (group m line.End line.Route (λ xs. in_view t v.fds v.links v.binds xs [] [] [])
      (λ xs x. (refl, (λ e. cc), refl)) v.routes _ _
      (group m line.End line.Msg (λ xs. in_view t v.fds v.links v.binds v.routes xs [] [])
      (λ xs x. (refl, (λ e. cc), refl)) v.msgs _ _
      (group m line.End line.Full (λ xs. in_view t v.fds v.links v.binds v.routes v.msgs xs [])
      (λ xs x. (refl, (λ e. cc), refl)) v.fulls _ _
      (each m line.End line.Hung (λ xs. in_view t v.fds v.links v.binds v.routes v.msgs v.fulls xs)
      (λ xs x. (refl, (λ e. cc), refl)) [] v.hungs)))))) in
      ((refl, (λ e. cc), all.0), all.1)

  -- the lines of a transcript lead to it in the version of the machine
  leads : (t : Transcript)
      → Leads (machine version view) line.End (machine version view).start (body t) ((machine version view).whole t)
  leads t =
      let all = view_leads t in
      history t.drivers t.entries (line.Config ∷ view_body t.view) _ ((refl, (λ e. cc), all.0), all.1)

-- ---- the shortest transcript with the lines of a draft

-- a completed transcript has the lines that were read and the fewest missing ones
completes : (s : Stage) (t : Transcript) → body (completed (draft s t)) ≡ lines (draft s t) ++ still s
completes stage.History t = simp append_assoc
completes stage.Config t = simp append_assoc
completes stage.View t = sym (append-nil (body t))

-- if the end may follow, no line is missing
no_more : (s : Stage) → is_view s ≡ true → still s ≡ []
no_more stage.View h = refl
no_more s h = absurd cc

-- the fewest missing lines fit
still_fits : (version : Version) (s : Stage) → AllByRecursion (FitsLine version) (still s)
still_fits version stage.History = search (rules, arith)
still_fits version stage.Config = search (rules, arith)
still_fits version stage.View = tt

-- the machine reads the transcript text
pub reader : (version : Version) (view : ConfigView) → IsReader (transcript_grammar version) (machine version view)
reader version view = record {
  no_lines = refl;
  starts_within = record { version_is = refl; drivers = omega arith; entries = omega arith };
  longer = λ d. longer d.stage d.transcript;
  within_before = λ d k may. before version d k;
  within_after = λ d k may. behind version d k;
  leads = leads version view;
  ends = λ t. refl;
  fits = λ t allowed. allowed.fits;
  within = λ t allowed. record { version_is = refl; drivers = allowed.drivers; entries = allowed.entries };
  value = λ t allowed. ap (λ (n : Version). record t { version = n }) (sym allowed.version_is);
  completes = λ d. completes d.stage d.transcript;
  no_more = λ d. no_more d.stage;
  allowed = λ d within fits. record {
    version_is = within.version_is;
    drivers = within.drivers;
    entries = within.entries;
    fits = rw (completes d.stage d.transcript)
        (all_append (FitsLine version) (lines d) (still d.stage) fits (still_fits version d.stage));
  };
  end_has_room = λ d. refl;
}

-- the lines of a draft lead to it
comes : (s : Stage) (t : Transcript)
    → Leads (machine t.version t.view) line.End (machine t.version t.view).start (lines (draft s t)) (draft s t)
comes stage.History t = history t.version t.view t.drivers t.entries [] _ (tt, refl)
comes stage.Config t = history t.version t.view t.drivers t.entries (line.Config ∷ []) _ ((refl, (λ e. cc), tt), refl)
comes stage.View t = leads t.version t.view t

-- the lines of a draft lead the machine of its version and view to it
pub stands : (d : TranscriptDraft) → IsAt (grammar_of d) (machine d.transcript.version d.transcript.view) (lines d) d
stands d = grind (arith, reader, reader d.transcript.version d.transcript.view, comes, comes d.stage d.transcript)
