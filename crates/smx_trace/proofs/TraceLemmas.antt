-- A trace that is being written.
use Rattle.smx_trace.proofs.Common.{Bool, true, false, sym, ap, ◌∙◌, subst, append_assoc, if◌then◌else◌, codes}
use Rattle.smx_trace.proofs.Common.{flat_map-append, append-nil, Entry, DriverSpec, Transcript, ConfigView, step}
use Rattle.smx_trace.proofs.Common.{Configuration, empty, after, after_from, IsDriverList, view, view_of_bind}
use Rattle.smx_trace.proofs.Common.{view_of_fd, view_of_full, view_of_hung, view_of_link, view_of_route, waits}
use Rattle.smx_trace.proofs.Common.{LINE_FEED, line_of, transcript_with, TranscriptLine, changes_text, TraceLine}
use Rattle.smx_trace.proofs.Common.{queue_lines}
use Rattle.std.proofs.Common.{◌≡◌, ℕ, List, [], ◌∷◌, ◌++◌, map}
use Rattle.std.proofs.lemmas.List.Folds.{flat_map-map}
use Rattle.smx_types.specs.declared.reply.Reply.{Reply}
use Rattle.smx_types.specs.declared.version.Version.{Version}
use Rattle.smx_model.specs.Changes.{changes}
use Rattle.smx_model.proofs.HistoryLemmas.{after_push}
use Rattle.smx_config.specs.Machine.{Machine}
use Rattle.smx_words.specs.Spelling.{bind_words, descriptor_words, entry_words, full_words, hung_words, link_words}
use Rattle.smx_words.specs.Spelling.{next_words, route_words}
use Rattle.smx_words.specs.Words.{text_of}
use Rattle.smx_text.specs.Grammar.{header}
use Rattle.smx_text.specs.GrowingTranscripts.{BeginsTranscript}
use Rattle.smx_text.specs.TranscriptLines as line
use Rattle.smx_text.specs.TranscriptText.{line_words, transcript_grammar}
use Rattle.smx_trace.specs.Answers.{answered, answers}
use Rattle.smx_trace.specs.TraceWords.{waits_text}
use Rattle.smx_trace.specs.Traces.{IsTraceText, config_lines, entry_lines_from, lines_below, lines_of_entry}
use Rattle.smx_trace.specs.Traces.{trace_line_text, trace_lines_text}
use Rattle.smx_trace.specs.Traces as trace
use Rattle.smx_trace.specs.Tracing.{HasTraced, TracesEntry}
use Rattle.smx_trace.proofs.ChangeLemmas.{after_two}
use Rattle.smx_trace.proofs.ReplayLemmas.{led_from, more_from, replayed}

-- one more entry, and the lines below it
pub entries_push : (each : Bool) (drivers : List DriverSpec) (c : Configuration) (es : List Entry) (e : Entry)
    → entry_lines_from each drivers c (es ++ e ∷ [])
    ≡ entry_lines_from each drivers c es ++ lines_of_entry each drivers (after_from drivers c es) e
entries_push each drivers c [] e = simp append-nil
entries_push each drivers c (d ∷ es) e =
    simp (entries_push each drivers (step drivers c d.process d.command).0 es e, append_assoc)

-- the text of waits, where they are wanted
abbrev pub waits_if : Bool → List DriverSpec → Configuration → List ℕ
waits_if each drivers d = if each then waits_text drivers (waits drivers d) else []

-- the text of the lines below an entry
below_text : (each : Bool) (drivers : List DriverSpec) (c d : Configuration)
    → trace_lines_text drivers (lines_below each drivers c d)
    ≡ changes_text (changes (view drivers c) (view drivers d)) ++ waits_if each drivers d
below_text true drivers c d = simp (flat_map-append, flat_map-map)
below_text false drivers c d = simp (flat_map-append, flat_map-map)

-- nothing is traced yet
pub trace_begun : (each : Bool) (drivers : List DriverSpec) (opening : List ℕ) (m : Machine) → m.drivers ≡ drivers
    → m.configuration ≡ empty → HasTraced each drivers opening [] m opening
trace_begun each drivers opening m same now = record { same = same; now = now; written = sym (append-nil opening) }

-- an entry is traced, as it is written
pub entry_traced : (each : Bool) (e : Entry) (reply : Reply) (m n : Machine) (v w : ConfigView)
    (text t1 t2 t3 : List ℕ) → n.drivers ≡ m.drivers
    → step m.drivers m.configuration e.process e.command ≡ (n.configuration, reply)
    → v ≡ view m.drivers m.configuration → w ≡ view n.drivers n.configuration
    → t1 ≡ text ++ (line_of (entry_words (record e { reply = reply })) ++ LINE_FEED ∷ [])
    → t2 ≡ t1 ++ changes_text (changes v w) → t3 ≡ t2 ++ waits_if each n.drivers n.configuration
    → TracesEntry each e m n text t3
entry_traced each e reply m n v w text t1 t2 t3 kept stepped is is' e1 e2 e3 =
    let ds : List DriverSpec = m.drivers in
    let c : Configuration = m.configuration in
    let a : Entry = answered ds c e in
    let d : Configuration = (step ds c e.process e.command).0 in
    let is_d : n.configuration ≡ d = sym (ap (λ (x : Configuration × Reply). x.0) stepped) in
    let is_reply : reply ≡ a.reply = sym (ap (λ (x : Configuration × Reply). x.1) stepped) in
    let Line : Reply → List ℕ = λ r. line_of (entry_words (record e { reply = r })) ++ LINE_FEED ∷ [] in
    record {
      drivers = kept;
      performed = is_d;
      written =
          after_two text t1 t2 t3 _ _ _ (e1 ∙ ap (λ (r : Reply). text ++ Line r) is_reply)
          (rw (is, is', kept, is_d) at e2) (rw (kept, is_d) at e3)
          ∙ ap (λ (t : List ℕ). text ++ (Line a.reply ++ t)) (sym (below_text each ds c d));
    }

-- one more entry is traced
pub traced_more : (each : Bool) (drivers : List DriverSpec) (opening : List ℕ) (asked : List Entry) (e : Entry)
    (m n : Machine) (text new : List ℕ) → HasTraced each drivers opening asked m text
    → TracesEntry each e m n text new → HasTraced each drivers opening (asked ++ e ∷ []) n new
traced_more each drivers opening asked e m n text new h traced =
    let c : Configuration = after drivers asked in
    let a : Entry = answered drivers c e in
    let here : TracesEntry each e (record { drivers = drivers; configuration = c }) n text new =
    subst (λ (x : Configuration). TracesEntry each e (record { drivers = drivers; configuration = x }) n text new) h.now
    (subst (λ (ds : List DriverSpec). TracesEntry each e (record { drivers = ds; configuration = m.configuration })
    n text new) h.same traced) in
    let Text : List TraceLine → List ℕ = trace_lines_text drivers in
    let Before : List TraceLine = entry_lines_from each drivers empty (answers drivers asked) in
    let one : entry_lines_from each drivers empty (answers drivers (asked ++ e ∷ []))
    ≡ Before ++ lines_of_entry each drivers c a =
    ap (entry_lines_from each drivers empty) (more_from drivers empty asked e)
    ∙ entries_push each drivers empty (answers drivers asked) a
    ∙ ap (λ (x : Configuration). Before ++ lines_of_entry each drivers x a) (led_from drivers empty asked) in
    record {
      same = here.drivers;
      now = here.performed ∙ sym (after_push drivers asked e);
      written =
          rw (
            one,
            flat_map-append (trace_line_text drivers) Before (lines_of_entry each drivers c a),
            here.written,
            h.written,
          ) (append_assoc opening (Text Before) _);
    }

-- ---- the configuration

-- lines of a trace that are written one after the other
joined : (drivers : List DriverSpec) (xs ys : List TraceLine) (a b c : List ℕ) → b ≡ a ++ trace_lines_text drivers xs
    → c ≡ b ++ trace_lines_text drivers ys → c ≡ a ++ trace_lines_text drivers (xs ++ ys)
joined drivers xs ys a b c e f = simp (e, f, flat_map-append, append_assoc)

-- a group of a view is written
group : {X Y : Type 0} (drivers : List DriverSpec) (one : Y → TranscriptLine) (shown : X → Y) (xs : List X)
    (ys : List Y) (a b : List ℕ) → ys ≡ map shown xs → b ≡ a ++ text_of (map (λ y. line_words (one y)) ys)
    → b ≡ a ++ trace_lines_text drivers (map (λ x. trace.Plain (one (shown x))) xs)
group drivers one shown xs ys a b is e = simp (e, is, flat_map-map)

-- a configuration is written, group by group
pub configuration_written : (drivers : List DriverSpec) (c : Configuration) (v : ConfigView)
    (a b0 b1 b2 b3 b4 b5 b6 b7 b8 : List ℕ) → v ≡ view drivers c → b0 ≡ a ++ codes "config\n"
    → b1 ≡ b0 ++ (line_of (next_words (v.next_id, v.next_serial)) ++ LINE_FEED ∷ [])
    → b2 ≡ b1 ++ text_of (map descriptor_words v.fds) → b3 ≡ b2 ++ text_of (map link_words v.links)
    → b4 ≡ b3 ++ text_of (map bind_words v.binds) → b5 ≡ b4 ++ text_of (map route_words v.routes)
    → b6 ≡ b5 ++ trace_lines_text drivers (queue_lines drivers c c.flow)
    → b7 ≡ b6 ++ text_of (map full_words v.fulls) → b8 ≡ b7 ++ text_of (map hung_words v.hungs)
    → b8 ≡ a ++ trace_lines_text drivers (config_lines drivers c)
configuration_written drivers c v a b0 b1 b2 b3 b4 b5 b6 b7 b8 is e0 e1 e2 e3 e4 e5 e6 e7 e8 =
    let fds = group drivers line.Fd (view_of_fd drivers) c.fds v.fds b1 b2 (ap (λ (w : ConfigView). w.fds) is) e2 in
    let links = group drivers line.Link (view_of_link drivers) c.links v.links b2 b3
    (ap (λ (w : ConfigView). w.links) is) e3 in
    let binds = group drivers line.Bind (view_of_bind drivers) c.binds v.binds b3 b4
    (ap (λ (w : ConfigView). w.binds) is) e4 in
    let routes = group drivers line.Route (view_of_route drivers) c.routes v.routes b4 b5
    (ap (λ (w : ConfigView). w.routes) is) e5 in
    let fulls = group drivers line.Full (view_of_full drivers) c.fulls v.fulls b6 b7
    (ap (λ (w : ConfigView). w.fulls) is) e7 in
    let hungs = group drivers line.Hung (view_of_hung drivers) c.hungs v.hungs b7 b8
    (ap (λ (w : ConfigView). w.hungs) is) e8 in
    let rest = joined drivers _ _ b1 b2 b8 fds (joined drivers _ _ b2 b3 b8 links (joined drivers _ _ b3 b4 b8 binds
    (joined drivers _ _ b4 b5 b8 routes (joined drivers _ _ b5 b6 b8 e6 (joined drivers _ _ b6 b7 b8 fulls hungs))))) in
    let Next : ConfigView → List ℕ = λ w. line_of (next_words (w.next_id, w.next_serial)) ++ LINE_FEED ∷ [] in
    after_two a b0 b1 b8 (codes "config\n") (Next (view drivers c)) _ e0
    (e1 ∙ ap (λ (w : ConfigView). b0 ++ Next w) is) rest

-- ---- the whole text

-- the opening of a transcript
opening_is : (version : Version) (drivers : List DriverSpec) (opening : List ℕ)
    → BeginsTranscript version drivers [] opening
    → opening ≡ header (transcript_grammar version) ++ LINE_FEED
    ∷ trace_lines_text drivers (map (λ d. trace.Plain (line.Driver d)) drivers)
opening_is version drivers opening b =
    let lines : text_of (map line_words (map line.Driver drivers))
    ≡ trace_lines_text drivers (map (λ d. trace.Plain (line.Driver d)) drivers) = simp flat_map-map in
    b.written
    ∙ ap (λ (ls : List TranscriptLine). (header (transcript_grammar version) ++ LINE_FEED ∷ [])
    ++ text_of (map line_words ls)) (append-nil (map line.Driver drivers))
    ∙ append_assoc (header (transcript_grammar version)) (LINE_FEED ∷ []) _
    ∙ ap (λ (t : List ℕ). header (transcript_grammar version) ++ LINE_FEED ∷ t) lines

-- the lines that a trace has written, with those of its configuration and the last, make the text of a trace
pub whole_trace : (each : Bool) (t : Transcript) (m : Machine) (shown : ConfigView)
    (opening lines text output : List ℕ) → IsDriverList t.drivers → BeginsTranscript t.version t.drivers [] opening
    → HasTraced each t.drivers opening t.entries m lines → shown ≡ view m.drivers m.configuration
    → text ≡ lines ++ trace_lines_text m.drivers (config_lines m.drivers m.configuration)
    → output ≡ text ++ codes "end\n" → IsTraceText each t output
whole_trace each t m shown opening lines text output can begins h is wrote ended =
    let ds = t.drivers in
    let es : List Entry = answers ds t.entries in
    let c : Configuration = after ds t.entries in
    let at_the_end : shown ≡ view ds c =
    is ∙ ap (λ (x : List DriverSpec). view x m.configuration) h.same ∙ ap (view ds) h.now in
    let Drivers : List TraceLine = map (λ d. trace.Plain (line.Driver d)) ds in
    let Entries : List TraceLine = entry_lines_from each ds empty es in
    let Head : List ℕ = header (transcript_grammar t.version) in
    let texts : text ≡ lines ++ trace_lines_text ds (config_lines ds c) =
    wrote ∙ ap (λ (x : List DriverSpec). lines ++ trace_lines_text x (config_lines x m.configuration)) h.same
    ∙ ap (λ (x : Configuration). lines ++ trace_lines_text ds (config_lines ds x)) h.now in
    let last : output ≡ text ++ trace_lines_text ds (trace.Plain line.End ∷ []) = ended in
    let led : after ds es ≡ c = led_from ds empty t.entries in
    let rest : output ≡ opening ++ trace_lines_text ds (Entries ++ (config_lines ds c ++ trace.Plain line.End ∷ [])) =
    joined ds Entries _ opening lines output h.written
    (joined ds (config_lines ds c) (trace.Plain line.End ∷ []) lines text output texts last) in
    record {
      replay = transcript_with t.version ds es shown;
      replays = replayed t shown can at_the_end;
      written =
          rest
          ∙ ap (λ (w : List ℕ). w ++ trace_lines_text ds (Entries ++ (config_lines ds c ++ trace.Plain line.End ∷ [])))
          (opening_is t.version ds opening begins)
          ∙ append_assoc Head _ _
          ∙ ap (λ (w : List ℕ). Head ++ LINE_FEED ∷ w)
          (sym (flat_map-append (trace_line_text ds) Drivers
          (Entries ++ (config_lines ds c ++ trace.Plain line.End ∷ []))))
          ∙ ap (λ (x : Configuration). Head ++ LINE_FEED ∷ trace_lines_text ds
          (Drivers ++ (Entries ++ (config_lines ds x ++ trace.Plain line.End ∷ [])))) (sym led);
    }
