-- A history without a hangup reports none.
use Rattle.smx_model.proofs.Common.{◌≡◌, ℕ, zero, suc, Bool, true, false, ◌&&◌, eqb, List, [], ◌∷◌, Option, Some, None}
use Rattle.smx_model.proofs.Common.{Result, Ok, Err, refl, rules, sym, ap, ◌∙◌, inl, inr, list_any, both_ways, and_from}
use Rattle.smx_model.proofs.Common.{eq-eqb, false_from_ne_true, false≢true, or_cases, or_left, or_parts, or_right}
use Rattle.smx_model.proofs.Common.{ProgramLists, is_hangup, Command, Entry, Which, DriverSpec, Link, LinkKind, Fault}
use Rattle.smx_model.proofs.Common.{Place, StreamId, Transcript, outcome, step, done_outcome, link_outcome, cases_Bool}
use Rattle.smx_model.proofs.Common.{receive_outcome, unlink_outcome, Configuration, empty, is_hung, IsReportOf, after}
use Rattle.smx_model.proofs.Common.{after_from, HoldsPrograms, IsLegal, IsLegalFrom, IsKept, free_stream, live_leaf}
use Rattle.smx_model.proofs.Common.{live_stream, mux_stream, Outcome, refuse, without_links, arith, or_from}
use Rattle.std.specs.Prelude.{slice_index_or}
use Rattle.std.specs.Option.{ok_or}
use Rattle.smx_types.specs.Versions.{is_of_hangup, least_of_programs}
use Rattle.smx_types.specs.Versions.{least_of_transcript, tells_of_hangup, version_2_where}
use Rattle.smx_types.specs.declared.command.Command.TheVariants as command
use Rattle.smx_types.specs.declared.command.Which.TheVariants as which
use Rattle.smx_types.specs.declared.reply.Fault.TheVariants as fault
use Rattle.smx_types.specs.declared.reply.Reply.TheVariants as reply
use Rattle.smx_types.specs.declared.version.Version.TheVariants.{V1}
use Rattle.smx_model.specs.Commands.{read_outcome}
use Rattle.smx_model.specs.Histories.{commands_of}
use Rattle.smx_model.specs.Outcomes.{◌>>=◌}
use Rattle.smx_model.proofs.HungStreamLemmas.{others_leave_hungs}
use Rattle.smx_model.proofs.KeptLemmas.{empty_kept, step_keeps}

-- ---- without hung-up streams, a command other than a hangup reports none

-- calm by a test: an accepted value fails the test, and a refusal is not for a hangup
abbrev calm_of : {A : Type 0} → (A → Bool) → Result A Fault → Type 0
calm_of tells (Ok x) = tells x ≡ false
calm_of tells (Err f) = tells_of_hangup (reply.Fault f) ≡ false

-- the same as `calm_of`, as a record, so that a search finds the parts of the outcome
record IsCalm {A : Type 0} (tells : A → Bool) (r : Result A Fault) : Type 0 where
  told : calm_of tells r

-- an accepted value that doesn't pass the test is calm
calm_ok : {A : Type 0} (tells : A → Bool) (x : A) → tells x ≡ false → IsCalm tells (Ok x)
calm_ok tells x h = record { told = h }

-- an optional value is calm, if the fault for its absence is not that of a hangup
calm_some : {A : Type 0} (g : Fault) (o : Option A) → tells_of_hangup (reply.Fault g) ≡ false
    → IsCalm (λ x. false) (ok_or o g)
calm_some g (Some x) h = record { told = refl }
calm_some g None h = record { told = h }

-- a refusal that is not for a hangup, followed by a calm result, is calm
calm_test : {A : Type 0} (tells : A → Bool) (g : Fault) (b : Bool) (f : Unit {0} → Result A Fault)
    → tells_of_hangup (reply.Fault g) ≡ false → IsCalm tells (f tt) → IsCalm tells (refuse g b >>= f)
calm_test tells g false f h k = k
calm_test tells g true f h k = record { told = h }

-- without hung-up streams, the refusal for a hangup, followed by a calm result, is calm
calm_hung : {A : Type 0} (tells : A → Bool) (c : Configuration) (s : StreamId) (f : Unit {0} → Result A Fault)
    → c.hungs ≡ [] → IsCalm tells (f tt) → IsCalm tells (refuse fault.HungUp (is_hung c.hungs s) >>= f)
calm_hung tells c s f none k = rw none k

-- two steps are calm, if the first is not refused for a hangup, and the second is calm for each value of the first
calm_then : {A B : Type 0} (tells : B → Bool) (r : Result A Fault) (f : A → Result B Fault) → IsCalm (λ x. false) r
    → ((x : A) → IsCalm tells (f x)) → IsCalm tells (r >>= f)
calm_then tells (Ok x) f h k = k x
calm_then tells (Err g) f h k = record { told = h.told }

-- the look-up of a descriptor's stream that is not linked below is not refused for a hangup
calm_free : (c : Configuration) (process fd : ℕ) → IsCalm (λ s. false) (free_stream c process fd)
calm_free c process fd = search (calm_then, calm_test, calm_some, calm_ok, rules) depth 12

-- without hung-up streams, the look-up of a descriptor's live stream is not refused for a hangup
calm_live : (c : Configuration) (process fd : ℕ) → c.hungs ≡ [] → IsCalm (λ s. false) (live_stream c process fd)
calm_live c process fd none = search (calm_then, calm_free, calm_hung, calm_ok, rules) depth 12

-- the look-up of a descriptor's stream of a multiplexer is not refused for a hangup
calm_mux : (drivers : List DriverSpec) (c : Configuration) (process fd : ℕ)
    → IsCalm (λ s. false) (mux_stream drivers c process fd)
calm_mux drivers c process fd = search (calm_then, calm_free, calm_test, calm_ok, rules) depth 12

-- without hung-up streams, the look-up of a leaf driver's live stream is not refused for a hangup
calm_live_leaf : (drivers : List DriverSpec) (c : Configuration) (name : List ℕ) (minor : ℕ) → c.hungs ≡ []
    → IsCalm (λ s. false) (live_leaf drivers c name minor)
calm_live_leaf drivers c name minor none = grind (arith, calm_then, calm_hung, calm_test, calm_some, calm_ok)

-- neither the reply of an accepted command nor the fault of a refused one reports a hangup
abbrev IsQuiet : Outcome → Type 0
IsQuiet o = IsCalm (λ x. tells_of_hangup x.1) o

-- a command that is done reports no hangup
quiet_done : (drivers : List DriverSpec) (c d : Configuration) → IsQuiet (done_outcome drivers c d)
quiet_done drivers c d = record { told = refl }

-- without hung-up streams, linking reports no hangup
quiet_linked : (drivers : List DriverSpec) (c : Configuration) (process fd arg : ℕ) (k : LinkKind) → c.hungs ≡ []
    → IsQuiet (link_outcome drivers c process fd arg k)
quiet_linked drivers c process fd arg k none = grind (arith, calm_then, calm_hung, calm_test, calm_some, calm_ok)

-- unlinking reports no hangup
quiet_unlinked : (drivers : List DriverSpec) (c : Configuration) (w : Which) (mine : Link → Bool)
    → IsQuiet (unlink_outcome drivers c w mine)
quiet_unlinked drivers c which.All mine = quiet_done drivers c (without_links c mine)
quiet_unlinked drivers c (which.Id id) mine = search (calm_test, quiet_done, rules) depth 12

-- delivering a place's first message reports no hangup, and neither does the absence of one
quiet_received : (drivers : List DriverSpec) (c : Configuration) (p : Place) → IsQuiet (receive_outcome drivers c p)
quiet_received drivers c p = search (calm_then, calm_some, calm_ok, rules) depth 12

-- without hung-up streams, a read reports no hangup
quiet_read : (drivers : List DriverSpec) (c : Configuration) (s : StreamId) → c.hungs ≡ []
    → IsQuiet (read_outcome drivers c s)
quiet_read drivers c s none = grind arith

-- without hung-up streams, the outcome of a command other than a hangup reports none
quiet_accepted : (drivers : List DriverSpec) (c : Configuration) (process : ℕ) (k : Command) → c.hungs ≡ []
    → is_hangup k ≡ false → IsQuiet (outcome drivers c process k)
quiet_accepted drivers c process (command.OpenClone name) none other = grind (arith, calm_then, calm_some, calm_ok)
quiet_accepted drivers c process (command.OpenMinor name minor) none other =
    search (calm_then, calm_test, calm_some, calm_ok, rules) depth 20
quiet_accepted drivers c process (command.Dup fd) none other = search (calm_then, calm_some, calm_ok, rules) depth 20
quiet_accepted drivers c process (command.Close fd) none other = grind (arith, calm_then, calm_some, quiet_done)
quiet_accepted drivers c process command.CloseAll none other = search (quiet_done, rules) depth 20
quiet_accepted drivers c process (command.Link fd arg) none other = quiet_linked drivers c process fd arg _ none
quiet_accepted drivers c process (command.Plink fd arg) none other = quiet_linked drivers c process fd arg _ none
quiet_accepted drivers c process (command.Unlink fd w) none other = grind (arith, calm_then, calm_mux, quiet_unlinked)
quiet_accepted drivers c process (command.Punlink fd w) none other = grind (arith, calm_then, calm_mux, quiet_unlinked)
quiet_accepted drivers c process (command.Bind fd addr) none other =
    search (calm_then, calm_test, calm_mux, quiet_done, rules) depth 20
quiet_accepted drivers c process (command.Unbind fd) none other =
    search (calm_then, calm_test, calm_mux, quiet_done, rules) depth 20
quiet_accepted drivers c process (command.Route fd addr id) none other =
    search (calm_then, calm_test, calm_mux, quiet_done, rules) depth 20
quiet_accepted drivers c process (command.Unroute fd addr) none other =
    search (calm_then, calm_test, calm_mux, quiet_done, rules) depth 20
quiet_accepted drivers c process (command.Write fd addr bytes) none other =
    search (calm_then, calm_test, calm_live, calm_ok, rules) depth 20
quiet_accepted drivers c process (command.Read fd) none other = grind (arith, calm_then, calm_free, quiet_read)
quiet_accepted drivers c process (command.Flush fd w) none other = grind (arith, calm_then, calm_live, quiet_done)
quiet_accepted drivers c process (command.Inject name minor addr bytes) none other =
    search (calm_then, calm_test, calm_live_leaf, calm_ok, rules) depth 20
quiet_accepted drivers c process (command.Transmit name minor) none other =
    search (calm_then, calm_live_leaf, quiet_received, rules) depth 20
quiet_accepted drivers c process (command.Hangup name minor) none other = absurd (false≢true (sym other))

-- without hung-up streams, the reply to a command other than a hangup reports none
quiet_step : (drivers : List DriverSpec) (c : Configuration) (process : ℕ) (k : Command) → c.hungs ≡ []
    → is_hangup k ≡ false → tells_of_hangup (step drivers c process k).1 ≡ false
quiet_step drivers c process k none other = grind (arith, quiet_accepted drivers c process k none other)

-- if no stream of a sound and settled configuration has hung up, none has after a command other than a hangup
none_left : (drivers : List DriverSpec) (c : Configuration) (process : ℕ) (k : Command) → IsKept drivers c
    → c.hungs ≡ [] → is_hangup k ≡ false → (step drivers c process k).0.hungs ≡ []
none_left drivers c process k h none other = grind (arith, others_leave_hungs drivers c process k h.sound.swept other)

-- ---- a history without a hangup

-- entries without a hangup that are legal from a sound and settled configuration without hung-up streams are not
-- among those that only version 2 has
quiet_from : (drivers : List DriverSpec) (c : Configuration) (es : List Entry) → IsKept drivers c → c.hungs ≡ []
    → IsLegalFrom drivers c es → list_any (λ e. is_hangup e.command) es ≡ false → list_any is_of_hangup es ≡ false
quiet_from drivers c [] h none legal other = refl
quiet_from drivers c (e ∷ es) h none legal other =
    let p = or_parts (is_hangup e.command) (list_any (λ e. is_hangup e.command) es) other in
    or_from _ _ (or_from _ _ p.0 (ap tells_of_hangup (sym legal.0) ∙ quiet_step drivers c e.process e.command none p.0))
    (quiet_from drivers (step drivers c e.process e.command).0 es (step_keeps drivers c e.process e.command h)
    (none_left drivers c e.process e.command h none p.0) legal.1 p.1)

-- a legal history without a hangup has no entry that only version 2 has
pub quiet_replies : (drivers : List DriverSpec) (history : List Entry) → IsLegal drivers history
    → list_any (λ e. is_hangup e.command) history ≡ false → list_any is_of_hangup history ≡ false
quiet_replies drivers history legal other = quiet_from drivers empty history (empty_kept drivers) refl legal other

-- after entries without a hangup, from a sound and settled configuration without hung-up streams, no stream has hung up
hungs_from : (drivers : List DriverSpec) (c : Configuration) (es : List Entry) → IsKept drivers c → c.hungs ≡ []
    → list_any (λ e. is_hangup e.command) es ≡ false → (after_from drivers c es).hungs ≡ []
hungs_from drivers c [] h none other = none
hungs_from drivers c (e ∷ es) h none other =
    let p = or_parts (is_hangup e.command) (list_any (λ e. is_hangup e.command) es) other in
    hungs_from drivers (step drivers c e.process e.command).0 es (step_keeps drivers c e.process e.command h)
    (none_left drivers c e.process e.command h none p.0) p.1

-- after a history without a hangup no stream has hung up
pub quiet_streams : (drivers : List DriverSpec) (history : List Entry)
    → list_any (λ e. is_hangup e.command) history ≡ false → (after drivers history).hungs ≡ []
quiet_streams drivers history other = hungs_from drivers empty history (empty_kept drivers) refl other

-- ---- a report of programs without a hangup

-- if one of a process' entries is a hangup, one of its commands is
of_process : (p : ℕ) (es : List Entry) → list_any (λ e. eqb e.process p && is_hangup e.command) es ≡ true
    → list_any is_hangup (commands_of p es) ≡ true
of_process p [] h = h
of_process p (e ∷ es) h = elim (cases_Bool (eqb e.process p))
    [ inl t ↦ rw t (grind (arith, of_process p es, rw t at h)) | inr f ↦ rw f (of_process p es (rw f at h)) ]

-- a process with an entry that is a hangup
record OfSome (es : List Entry) : Type 0 where
  process : ℕ
  hangs : list_any (λ e. eqb e.process process && is_hangup e.command) es ≡ true

-- if some entry is a hangup, it is one of some process
of_some : (es : List Entry) → list_any (λ e. is_hangup e.command) es ≡ true → OfSome es
of_some [] h = absurd (false≢true h)
of_some (e ∷ es) h = elim (or_cases (is_hangup e.command) (list_any (λ e. is_hangup e.command) es) h) [
  | inl a ↦ record { process = e.process; hangs = or_left _ _ (and_from _ _ (eq-eqb e.process e.process refl) a) }
  | inr b ↦ let r = of_some es b in record { process = r.process; hangs = or_right _ _ r.hangs }
]

-- if a process' program has a hangup, some program of the list has one
in_program : (programs : List (List Command)) (p : ℕ) → list_any is_hangup (slice_index_or programs p []) ≡ true
    → list_any (list_any is_hangup) programs ≡ true
in_program [] p h = absurd (false≢true h)
in_program (x ∷ xs) zero h = or_left _ _ h
in_program (x ∷ xs) (suc p) h = or_right _ _ (in_program xs p h)

-- a history that holds programs without a hangup has none
none_held : (history : List Entry) (programs : List (List Command)) → HoldsPrograms history programs
    → list_any (list_any is_hangup) programs ≡ false → list_any (λ e. is_hangup e.command) history ≡ false
none_held history programs holds none = false_from_ne_true _ (λ h. let r = of_some history h in
    both_ways _ none (in_program programs r.process
    (ap (list_any is_hangup) (sym (holds r.process)) ∙ of_process r.process history r.hangs)))

-- if the earliest version for something is version 1, nothing needs version 2
needs_none : (b : Bool) → version_2_where b ≡ V1 → b ≡ false
needs_none true e = absurd cc
needs_none false e = refl

-- version 1 can express a report for programs that it can express
pub report_is_quiet : (programs : ProgramLists) (report : Transcript) → IsReportOf programs report
    → least_of_programs programs.drivers programs.programs ≡ V1 → least_of_transcript report ≡ V1
report_is_quiet programs report h least = grind (arith, needs_none, none_held, quiet_replies, quiet_streams)
