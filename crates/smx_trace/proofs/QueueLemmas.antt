-- Queued messages that are left to be written, and their waits.
use Rattle.smx_trace.proofs.Common.{◌<◌, Bool, true, false, ◌||◌, eqb, get_or, not, Result, Option, Some, None, refl}
use Rattle.smx_trace.proofs.Common.{sym, ap, ◌∙◌, arith, append_assoc, inl, inr, AllByRecursion, list_any, codes}
use Rattle.smx_trace.proofs.Common.{if◌then◌else◌, nat_lt, cases_Bool, false_from_ne_true, or_from, or_parts}
use Rattle.smx_trace.proofs.Common.{nat_tests, flat_map-append, append-nil, DriverSpec, Place, MessageLine}
use Rattle.smx_trace.proofs.Common.{Configuration, QueuedMessage, is_at, IsDriverList, view_of_message, Wait, wait_at}
use Rattle.smx_trace.proofs.Common.{LINE_FEED, line_of, IsLeft, queues_left, TraceLine, queue_lines}
use Rattle.std.proofs.Common.{◌≡◌, ℕ, ◌&&◌, List, [], ◌∷◌, ◌++◌, length, map, ◌≤◌, Ok, Err}
use Rattle.std.specs.List.{cons_option, filter_map}
use Rattle.std.specs.Fmt.{decimal}
use Rattle.std.specs.Option.{is_some, ok_or, option_map_or}
use Rattle.std.specs.Result.{result_ok}
use Rattle.std.specs.Str.{bytes_eq}
use Rattle.std.proofs.lemmas.List.Elements.{recursion_from_All}
use Rattle.std.proofs.lemmas.Option.{slice_get-get_or}
use Rattle.std.proofs.lemmas.Slice.Eq.{bytes_eq-Decides}
use Rattle.smx_types.specs.Drivers.{spec_check}
use Rattle.smx_types.specs.declared.driver.SpecFault.TheVariants.{BadMinors}
use Rattle.smx_types.specs.declared.message.Message.{Message}
use Rattle.smx_types.specs.declared.reply.Fault.{Fault}
use Rattle.smx_types.specs.declared.reply.Fault.TheVariants.{NoDriver}
use Rattle.smx_types.specs.declared.stream.StreamId.{StreamId}
use Rattle.smx_model.specs.Configuration.{place_before, same_place, same_side}
use Rattle.smx_model.specs.DriverList.{minors_of, name_of}
use Rattle.smx_model.specs.KeptConfigurations.{IsKept}
use Rattle.smx_model.specs.KnownStreams.{IsKnown}
use Rattle.smx_model.specs.Lookups.{driver_of}
use Rattle.smx_model.specs.Queues.{first_message, is_full}
use Rattle.smx_model.specs.Settling.{◌>>=◌, IsSettled, is_movable, next_place}
use Rattle.smx_model.specs.Waits.{Reason, places_in, reason_at, reason_of_end}
use Rattle.smx_model.specs.Waits as reason
use Rattle.smx_tables.proofs.DriverNameLemmas.{found_by_name, number_of, some_driver}
use Rattle.smx_words.specs.Spelling.{side_word}
use Rattle.smx_words.specs.Words.{SPACE}
use Rattle.smx_text.specs.TranscriptLines as line
use Rattle.smx_trace.proofs.ChangeLemmas.{after_two}
use Rattle.smx_trace.specs.Queues.{AreQueued, begins_with_place, place_with, wait_below}
use Rattle.smx_trace.specs.TraceWords.{reason_words, wait_text, waits_text, words_of_place}
use Rattle.smx_trace.specs.Traces.{trace_line_text, trace_lines_text, wait_line}
use Rattle.smx_trace.specs.Traces as trace

-- ---- the last message of a queue

-- of two places, neither before the other, both are the same
place_either : (p q : Place) → same_place q p ≡ false → place_before q p ≡ false → place_before p q ≡ true
place_either p q h k = grind (arith, nat_tests)

-- if p comes before q, and r doesn't come before q, r differs from p
place_differs : (p q r : Place) → place_before p q ≡ true → place_before r q ≡ false → same_place r p ≡ false
place_differs p q r h k = grind (arith, nat_tests)

-- after a message at a later place, no message is at this one
none_at : (p q : Place) (hs : List QueuedMessage) → place_before p q ≡ true
    → AllByRecursion (λ j. place_before j.place q ≡ false) hs → list_any (is_at p) hs ≡ false
none_at p q [] lt h = refl
none_at p q (j ∷ hs) lt h =
    or_from (is_at p j) (list_any (is_at p) hs) (place_differs p q j.place lt h.0) (none_at p q hs lt h.1)

-- drivers with the same name have the same number
one_number : (drivers : List DriverSpec) (m n : ℕ) → IsDriverList drivers → m < length drivers → n < length drivers
    → name_of drivers m ≡ name_of drivers n → m ≡ n
one_number drivers m n can lt lt' same =
    let e : Some m ≡ Some n =
    sym (found_by_name drivers m can lt) ∙ ap (number_of drivers) same ∙ found_by_name drivers n can lt' in cc

-- names are compared as numbers are
same_names : (drivers : List DriverSpec) (m n : ℕ) → IsDriverList drivers → m < length drivers → n < length drivers
    → bytes_eq (name_of drivers m) (name_of drivers n) ≡ eqb m n
same_names drivers m n can lt lt' = elim (cases_Bool (eqb m n)) [
  | inl t ↦
      let is : m ≡ n = grind (arith, nat_tests, t) in
      (bytes_eq-Decides _ _).1 (ap (name_of drivers) is) ∙ sym t
  | inr f ↦
      false_from_ne_true _ (λ t. let is = one_number drivers m n can lt lt' ((bytes_eq-Decides _ _).0 t) in
      grind (arith, nat_tests, is, f)) ∙ sym f
]

-- the next line is of the same place exactly if a later message is
pub next_at : (drivers : List DriverSpec) (h : QueuedMessage) (hs : List QueuedMessage) → IsDriverList drivers
    → AreQueued drivers (h ∷ hs)
    → begins_with_place (map (view_of_message drivers) hs) (view_of_message drivers h) ≡ list_any (is_at h.place) hs
next_at drivers h [] can q = refl
next_at drivers h (k ∷ ks) can q = first ∙ elim (cases_Bool (is_at h.place k)) [
  | inl t ↦ rw t refl
  | inr f ↦ rw f (sym (none_at h.place k.place ks
      (place_either h.place k.place f q.ordered.0.0) q.ordered.1.0))
] where
  names : bytes_eq (name_of drivers k.place.stream.driver) (name_of drivers h.place.stream.driver)
      ≡ eqb k.place.stream.driver h.place.stream.driver
  names = same_names drivers k.place.stream.driver h.place.stream.driver can q.known.1.0.0 q.known.0.0

  and_assoc : (a b d : Bool) → (a && (b && d)) ≡ ((a && b) && d)
  and_assoc true b d = refl
  and_assoc false b d = refl

  first : begins_with_place (map (view_of_message drivers) (k ∷ ks)) (view_of_message drivers h)
      ≡ is_at h.place k
  first = rw names (and_assoc (eqb k.place.stream.driver h.place.stream.driver)
      (eqb k.place.stream.minor h.place.stream.minor) (same_side k.place.side h.place.side))

-- a valid driver has few minors
few_minors : (d : DriverSpec) → spec_check d ≡ Ok tt → d.minors ≤ 64
few_minors d e = elim (cases_Bool (nat_lt d.minors 1 || nat_lt 64 d.minors)) [
  | inl t ↦ let k : Err BadMinors ≡ Ok tt = rw t at e in absurd (cc)
  | inr f ↦ let g = (or_parts (nat_lt d.minors 1) (nat_lt 64 d.minors) f).1 in grind (arith, nat_tests, g)
]

-- the numbers of a stream that the drivers have are small
pub small_driver : (drivers : List DriverSpec) (s : StreamId) → IsDriverList drivers → IsKnown drivers s
    → s.driver ≤ 255
small_driver drivers s can known = omega (arith, can.few, known.0)

pub small_minor : (drivers : List DriverSpec) (s : StreamId) → IsDriverList drivers → IsKnown drivers s
    → s.minor ≤ 255
small_minor drivers s can known =
    let here : minors_of drivers s.driver ≡ (get_or drivers s.driver some_driver).minors =
    ap (λ (o : Option DriverSpec). option_map_or (λ d. d.minors) o 0)
    (slice_get-get_or drivers s.driver some_driver known.0) in
    let few : (get_or drivers s.driver some_driver).minors ≤ 64 =
    few_minors (get_or drivers s.driver some_driver) (can.each s.driver some_driver known.0) in
    omega (arith, here, few, known.1)

-- the stream's driver is found by its name
pub known_driver : (drivers : List DriverSpec) (s : StreamId) → IsDriverList drivers → IsKnown drivers s
    → driver_of drivers (name_of drivers s.driver) ≡ Ok s.driver
known_driver drivers s can known =
    ap (λ (o : Option ℕ). ok_or o NoDriver) (found_by_name drivers s.driver can known.0)

-- ---- the reason

-- the reason by the next place
abbrev reason_by : List DriverSpec → Configuration → Place → ℕ → Option Place → Option Reason
reason_by drivers c p addr o = elim o [
  | None ↦ Some (reason_of_end drivers c p addr)
  | Some q ↦ if is_full c q then Some (reason.FullPlace q) else None
]

-- the next place can be moved to
abbrev opens : Configuration → Option Place → Bool
opens c o = is_some (o >>= (λ q. if is_full c q then None else Some q))

-- whether the first message of a place can move, by its next place
pub moves_by : (drivers : List DriverSpec) (c : Configuration) (p : Place) (m : Message)
    → first_message c.flow p ≡ Some m → is_movable drivers c p ≡ opens c (next_place drivers c p m.addr)
moves_by drivers c p m first = ap (λ (o : Option Message). is_some (o >>= (λ n. next_place drivers c p n.addr
    >>= (λ q. if is_full c q then None else Some q)))) first

-- it has a reason exactly if it can't
pub reason_or_opens : (drivers : List DriverSpec) (c : Configuration) (p : Place) (addr : ℕ) (o : Option Place)
    → is_some (reason_by drivers c p addr o) ≡ not (opens c o)
reason_or_opens drivers c p addr None = refl
reason_or_opens drivers c p addr (Some q) =
    elim (cases_Bool (is_full c q)) [ inl t ↦ rw t refl | inr f ↦ rw f refl ]

-- a value that is there
some_is : {X : Type 0} (o : Option X) → is_some o ≡ true → (x : X) × (o ≡ Some x)
some_is None e = absurd (cc)
some_is (Some x) e = (x, refl)

-- the first message of a settled place has a reason
pub settled_reason : (drivers : List DriverSpec) (c : Configuration) (p : Place) (m : Message) → IsSettled drivers c
    → first_message c.flow p ≡ Some m → (r : Reason) × (reason_at drivers c p m.addr ≡ Some r)
settled_reason drivers c p m settled first = some_is (reason_at drivers c p m.addr)
    (reason_or_opens drivers c p m.addr (next_place drivers c p m.addr)
    ∙ ap not (sym (moves_by drivers c p m first) ∙ settled p))

-- the wait of a first message with a reason
pub wait_is : (drivers : List DriverSpec) (c : Configuration) (p : Place) (m : Message) (r : Reason)
    → first_message c.flow p ≡ Some m → reason_at drivers c p m.addr ≡ Some r
    → wait_at drivers c p ≡ Some (record { place = p; serial = m.serial; reason = r })
wait_is drivers c p m r first is =
    let With : ℕ → Reason → Option Wait = λ serial why. Some (record { place = p; serial = serial; reason = why }) in
    ap (λ (o : Option Message). o >>= (λ n. reason_at drivers c p n.addr >>= (λ why. With n.serial why))) first
    ∙ ap (λ (o : Option Reason). o >>= (λ why. With m.serial why)) is

-- the line of a wait
abbrev line_by : Option Wait → List TraceLine
line_by o = elim o [ None ↦ [] | Some w ↦ trace.Waits w ∷ [] ]

pub wait_with : (drivers : List DriverSpec) (c : Configuration) (p : Place) (m : Message) (r : Reason)
    → first_message c.flow p ≡ Some m → reason_at drivers c p m.addr ≡ Some r
    → wait_line drivers c p ≡ trace.Waits (record { place = p; serial = m.serial; reason = r }) ∷ []
wait_with drivers c p m r first is = ap line_by (wait_is drivers c p m r first is)

-- a place without messages has no wait
pub no_wait : (drivers : List DriverSpec) (c : Configuration) (p : Place) → first_message c.flow p ≡ None
    → wait_line drivers c p ≡ []
no_wait drivers c p none = ap (λ (o : Option Message). line_by (o >>= (λ m. reason_at drivers c p m.addr
    >>= (λ why. Some (record { place = p; serial = m.serial; reason = why }))))) none

-- a reason has words
some_words : (drivers : List DriverSpec) (r : Reason) (x : List ℕ)
    → line_of (x ∷ reason_words drivers r) ≡ x ++ SPACE ∷ line_of (reason_words drivers r)
some_words drivers (reason.NoRoute addr) x = refl
some_words drivers (reason.NotBound addr driver) x = refl
some_words drivers (reason.FullPlace q) x = refl
some_words drivers (reason.HungStream s) x = refl
some_words drivers reason.ForDevice x = refl
some_words drivers reason.ForRead x = refl

-- the words of a wait in a row
rearranged : (o a n m s d w space colon end : List ℕ)
    → ((((((o ++ a) ++ (n ++ (space ++ (m ++ (space ++ s))))) ++ space) ++ d) ++ (colon ++ space)) ++ w) ++ end
    ≡ o ++ ((a ++ ((n ++ (space ++ (m ++ (space ++ (s ++ (space ++ ((d ++ colon) ++ (space ++ w)))))))) ++ end)) ++ [])
rearranged o a n m s d w space colon end = simp (append_assoc, append-nil)

-- a wait is written, word by word
pub wait_written : (drivers : List DriverSpec) (c : Configuration) (p : Place) (m : Message) (r : Reason)
    (o0 o1 o2 o3 o4 o5 o6 o7 : List ℕ) → first_message c.flow p ≡ Some m → reason_at drivers c p m.addr ≡ Some r
    → o1 ≡ o0 ++ codes "  waits " → o2 ≡ o1 ++ line_of (words_of_place drivers p) → o3 ≡ o2 ++ codes " "
    → o4 ≡ o3 ++ decimal m.serial → o5 ≡ o4 ++ codes ": " → o6 ≡ o5 ++ line_of (reason_words drivers r)
    → o7 ≡ o6 ++ codes "\n" → o7 ≡ o0 ++ trace_lines_text drivers (wait_line drivers c p)
wait_written drivers c p m r o0 o1 o2 o3 o4 o5 o6 o7 first is e1 e2 e3 e4 e5 e6 e7 =
    let Name : List ℕ = name_of drivers p.stream.driver in
    let Minor : List ℕ = decimal p.stream.minor in
    let Side : List ℕ = side_word p.side in
    rw (e7, e6, e5, e4, e3, e2, e1) (rearranged o0 (codes "  waits ") Name Minor Side (decimal m.serial)
    (line_of (reason_words drivers r)) (SPACE ∷ []) (codes ":") (LINE_FEED ∷ [])
    ∙ ap (λ (w : List ℕ). o0 ++ ((codes "  waits "
    ++ ((Name ++ SPACE ∷ (Minor ++ SPACE ∷ (Side ++ SPACE ∷ w))) ++ LINE_FEED ∷ [])) ++ []))
    (sym (some_words drivers r (decimal m.serial ++ codes ":")))
    ∙ ap (λ (ls : List TraceLine). o0 ++ trace_lines_text drivers ls) (sym (wait_with drivers c p m r first is)))

-- ---- a line and its place

-- the driver that is found by the line's name
pub found_driver : (drivers : List DriverSpec) (h : QueuedMessage) (x : MessageLine) (r : Result ℕ Fault) (o : Option ℕ)
    → IsDriverList drivers → IsKnown drivers h.place.stream → x ≡ view_of_message drivers h
    → r ≡ driver_of drivers x.driver → o ≡ result_ok r → o ≡ Some h.place.stream.driver
found_driver drivers h x r o can known is found ok =
    ok ∙ ap result_ok (found ∙ ap (λ (l : MessageLine). driver_of drivers l.driver) is
    ∙ known_driver drivers h.place.stream can known)

-- the place of a line
pub place_is : (drivers : List DriverSpec) (h : QueuedMessage) (x : MessageLine) (n : ℕ)
    → x ≡ view_of_message drivers h → Some n ≡ Some h.place.stream.driver
    → Some (place_with n x.minor x.side) ≡ Some h.place
place_is drivers h x n is e =
    let same : n ≡ h.place.stream.driver = cc in
    ap (λ (l : MessageLine). Some (place_with n l.minor l.side)) is
    ∙ ap (λ (d : ℕ). Some (place_with d h.place.stream.minor h.place.side)) same

-- the numbers of a line are small
pub small_line : (drivers : List DriverSpec) (h : QueuedMessage) (x : MessageLine) (n : ℕ) → IsDriverList drivers
    → IsKnown drivers h.place.stream → x ≡ view_of_message drivers h → Some n ≡ Some h.place.stream.driver
    → (n ≤ 255) × (x.minor ≤ 255)
small_line drivers h x n can known is e =
    let same : n ≡ h.place.stream.driver = cc in
    let minor : x.minor ≡ h.place.stream.minor = ap (λ (l : MessageLine). l.minor) is in (
      omega (arith, same, small_driver drivers h.place.stream can known),
      omega (arith, minor, small_minor drivers h.place.stream can known),
    )

-- ---- the last message of a queue has the wait below it

-- the next line of lines that are known
begins_is : (drivers : List DriverSpec) (h : QueuedMessage) (hs : List QueuedMessage) (x : MessageLine)
    (rest : List MessageLine) → IsDriverList drivers → x ≡ view_of_message drivers h
    → rest ≡ map (view_of_message drivers) hs → AreQueued drivers (h ∷ hs)
    → begins_with_place rest x ≡ list_any (is_at h.place) hs
begins_is drivers h hs x rest can one others q =
    ap (λ (ls : List MessageLine). begins_with_place ls x) others
    ∙ ap (begins_with_place (map (view_of_message drivers) hs)) one ∙ next_at drivers h hs can q

-- more messages of the queue follow
pub more_follow : (drivers : List DriverSpec) (c : Configuration) (h : QueuedMessage) (hs : List QueuedMessage)
    (x : MessageLine) (rest : List MessageLine) (out : List ℕ) → IsDriverList drivers
    → true ≡ begins_with_place rest x → x ≡ view_of_message drivers h
    → rest ≡ map (view_of_message drivers) hs → AreQueued drivers (h ∷ hs)
    → out ≡ out ++ trace_lines_text drivers (wait_below drivers c h hs)
more_follow drivers c h hs x rest out can begins one others q =
    let k : list_any (is_at h.place) hs ≡ true = sym (begins_is drivers h hs x rest can one others q) ∙ sym begins in
    sym (append-nil out)
    ∙ ap (λ (b : Bool). out ++ trace_lines_text drivers (if b then [] else wait_line drivers c h.place)) (sym k)

-- it is the last of the queue
pub last_waits : (drivers : List DriverSpec) (c : Configuration) (h : QueuedMessage) (hs : List QueuedMessage)
    (x : MessageLine) (rest : List MessageLine) (p : Place) (out new : List ℕ) → IsDriverList drivers
    → false ≡ begins_with_place rest x → Some p ≡ Some h.place
    → new ≡ out ++ trace_lines_text drivers (wait_line drivers c p)
    → x ≡ view_of_message drivers h → rest ≡ map (view_of_message drivers) hs → AreQueued drivers (h ∷ hs)
    → new ≡ out ++ trace_lines_text drivers (wait_below drivers c h hs)
last_waits drivers c h hs x rest p out new can begins at written one others q =
    let k : list_any (is_at h.place) hs ≡ false = sym (begins_is drivers h hs x rest can one others q) ∙ sym begins in
    let same : p ≡ h.place = cc in
    written ∙ ap (λ (r : Place). out ++ trace_lines_text drivers (wait_line drivers c r)) same
    ∙ ap (λ (b : Bool). out ++ trace_lines_text drivers (if b then [] else wait_line drivers c h.place)) (sym k)

-- ---- what is left

module _ {drivers : List DriverSpec} {flow : List QueuedMessage} {text : List QueuedMessage → List ℕ}
    {start out : List ℕ} where
  -- nothing is left
  pub all_written : (rest : List MessageLine) → rest ≡ [] → text [] ≡ [] → IsLeft drivers flow text start out rest
      → out ≡ start ++ text flow
  all_written rest e none l = by l.left l.shown l.written where
    by : (hs : List QueuedMessage) → rest ≡ map (view_of_message drivers) hs → out ++ text hs ≡ start ++ text flow
        → out ≡ start ++ text flow
    by [] s w = sym (append-nil out) ∙ ap (λ (t : List ℕ). out ++ t) (sym none) ∙ w
    by (h ∷ hs) s w = let k : [] ≡ view_of_message drivers h ∷ map (view_of_message drivers) hs = sym e ∙ s in cc

  -- one more message is written with its wait
  pub one_more_queued : (rest more : List MessageLine) (x : MessageLine) (new : List ℕ) → rest ≡ x ∷ more
      → IsLeft drivers flow text start out rest
      → ((h : QueuedMessage) (hs : List QueuedMessage) → x ≡ view_of_message drivers h
      → more ≡ map (view_of_message drivers) hs → AreQueued drivers (h ∷ hs) → new ++ text hs ≡ out ++ text (h ∷ hs))
      → IsLeft drivers flow text start new more
  one_more_queued rest more x new e l writes = by l.left l.shown l.queued l.written where
    by : (hs : List QueuedMessage) → rest ≡ map (view_of_message drivers) hs → AreQueued drivers hs
        → out ++ text hs ≡ start ++ text flow → IsLeft drivers flow text start new more
    by [] s q w = let k : x ∷ more ≡ [] = sym e ∙ s in absurd (cc)
    by (h ∷ hs) s q w =
        let k : x ∷ more ≡ view_of_message drivers h ∷ map (view_of_message drivers) hs = sym e ∙ s in
        let one : x ≡ view_of_message drivers h = cc in
        let others : more ≡ map (view_of_message drivers) hs = cc in record {
          left = hs;
          shown = others;
          queued = record { ordered = q.ordered.1; known = q.known.1 };
          written = writes h hs one others q ∙ w;
        }

-- all messages are left
pub all_left : (drivers : List DriverSpec) (c : Configuration) (text : List QueuedMessage → List ℕ) (out : List ℕ)
    (lines : List MessageLine) → IsKept drivers c → lines ≡ map (view_of_message drivers) c.flow
    → IsLeft drivers c.flow text out out lines
all_left drivers c text out lines kept is = record {
  left = c.flow;
  shown = is;
  queued = record {
    ordered = kept.sound.ordered.flow;
    known = recursion_from_All (λ h. IsKnown drivers h.place.stream) c.flow kept.sound.known.flow;
  };
  written = refl;
}

-- the waits of these messages are that below the first, and those of the others
waits_step : (drivers : List DriverSpec) (c : Configuration) (h : QueuedMessage) (hs : List QueuedMessage)
    (out new : List ℕ) → new ≡ out ++ trace_lines_text drivers (wait_below drivers c h hs)
    → new ++ queues_left false drivers c hs ≡ out ++ queues_left false drivers c (h ∷ hs)
waits_step drivers c h hs out new e =
    ap (λ (t : List ℕ). t ++ queues_left false drivers c hs) e ∙ append_assoc out _ _
    ∙ ap (λ (t : List ℕ). out ++ t) (by_any (list_any (is_at h.place) hs)) where
      by_wait : (o : Option Wait)
          → trace_lines_text drivers (line_by o) ++ waits_text drivers (filter_map (wait_at drivers c) (places_in hs))
          ≡ waits_text drivers (cons_option o (filter_map (wait_at drivers c) (places_in hs)))
      by_wait None = refl
      by_wait (Some w) = append_assoc (wait_text drivers w) [] _

      by_any : (b : Bool)
          → trace_lines_text drivers (if b then [] else wait_line drivers c h.place) ++ queues_left false drivers c hs
          ≡ waits_text drivers (filter_map (wait_at drivers c) (if b then places_in hs else h.place ∷ places_in hs))
      by_any true = refl
      by_any false = by_wait (wait_at drivers c h.place)

-- the same of messages and their waits
queues_step : (drivers : List DriverSpec) (c : Configuration) (h : QueuedMessage) (hs : List QueuedMessage)
    (out mid new : List ℕ)
    → mid ≡ out ++ trace_line_text drivers (trace.Plain (line.Msg (view_of_message drivers h)))
    → new ≡ mid ++ trace_lines_text drivers (wait_below drivers c h hs)
    → new ++ queues_left true drivers c hs ≡ out ++ queues_left true drivers c (h ∷ hs)
queues_step drivers c h hs out mid new e f =
    let Line : List ℕ = trace_line_text drivers (trace.Plain (line.Msg (view_of_message drivers h))) in
    after_two out mid new (new ++ queues_left true drivers c hs) Line _ (queues_left true drivers c hs) e f refl
    ∙ ap (λ (t : List ℕ). out ++ (Line ++ t))
    (sym (flat_map-append (trace_line_text drivers) (wait_below drivers c h hs) (queue_lines drivers c hs)))

-- the text of the first message, if it is shown, and its wait are followed by the text of the others
pub left_step : (shown : Bool) (drivers : List DriverSpec) (c : Configuration) (h : QueuedMessage)
    (hs : List QueuedMessage) (out mid new : List ℕ)
    → mid ≡ out ++ (
    if shown then trace_line_text drivers (trace.Plain (line.Msg (view_of_message drivers h))) else []
    )
    → new ≡ mid ++ trace_lines_text drivers (wait_below drivers c h hs)
    → new ++ queues_left shown drivers c hs ≡ out ++ queues_left shown drivers c (h ∷ hs)
left_step true drivers c h hs out mid new e f = queues_step drivers c h hs out mid new e f
left_step false drivers c h hs out mid new e f =
    waits_step drivers c h hs out new
    (f ∙ ap (λ (t : List ℕ). t ++ trace_lines_text drivers (wait_below drivers c h hs)) (e ∙ append-nil out))

-- no message has no text
pub none_left : (shown : Bool) (drivers : List DriverSpec) (c : Configuration) → queues_left shown drivers c [] ≡ []
none_left true drivers c = refl
none_left false drivers c = refl
