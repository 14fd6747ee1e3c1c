-- Removing what belongs to dead streams from a configuration, stream by stream.
use Rattle.smx_tables.proofs.Common.{◌≡◌, ℕ, ◌+◌, Bool, true, false, ◌&&◌, ◌||◌, not, eqb, List, [], ◌∷◌, ◌++◌}
use Rattle.smx_tables.proofs.Common.{filter, take, refl, sym, ap, ◌∙◌, arith, and-false, and-true, not-not, nat_tests}
use Rattle.smx_tables.proofs.Common.{DriverSpec, Place, StreamId, Configuration, QueuedMessage, same_stream, is_hung}
use Rattle.smx_tables.proofs.Common.{without_dead_streams, StreamTable, TellsExisting, is_dead, without_streams}
use Rattle.smx_tables.proofs.Common.{IsTouched}
use Rattle.smx_types.specs.declared.link.Binding.{Binding}
use Rattle.smx_model.proofs.EachLemmas.{each_of_list_all}
use Rattle.smx_streams.specs.StreamTables.{exists as is_there}
use Rattle.smx_tables.proofs.AboveLemmas.{stream_is}
use Rattle.smx_tables.proofs.BelowLemmas.{tests_less}
use Rattle.smx_tables.proofs.HungLemmas.{all_pass}
use Rattle.smx_tables.proofs.RemovalLemmas.{kept_alike, none_passes, same_kept}
use Rattle.smx_tables.proofs.WatchLemmas.{listed_more}

-- ---- the stream of each item

-- the stream of a binding
abbrev bound : Binding → StreamId
bound b = record { driver = b.driver; minor = b.minor }

-- the stream at which a message is queued
abbrev queued : QueuedMessage → StreamId
queued h = h.place.stream

-- the stream of a full place
abbrev marked : Place → StreamId
marked p = p.stream

-- ---- three lists of a configuration

-- a configuration with these bindings, messages and full places
abbrev parts : Configuration → List Binding → List QueuedMessage → List Place → Configuration
parts c binds flow fulls = record c { binds = binds; flow = flow; fulls = fulls }

-- equal parts make equal configurations
same_parts : (c : Configuration) (xs bs : List Binding) (hs gs : List QueuedMessage) (ps qs : List Place)
    → xs ≡ bs → hs ≡ gs → ps ≡ qs → parts c xs hs ps ≡ parts c bs gs qs
same_parts c xs bs hs gs ps qs a b d = cc

-- a test that no stream passes removes nothing
none_goes : (c : Configuration) (f : StreamId → Bool) → ((x : StreamId) → f x ≡ false) → c ≡ without_streams c f
none_goes c f h = sym (same_parts c _ c.binds _ c.flow _ c.fulls
    (none_passes (λ b. f (bound b)) c.binds (λ b. h (bound b)))
    (none_passes (λ m. f (queued m)) c.flow (λ m. h (queued m)))
    (none_passes (λ p. f (marked p)) c.fulls (λ p. h (marked p))))

-- removing the streams of one test and then those of another removes the streams of either
goes_more : (c : Configuration) (f g both : StreamId → Bool) → ((x : StreamId) → both x ≡ (f x || g x))
    → without_streams (without_streams c f) g ≡ without_streams c both
goes_more c f g both h = same_parts c _ _ _ _ _ _
    (tests_less (λ b. f (bound b)) (λ b. g (bound b)) (λ b. both (bound b)) c.binds _ _ (λ b. h (bound b)) refl refl)
    (tests_less (λ m. f (queued m)) (λ m. g (queued m)) (λ m. both (queued m)) c.flow _ _ (λ m. h (queued m)) refl refl)
    (tests_less (λ p. f (marked p)) (λ p. g (marked p)) (λ p. both (marked p)) c.fulls _ _ (λ p. h (marked p)) refl
    refl)

-- ---- one stream

-- a stream that is not in the table loses its binding, and the messages and full marks of both its sides
pub one_gone : (c : Configuration) (t : StreamTable) (s : StreamId)
    (binds : List Binding) (flow : List QueuedMessage) (fulls : List Place)
    → is_there t s ≡ false → binds ≡ filter (λ b. not (eqb b.driver s.driver && eqb b.minor s.minor)) c.binds
    → flow ≡ filter (λ h. not (same_stream h.place.stream s && true)) c.flow
    → fulls ≡ filter (λ p. not (same_stream p.stream s && true)) c.fulls
    → parts c binds flow fulls ≡ without_streams c (is_dead t (s ∷ []))
one_gone c t s binds flow fulls gone no_bind no_message no_mark = grind (arith, same_parts, same_kept, bound, and-true)

-- a stream in the table loses nothing
pub none_gone : (c : Configuration) (t : StreamTable) (s : StreamId) → is_there t s ≡ true
    → c ≡ without_streams c (is_dead t (s ∷ []))
none_gone c t s there = grind (arith, none_goes c (is_dead t (s ∷ [])), stream_is, and-false)

-- ---- all streams

-- no stream has been examined, so nothing is removed
pub none_gone_yet : (c : Configuration) (t : StreamTable) → c ≡ without_streams c (is_dead t [])
none_gone_yet c t = none_goes c (is_dead t []) (λ x. and-false (not (is_there t x)))

-- what is left after one more stream
pub one_more_gone : (old c new : Configuration) (t u : StreamTable) (seen : List StreamId) (i : ℕ) (s : StreamId)
    → u ≡ t → take (i + 1) seen ≡ take i seen ++ s ∷ [] → c ≡ without_streams old (is_dead t (take i seen))
    → new ≡ without_streams c (is_dead u (s ∷ [])) → new ≡ without_streams old (is_dead t (take (i + 1) seen))
one_more_gone old c new t u seen i s here taken_one e f =
    f ∙ ap (λ (x : StreamTable). without_streams c (is_dead x (s ∷ []))) here
    ∙ ap (λ (x : Configuration). without_streams x (is_dead t (s ∷ []))) e
    ∙ goes_more old (is_dead t (take i seen)) (is_dead t (s ∷ [])) (is_dead t (take (i + 1) seen)) more where
      more : (x : StreamId) → is_dead t (take (i + 1) seen) x ≡ (is_dead t (take i seen) x || is_dead t (s ∷ []) x)
      more x = ap (λ (ss : List StreamId). is_dead t ss x) taken_one
          ∙ ap (λ (b : Bool). not (is_there t x) && b) (listed_more x (take i seen) s) ∙ grind (arith, nat_tests)

-- if all streams that ceased to exist were seen, what belongs to streams that don't exist is removed
pub all_gone : (drivers : List DriverSpec) (c : Configuration) (t : StreamTable) (seen : List StreamId)
    → TellsExisting drivers c t → IsTouched t seen c → ((x : StreamId) → is_hung c.hungs x ≡ true → is_there t x ≡ true)
    → without_streams c (is_dead t seen) ≡ without_dead_streams drivers c
all_gone drivers c t seen told touched hung =
    grind (arith, same_parts, kept_alike, each_of_list_all, bound, not-not, all_pass)
