-- The words of a reply, by the table of replies.
use Rattle.smx_explain.proofs.Common.{◌≡◌, ℕ, true, false, List, [], ◌∷◌, map, refl, sym, subst, inl, inr, rules}
use Rattle.smx_explain.proofs.Common.{codes, decimal, AllByRecursion, Version, V1, V2, CanTell, FitsNumber, IsRow}
use Rattle.smx_explain.proofs.Common.{rows, rows_in, Choice, Serials, End, Number, Bytes}
use Rattle.smx_types.specs.Versions.{tells_of_hangup}
use Rattle.smx_types.specs.declared.reply.Fault.{Fault}
use Rattle.smx_types.specs.declared.reply.Fault.TheVariants as fault
use Rattle.smx_types.specs.declared.reply.Reply.{Reply as AnyReply}
use Rattle.smx_types.specs.declared.reply.Reply.TheVariants as reply
use Rattle.smx_words.specs.HexWords.{hex_word}
use Rattle.smx_words.specs.Spellable.{FitsReplyIn}
use Rattle.smx_words.specs.Spelling.{fault_words, reply_words}
use Rattle.smx_explain.specs.Rows.{replies}
use Rattle.smx_explain.specs.declared.kinds.Choice.TheVariants.{Reply, BadDescriptor, Invalid, Again, NoDevice}
use Rattle.smx_explain.proofs.Spelling.{Spells}
use Rattle.smx_explain.proofs.WalkLemmas.{◌▹◌, from_row, number, of_choice, tells}

-- ---- each reply is spelled by the table

module _ (version : Version) where
  -- a fixed word after which the line ends completes the line
  last : (choice : Choice) (word : List ℕ) → IsRow (rows choice) word [] End → Spells version [] choice (word ∷ [])
  last choice word is = from_row version choice word [] End [] [] is tt tt

  -- the words of a fault, an error and a reason, complete a reply
  both : (error : List ℕ) (choice : Choice) (word : List ℕ) → IsRow replies error [] choice
      → IsRow (rows choice) word [] End → Spells version [] Reply (error ∷ word ∷ [])
  both error choice word is wrong = from_row version Reply error [] choice [] (word ∷ []) is tt (last choice word wrong)

  -- the words of the fault of a hung-up stream complete a reply, in a version that has them
  hung_up : CanTell version true → Spells version [] Reply (fault_words fault.HungUp)
  hung_up told = from_row version Reply (codes "ENXIO") [] NoDevice [] (codes "hangup" ∷ []) (search rules) tt
      (of_version_2 version told) where
        of_version_2 : (v : Version) → CanTell v true → Spells v [] NoDevice (codes "hangup" ∷ [])
        of_version_2 V1 told = absurd (cc told)
        of_version_2 V2 told = ([], End, inl (inl (refl, refl, refl)), tt)

  -- the words of a fault of a version complete a reply
  fault_spelled : (f : Fault) → CanTell version (tells_of_hangup (reply.Fault f))
      → Spells version [] Reply (fault_words f)
  fault_spelled fault.BadDescriptor told = both (codes "EBADF") BadDescriptor (codes "fd") (search rules) (search rules)
  fault_spelled fault.Below told = both (codes "EINVAL") Invalid (codes "below") (search rules) (search rules)
  fault_spelled fault.NotMux told = both (codes "EINVAL") Invalid (codes "notmux") (search rules) (search rules)
  fault_spelled fault.AlreadyBelow told = both (codes "EINVAL") Invalid (codes "already") (search rules) (search rules)
  fault_spelled fault.Cycle told = both (codes "EINVAL") Invalid (codes "cycle") (search rules) (search rules)
  fault_spelled fault.TooManyLinks told = both (codes "EAGAIN") Again (codes "links") (search rules) (search rules)
  fault_spelled fault.NoLink told = both (codes "EINVAL") Invalid (codes "id") (search rules) (search rules)
  fault_spelled fault.NoDriver told = both (codes "ENXIO") NoDevice (codes "driver") (search rules) (search rules)
  fault_spelled fault.NoMinor told = both (codes "ENXIO") NoDevice (codes "minor") (search rules) (search rules)
  fault_spelled fault.TooManyDescriptors told = last Reply (codes "EMFILE") (search rules)
  fault_spelled fault.AddressInUse told = last Reply (codes "EADDRINUSE") (search rules)
  fault_spelled fault.Unbound told = both (codes "EINVAL") Invalid (codes "unbound") (search rules) (search rules)
  fault_spelled fault.Unrouted told = both (codes "EINVAL") Invalid (codes "unrouted") (search rules) (search rules)
  fault_spelled fault.Full told = both (codes "EAGAIN") Again (codes "full") (search rules) (search rules)
  fault_spelled fault.Empty told = both (codes "EAGAIN") Again (codes "empty") (search rules) (search rules)
  fault_spelled fault.BadSize told = last Reply (codes "ERANGE") (search rules)
  fault_spelled fault.HungUp told = hung_up told

  -- the words of serials complete the line
  serials_spelled : (ns : List ℕ) → AllByRecursion FitsNumber ns → Spells version [] Serials (map decimal ns)
  serials_spelled [] all = tt
  serials_spelled (n ∷ ns) all = ([], Serials, inr (number n all.0, refl, refl), serials_spelled ns all.1)

  -- the words of a reply of a version complete a reply
  pub reply_spelled : (r : AnyReply) → FitsReplyIn version r → Spells version [] Reply (reply_words r)
  reply_spelled (reply.Fd fd minor) (fits, told) =
      from_row version Reply (codes "fd") (Number ∷ Number ∷ []) End (decimal fd ∷ decimal minor ∷ []) [] (search rules)
      (number fd fits.0, (number minor fits.1, tt)) tt
  reply_spelled (reply.Id id) (fits, told) =
      from_row version Reply (codes "id") (Number ∷ []) End (decimal id ∷ []) [] (search rules) (number id fits, tt) tt
  reply_spelled (reply.Took serial) (fits, told) =
      from_row version Reply (codes "took") (Number ∷ []) End (decimal serial ∷ []) [] (search rules)
      (number serial fits, tt) tt
  reply_spelled (reply.Got serial addr bytes) (fits, told) =
      from_row version Reply (codes "got") (Number ∷ Number ∷ Bytes ∷ []) End
      (decimal serial ∷ decimal addr ∷ hex_word bytes ∷ []) [] (search rules)
      (number serial fits.0, (number addr fits.1, ((bytes, fits.2, refl), tt))) tt
  reply_spelled (reply.Done dropped) (fits, told) =
      from_row version Reply (codes "done") [] Serials [] (map decimal dropped) (search rules) tt
      (serials_spelled dropped fits)
  reply_spelled reply.Eof (fits, told) = of_version_2 version told where
    of_version_2 : (v : Version) → CanTell v true → Spells v [] Reply (codes "eof" ∷ [])
    of_version_2 V1 told = absurd (cc told)
    of_version_2 V2 told = ([], End, inl (inl (refl, refl, refl)), tt)
  reply_spelled (reply.Fault f) (fits, told) = fault_spelled f told

-- ---- what the table spells is a reply

-- a reply of a version has these words
abbrev pub IsReply : Version → List (List ℕ) → Type 0
IsReply version words = (r : AnyReply) × FitsReplyIn version r × (reply_words r ≡ words)

module _ (version : Version) where
  -- a fault that each version has is a reply
  wrong : (f : Fault) → tells_of_hangup (reply.Fault f) ≡ false → IsReply version (fault_words f)
  wrong f none = (reply.Fault f, (tt, subst (CanTell version) (sym none) (tells version)), refl)

  -- words that complete the line from its serials are those of serials
  of_serials : (words : List (List ℕ)) → Spells version [] Serials words
      → (ns : List ℕ) × AllByRecursion FitsNumber ns × (map decimal ns ≡ words)
  of_serials [] h = ([], tt, refl)
  of_serials (word ∷ words) (values, next, inl is, h) = absurd (none version is) where
    none : (v : Version) → IsRow (rows_in v Serials) word values next → ⊥
    none V1 is = is
    none V2 is = is
  of_serials (word ∷ words) (values, next, inr ((n, fits, is), none, then), h) =
      let t = of_serials words (rw (← none, ← then) h) in
      (n ∷ t.0, (fits, t.1), cc (is, t.2))

-- after an error, some words are those of a fault
abbrev AreAfter : List ℕ → Version → List (List ℕ) → Type 0
AreAfter error version words = IsReply version (error ∷ words)

-- after `EINVAL`
of_invalid : (version : Version) → (words : List (List ℕ)) → Spells version [] Invalid words
    → IsReply version (codes "EINVAL" ∷ words)
of_invalid version = of_choice Invalid (AreAfter (codes "EINVAL"))
    (λ v. (λ end. wrong v fault.Below refl) ▹ (λ end. wrong v fault.NotMux refl)
    ▹ (λ end. wrong v fault.AlreadyBelow refl) ▹ (λ end. wrong v fault.Cycle refl) ▹ (λ end. wrong v fault.NoLink refl)
    ▹ (λ end. wrong v fault.Unbound refl) ▹ (λ end. wrong v fault.Unrouted refl) ▹ tt) tt version
    (λ end. absurd end) (λ word values next is. absurd is)

-- after `EAGAIN`
of_again : (version : Version) → (words : List (List ℕ)) → Spells version [] Again words
    → IsReply version (codes "EAGAIN" ∷ words)
of_again version = of_choice Again (AreAfter (codes "EAGAIN"))
    (λ v. (λ end. wrong v fault.TooManyLinks refl) ▹ (λ end. wrong v fault.Full refl)
    ▹ (λ end. wrong v fault.Empty refl) ▹ tt) tt version (λ end. absurd end) (λ word values next is. absurd is)

-- after `EBADF`
of_descriptor : (version : Version) → (words : List (List ℕ)) → Spells version [] BadDescriptor words
    → IsReply version (codes "EBADF" ∷ words)
of_descriptor version = of_choice BadDescriptor (AreAfter (codes "EBADF"))
    (λ v. (λ end. wrong v fault.BadDescriptor refl) ▹ tt) tt version (λ end. absurd end)
    (λ word values next is. absurd is)

-- after `ENXIO`
of_device : (version : Version) → (words : List (List ℕ)) → Spells version [] NoDevice words
    → IsReply version (codes "ENXIO" ∷ words)
of_device version = of_choice NoDevice (AreAfter (codes "ENXIO"))
    (λ v. (λ end. wrong v fault.NoDriver refl) ▹ (λ end. wrong v fault.NoMinor refl) ▹ tt)
    ((λ end. (reply.Fault fault.HungUp, (tt, tt), refl)) ▹ tt) version (λ end. absurd end)
    (λ word values next is. absurd is)

-- words that complete a reply from its start are those of a reply of that version
pub of_reply : (version : Version) → (words : List (List ℕ)) → Spells version [] Reply words → IsReply version words
of_reply version = of_choice Reply IsReply
    (λ v. (λ ((a, is_a), ((b, is_b), end)).
    (reply.Fd is_a.0 is_b.0, ((is_a.1, is_b.1), tells v), cc (is_a.2, is_b.2)))
    ▹ (λ ((a, is_a), end). (reply.Id is_a.0, (is_a.1, tells v), cc is_a.2))
    ▹ (λ ((a, is_a), end). (reply.Took is_a.0, (is_a.1, tells v), cc is_a.2))
    ▹ (λ ((a, is_a), ((b, is_b), ((c, is_c), end))).
    (reply.Got is_a.0 is_b.0 is_c.0, ((is_a.1, is_b.1, is_c.1), tells v), cc (is_a.2, is_b.2, is_c.2)))
    ▹ (λ words h. let t = of_serials v words h in (reply.Done t.0, (t.1, tells v), cc t.2))
    ▹ of_descriptor v ▹ of_invalid v ▹ of_again v ▹ of_device v
    ▹ (λ end. wrong v fault.TooManyDescriptors refl) ▹ (λ end. wrong v fault.AddressInUse refl)
    ▹ (λ end. wrong v fault.BadSize refl) ▹ tt)
    ((λ end. (reply.Eof, (tt, tt), refl)) ▹ tt) version (λ end. absurd end) (λ word values next is. absurd is)
