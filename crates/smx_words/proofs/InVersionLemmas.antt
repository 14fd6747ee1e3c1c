-- The commands, replies and entries that a version can express.
use Rattle.smx_words.proofs.Common.{◌≡◌, ◌≢◌, Bool, true, false, ◌||◌, ℕ, List, Option, Some, None, ◌++◌, ◌∷◌, refl}
use Rattle.smx_words.proofs.Common.{ap, sym, ◌∙◌, ◌<◌, length, decimal, is_hangup, Command, V1, IsReadAs, FitsProcess}
use Rattle.smx_words.proofs.Common.{call_words, command_words, entry_words, reply_words, EQUALS, SPACE, IsFree}
use Rattle.smx_words.proofs.Common.{line_of}
use Rattle.std.proofs.Common.{codes, subst}
use Rattle.smx_types.specs.Versions.{tells_of_hangup}
use Rattle.smx_types.specs.declared.command.Entry.{Entry}
use Rattle.smx_types.specs.declared.version.Version.{Version}
use Rattle.smx_types.specs.declared.version.Version.TheVariants.{V2}
use Rattle.smx_words.specs.LineReading.{IsCallLine, IsEntryLine, IsLineOf}
use Rattle.smx_words.specs.Spellable.{CanTell, FitsCallIn, FitsCommandIn, FitsEntryIn, FitsReplyIn}
use Rattle.smx_words.proofs.EntryLemmas.{call_line, each_side, entry_line}
use Rattle.smx_words.proofs.DecidedLemmas.{HasWords, one_line, reading}

-- the number of a process and the line of a command of a version make the line of a call of the version
pub call_in_is : (v : Version) (line rest : List ℕ) (p : ℕ) (c : Command) → FitsProcess p
    → line ≡ decimal p ++ SPACE ∷ rest → FitsCommandIn v c → rest ≡ line_of (command_words c)
    → FitsCallIn v (p, c) × (line ≡ line_of (call_words (p, c)))
call_in_is v line rest p c small is fits behind = (
  ((small, fits.0), fits.1),
  is ∙ ap (λ (x : List ℕ). decimal p ++ SPACE ∷ x) behind ∙ sym (call_line (p, c)),
)

-- a version can express two things together if it can express each
pub can_tell_both : (v : Version) (h k : Bool) → CanTell v h → CanTell v k → CanTell v (h || k)
can_tell_both V1 true k a b = absurd (cc a)
can_tell_both V1 false k a b = b
can_tell_both V2 h k a b = tt

-- a version that can express two things together can express each
pub can_tell_each : (v : Version) (h k : Bool) → CanTell v (h || k) → CanTell v h × CanTell v k
can_tell_each V1 true k a = absurd (cc a)
can_tell_each V1 false k a = (refl, a)
can_tell_each V2 h k a = (tt, tt)

-- if a version can express an entry, it can express the entry's call
pub call_fits : (v : Version) (e : Entry) → FitsEntryIn v e → FitsCallIn v (e.process, e.command)
call_fits v e fits = (
  (fits.0.process, fits.0.command),
  (can_tell_each v (is_hangup e.command) (tells_of_hangup e.reply) fits.1).0,
)

-- if a version can express an entry, it can express the entry's reply
pub reply_fits : (v : Version) (e : Entry) → FitsEntryIn v e → FitsReplyIn v e.reply
reply_fits v e fits = (fits.0.reply, (can_tell_each v (is_hangup e.command) (tells_of_hangup e.reply) fits.1).1)

-- the lines of a call and a reply of a version, around ` = `, make the line of an entry of the version
pub entry_in_is : (v : Version) (line call reply : List ℕ) (e : Entry) → line ≡ call ++ codes " = " ++ reply
    → FitsCallIn v (e.process, e.command) × (call ≡ line_of (call_words (e.process, e.command)))
    → FitsReplyIn v e.reply × (reply ≡ line_of (reply_words e.reply))
    → FitsEntryIn v e × (line ≡ line_of (entry_words e))
entry_in_is v line call reply e is asked answered = (
  (
    record { process = asked.0.0.0; command = asked.0.0.1; reply = answered.0.0 },
    can_tell_both v (is_hangup e.command) (tells_of_hangup e.reply) asked.0.1 answered.0.1,
  ),
  is ∙ ap (λ (x : List ℕ). x ++ codes " = " ++ reply) asked.1
      ∙ ap (λ (x : List ℕ). line_of (call_words (e.process, e.command)) ++ codes " = " ++ x) answered.1
      ∙ sym (entry_line e),
)

-- a line whose side after ` = ` is no reply's is no entry's
pub no_reply : (v : Version) (line call reply : List ℕ) → IsFree EQUALS call → line ≡ call ++ codes " = " ++ reply
    → IsReadAs (FitsReplyIn v) reply_words reply None → IsReadAs (FitsEntryIn v) entry_words line None
no_reply v line call reply free is none x fits e =
    none x.reply (reply_fits v x fits) (each_side line call reply x fits.0 free is e).1

-- the lines of a call and a reply, around ` = `, are an entry's line
pub entry_in_spelled : (v : Version) (line call reply : List ℕ) → line ≡ call ++ codes " = " ++ reply
    → IsCallLine v call → IsLineOf (FitsReplyIn v) reply_words reply → IsEntryLine v line
entry_in_spelled v line call reply sides c r =
    let entry : Entry = record { process = c.0.0; command = c.0.1; reply = r.0 } in
    let all = entry_in_is v line call reply entry sides (c.1, c.2) (r.1, r.2) in
    (entry, all.0, all.1)

-- ---- it is decided whether a line is that of a value that a version can express

-- it is decided whether a version can express something
can_tell_or : (v : Version) (hangup : Bool) → Dec (CanTell v hangup)
can_tell_or V1 true = no (λ e. cc e)
can_tell_or V1 false = yes refl
can_tell_or V2 hangup = yes tt

module _ {X : Type 0} {Fits : X → Type 0} {words : X → List (List ℕ)} (d : HasWords Fits words) (hangup : X → Bool)
    (v : Version) (line : List ℕ) where
  -- if a version can't express the value of a line, the line is that of no value that it can express
  pub none_in : (x : X) → Fits x → line ≡ line_of (words x) → (CanTell v (hangup x) → ⊥)
      → (y : X) → Fits y × CanTell v (hangup y) → line ≢ line_of (words y)
  none_in x fits is cannot y told e =
      let same : x ≡ y = one_line d x y fits told.0 (sym is ∙ e) in
      cannot (subst (λ (z : X). CanTell v (hangup z)) (sym same) told.1)

  -- each line is that of a value that the version can express, or of no such value
  pub reading_in : ((x : X) → 0 < length (words x))
      → (o : Option X) × IsReadAs (λ x. Fits x × CanTell v (hangup x)) words line o
  reading_in some = let all = reading d some line in by_reading all.0 all.1 where
    by_reading : (o : Option X) → IsReadAs Fits words line o
        → (t : Option X) × IsReadAs (λ x. Fits x × CanTell v (hangup x)) words line t
    by_reading None none = (None, λ x told e. none x told.0 e)
    by_reading (Some x) found = elim (can_tell_or v (hangup x)) [
      | yes can ↦ (Some x, ((found.0, can), found.1))
      | no cannot ↦ (None, none_in x found.0 found.1 cannot)
    ]
