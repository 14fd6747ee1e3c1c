-- The words of a command without a reply, and of a line of a session, by the tables.
use Rattle.smx_explain.proofs.Common.{◌≡◌, ℕ, List, [], ◌∷◌, refl, sym, subst, inl, inr, rules, codes, Version}
use Rattle.smx_explain.proofs.Common.{FitsCommandIn, command_words, IsOther, IsRow, rows, Choice, SessionLine}
use Rattle.smx_explain.proofs.Common.{SessionCommand, Equals, End, Value}
use Rattle.std.proofs.Common.{◌⊎◌, append-nil}
use Rattle.smx_types.specs.declared.command.Command.{Command as AnyCommand}
use Rattle.smx_explain.specs.Columns.{AreRequest}
use Rattle.smx_explain.specs.Rows.{IsLoneCommand}
use Rattle.smx_explain.specs.declared.kinds.Choice.TheVariants.{Switch}
use Rattle.smx_explain.proofs.CommandFormLemmas.{IsCommand, form, of_form}
use Rattle.smx_explain.proofs.Spelling.{Spells}
use Rattle.smx_explain.proofs.WalkLemmas.{◌▹◌, ended, from_row, of_choice, with_args}

module _ (version : Version) where
  -- the words of a command complete a line from a choice that a command without a reply can make
  pub lone_spelled : (choice : Choice)
      → ((word : List ℕ) (values : List Value) → IsLoneCommand version word values End
      → IsOther version choice word values End)
      → (c : AnyCommand) → FitsCommandIn version c → Spells version [] choice (command_words c)
  lone_spelled choice lone c fits =
      let f = form version c fits in
      subst (λ (words : List (List ℕ)). Spells version [] choice words) (sym f.are) (
        f.values,
        End,
        inr (lone f.word f.values (f.fixed, refl)),
        subst (λ (words : List (List ℕ)). Spells version f.values End words)
            (append-nil f.args) (with_args version f.values f.args End [] f.takes tt),
      )

  -- a first word of a command without a reply, and words that complete the line after it, are those of a command
  pub of_lone : (word : List ℕ) (values : List Value) (next : Choice) → IsLoneCommand version word values next
      → (words : List (List ℕ)) → Spells version values next words → IsCommand version (word ∷ words)
  of_lone word values next (fixed, then) words h =
      of_form version word values Equals words fixed (ended version values words (rw (← then) h))

  -- a word after which a line ends completes the line
  last : (choice : Choice) (word : List ℕ) → IsRow (rows choice) word [] End → Spells version [] choice (word ∷ [])
  last choice word is = from_row version choice word [] End [] [] is tt tt

  -- `trace` and a word after it complete a line
  trace : (word : List ℕ) → IsRow (rows Switch) word [] End
      → Spells version [] SessionLine (codes "trace" ∷ word ∷ [])
  trace word is =
      from_row version SessionLine (codes "trace") [] Switch [] (word ∷ []) (search rules) tt (last Switch word is)

  -- the words of a request complete a line of a session
  pub request_spelled : (words : List (List ℕ)) → AreRequest version words → Spells version [] SessionLine words
  request_spelled words (inl is) = rw is (last SessionLine (codes "show") (search rules))
  request_spelled words (inr (inl is)) = rw is (trace (codes "on") (search rules))
  request_spelled words (inr (inr (inl is))) = rw is (trace (codes "off") (search rules))
  request_spelled words (inr (inr (inr (inl is)))) = rw is (last SessionLine (codes "end") (search rules))
  request_spelled words (inr (inr (inr (inr ((process, command), ((small, fits), told), is))))) = rw is (
    [],
    SessionCommand,
    inr ((process, small, refl), refl, refl),
    lone_spelled SessionCommand (λ word values lone. lone) command (fits, told),
  )

  -- the word after `trace` is `on` or `off`
  of_switch : (words : List (List ℕ)) → Spells version [] Switch words
      → (words ≡ codes "on" ∷ []) ⊎ (words ≡ codes "off" ∷ [])
  of_switch = of_choice Switch (λ v words. (words ≡ codes "on" ∷ []) ⊎ (words ≡ codes "off" ∷ []))
      (λ v. (λ end. inl refl) ▹ (λ end. inr refl) ▹ tt) tt version (λ end. absurd end)
      (λ word values next is. absurd is)

  -- words that complete the line after a process are those of a command
  of_command : (words : List (List ℕ)) → Spells version [] SessionCommand words → IsCommand version words
  of_command = of_choice SessionCommand IsCommand (λ v. tt) tt version (λ end. absurd end) of_lone

-- words that complete a line from its start are those of a request
pub of_session_line : (version : Version) → (words : List (List ℕ)) → Spells version [] SessionLine words
    → AreRequest version words
of_session_line version = of_choice SessionLine AreRequest
    (λ v. (λ end. inl refl)
    ▹ (λ words h. elim (of_switch v words h)
    [ inl on ↦ inr (inl (cc on)) | inr off ↦ inr (inr (inl (cc off))) ])
    ▹ (λ end. inr (inr (inr (inl refl)))) ▹ tt) tt version (λ end. absurd end)
    (λ word values next ((process, small, is), none, then) words h.
    let (c, fits, are) = of_command version words (rw (← none, ← then) h) in
    inr (inr (inr (inr ((process, c), ((small, fits.0), fits.1), cc (is, are))))))
