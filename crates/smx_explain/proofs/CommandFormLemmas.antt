-- The words of a command, by the table of commands.
use Rattle.smx_explain.proofs.Common.{◌≡◌, ℕ, true, List, [], ◌∷◌, refl, inl, rules, codes, decimal, AllByRecursion}
use Rattle.smx_explain.proofs.Common.{Version, V1, V2, CanTell, FitsCommandIn, command_words, IsFixed, IsRow, WordRow}
use Rattle.smx_explain.proofs.Common.{rows_in, Choice, Equals, Value, Name, Number, Bytes}
use Rattle.smx_types.specs.declared.command.Command.{Command as AnyCommand}
use Rattle.smx_types.specs.declared.command.Command.TheVariants as command
use Rattle.smx_explain.specs.Rows.{commands}
use Rattle.smx_explain.specs.declared.kinds.Choice.TheVariants.{Command}
use Rattle.smx_explain.specs.declared.kinds.Value.TheVariants.{Which, Sides}
use Rattle.smx_explain.proofs.CompleteLemmas.{fixed_in}
use Rattle.smx_explain.proofs.RowLemmas.{all_rows, row_of}
use Rattle.smx_explain.proofs.ShapeLemmas.{Words, each, words_of}
use Rattle.smx_explain.proofs.Spelling.{Takes}
use Rattle.smx_explain.proofs.WalkLemmas.{◌▹◌, number, tells}

-- a word of the table, and words for the values after it
pub record HasForm (version : Version) (c : AnyCommand) : Type 0 where
  pub word : List ℕ
  pub args : List (List ℕ)
  pub values : List Value
  pub are : command_words c ≡ word ∷ args
  pub fixed : IsFixed version Command word values Equals
  pub takes : Takes values args

-- ---- each command has a form

module _ (version : Version) where
  -- a command whose words are those of a row, and words for its values, has a form
  formed : (c : AnyCommand) (word : List ℕ) (values : List Value) (args : List (List ℕ))
      → command_words c ≡ word ∷ args → IsRow commands word values Equals → Takes values args → HasForm version c
  formed c word values args are is takes = record {
    word = word;
    args = args;
    values = values;
    are = are;
    fixed = fixed_in version Command word values Equals is;
    takes = takes;
  }

  -- each command of a version has a form
  pub form : (c : AnyCommand) → FitsCommandIn version c → HasForm version c
  form (command.OpenClone driver) (fits, told) = formed _ (codes "clone") (Name ∷ []) _ refl (search rules) (fits, tt)
  form (command.OpenMinor driver minor) (fits, told) =
      formed _ (codes "open") (Name ∷ Number ∷ []) _ refl (search rules) (fits.0, (number minor fits.1, tt))
  form (command.Dup fd) (fits, told) = formed _ (codes "dup") (Number ∷ []) _ refl (search rules) (number fd fits, tt)
  form (command.Close fd) (fits, told) =
      formed _ (codes "close") (Number ∷ []) _ refl (search rules) (number fd fits, tt)
  form command.CloseAll (fits, told) = formed _ (codes "exit") [] _ refl (search rules) tt
  form (command.Link fd arg) (fits, told) =
      formed _ (codes "link") (Number ∷ Number ∷ []) _ refl (search rules) (number fd fits.0, (number arg fits.1, tt))
  form (command.Plink fd arg) (fits, told) = formed _ (codes "plink") (Number ∷ Number ∷ []) _ refl (search rules)
      (number fd fits.0, (number arg fits.1, tt))
  form (command.Unlink fd which) (fits, told) = formed _ (codes "unlink") (Number ∷ Which ∷ []) _ refl (search rules)
      (number fd fits.0, ((which, fits.1, refl), tt))
  form (command.Punlink fd which) (fits, told) =
      formed _ (codes "punlink") (Number ∷ Which ∷ []) _ refl (search rules)
      (number fd fits.0, ((which, fits.1, refl), tt))
  form (command.Bind fd addr) (fits, told) = formed _ (codes "bind") (Number ∷ Number ∷ []) _ refl (search rules)
      (number fd fits.0, (number addr fits.1, tt))
  form (command.Unbind fd) (fits, told) =
      formed _ (codes "unbind") (Number ∷ []) _ refl (search rules) (number fd fits, tt)
  form (command.Route fd addr id) (fits, told) =
      formed _ (codes "route") (Number ∷ Number ∷ Number ∷ []) _ refl (search rules)
      (number fd fits.0, (number addr fits.1, (number id fits.2, tt)))
  form (command.Unroute fd addr) (fits, told) =
      formed _ (codes "unroute") (Number ∷ Number ∷ []) _ refl (search rules)
      (number fd fits.0, (number addr fits.1, tt))
  form (command.Write fd addr bytes) (fits, told) =
      formed _ (codes "write") (Number ∷ Number ∷ Bytes ∷ []) _ refl (search rules)
      (number fd fits.0, (number addr fits.1, ((bytes, fits.2, refl), tt)))
  form (command.Read fd) (fits, told) =
      formed _ (codes "read") (Number ∷ []) _ refl (search rules) (number fd fits, tt)
  form (command.Flush fd sides) (fits, told) =
      formed _ (codes "flush") (Number ∷ Sides ∷ []) _ refl (search rules) (number fd fits, ((sides, tt, refl), tt))
  form (command.Inject driver minor addr bytes) (fits, told) =
      formed _ (codes "inject") (Name ∷ Number ∷ Number ∷ Bytes ∷ []) _ refl (search rules)
      (fits.0, (number minor fits.1, (number addr fits.2, ((bytes, fits.3, refl), tt))))
  form (command.Transmit driver minor) (fits, told) =
      formed _ (codes "transmit") (Name ∷ Number ∷ []) _ refl (search rules) (fits.0, (number minor fits.1, tt))
  form (command.Hangup driver minor) (fits, told) = of_version_2 version told where
    of_version_2 : (v : Version) → CanTell v true → HasForm v (command.Hangup driver minor)
    of_version_2 V1 told = absurd (cc told)
    of_version_2 V2 told = record {
      word = codes "hangup";
      args = driver ∷ decimal minor ∷ [];
      values = Name ∷ Number ∷ [];
      are = refl;
      fixed = inl (refl, refl, refl);
      takes = (fits.0, (number minor fits.1, tt));
    }

-- ---- each form is a command's

-- a command of a version has these words
abbrev pub IsCommand : Version → List (List ℕ) → Type 0
IsCommand version words = (c : AnyCommand) × FitsCommandIn version c × (command_words c ≡ words)

-- a row's word, and words for its values, are the words of a command
abbrev IsOfCommand : Version → WordRow → Type 0
IsOfCommand version row = (ws : Words row.1) → IsCommand version (row.0 ∷ words_of row.1 ws)

-- each row that both versions have is that of a command
each_row : (version : Version) → AllByRecursion (IsOfCommand version) commands
each_row version =
    (λ ((a, is_a), end). (command.OpenClone a, (is_a, tells version), refl))
    ▹ (λ ((a, is_a), ((b, is_b), end)). (command.OpenMinor a is_b.0, ((is_a, is_b.1), tells version), cc is_b.2))
    ▹ (λ ((a, is_a), end). (command.Dup is_a.0, (is_a.1, tells version), cc is_a.2))
    ▹ (λ ((a, is_a), end). (command.Close is_a.0, (is_a.1, tells version), cc is_a.2))
    ▹ (λ end. (command.CloseAll, (tt, tells version), refl))
    ▹ (λ ((a, is_a), ((b, is_b), end)).
    (command.Link is_a.0 is_b.0, ((is_a.1, is_b.1), tells version), cc (is_a.2, is_b.2)))
    ▹ (λ ((a, is_a), ((b, is_b), end)).
    (command.Plink is_a.0 is_b.0, ((is_a.1, is_b.1), tells version), cc (is_a.2, is_b.2)))
    ▹ (λ ((a, is_a), ((b, is_b), end)).
    (command.Unlink is_a.0 is_b.0, ((is_a.1, is_b.1), tells version), cc (is_a.2, is_b.2)))
    ▹ (λ ((a, is_a), ((b, is_b), end)).
    (command.Punlink is_a.0 is_b.0, ((is_a.1, is_b.1), tells version), cc (is_a.2, is_b.2)))
    ▹ (λ ((a, is_a), ((b, is_b), end)).
    (command.Bind is_a.0 is_b.0, ((is_a.1, is_b.1), tells version), cc (is_a.2, is_b.2)))
    ▹ (λ ((a, is_a), end). (command.Unbind is_a.0, (is_a.1, tells version), cc is_a.2))
    ▹ (λ ((a, is_a), ((b, is_b), ((c, is_c), end))).
    (command.Route is_a.0 is_b.0 is_c.0, ((is_a.1, is_b.1, is_c.1), tells version), cc (is_a.2, is_b.2, is_c.2)))
    ▹ (λ ((a, is_a), ((b, is_b), end)).
    (command.Unroute is_a.0 is_b.0, ((is_a.1, is_b.1), tells version), cc (is_a.2, is_b.2)))
    ▹ (λ ((a, is_a), ((b, is_b), ((c, is_c), end))).
    (command.Write is_a.0 is_b.0 is_c.0, ((is_a.1, is_b.1, is_c.1), tells version), cc (is_a.2, is_b.2, is_c.2)))
    ▹ (λ ((a, is_a), end). (command.Read is_a.0, (is_a.1, tells version), cc is_a.2))
    ▹ (λ ((a, is_a), ((b, is_b), end)). (command.Flush is_a.0 is_b.0, (is_a.1, tells version), cc (is_a.2, is_b.2)))
    ▹ (λ ((a, is_a), ((b, is_b), ((c, is_c), ((d, is_d), end)))). (
      command.Inject a is_b.0 is_c.0 is_d.0,
      ((is_a, is_b.1, is_c.1, is_d.1), tells version),
      cc (is_b.2, is_c.2, is_d.2),
    ))
    ▹ (λ ((a, is_a), ((b, is_b), end)). (command.Transmit a is_b.0, ((is_a, is_b.1), tells version), cc is_b.2))
    ▹ tt

-- a fixed word of a command, and words for the values after it, are the words of a command of that version
pub of_form : (version : Version) (word : List ℕ) (values : List Value) (next : Choice) (args : List (List ℕ))
    → IsFixed version Command word values next → Takes values args → IsCommand version (word ∷ args)
of_form version word values next args is takes =
    let (ws, are) = each values args takes in
    let hangup : IsOfCommand V2 (codes "hangup", Name ∷ Number ∷ [], Equals) =
    λ ((a, is_a), ((b, is_b), end)). (command.Hangup a is_b.0, ((is_a, is_b.1), tt), cc is_b.2) in
    rw are (row_of (IsOfCommand version) (rows_in version Command)
    (all_rows IsOfCommand Command each_row (hangup, tt) version) word values next is ws)
