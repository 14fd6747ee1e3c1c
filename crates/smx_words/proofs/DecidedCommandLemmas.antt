-- Commands, calls, replies and entries have words of their own.
use Rattle.smx_words.proofs.Common.{◌≡◌, ◌≢◌, ℕ, Bool, true, false, cond, ap, List, [], ◌∷◌, ◌++◌, map, get_or, drop}
use Rattle.smx_words.proofs.Common.{refl, rules, arith, AllByRecursion, decimal, bytes_eq, nat_tests, Command, Fault}
use Rattle.smx_words.proofs.Common.{Reply, FitsAlways, FitsNumber, FitsReply, call_words, command_words, entry_words}
use Rattle.smx_words.proofs.Common.{fault_words, reply_words, EQUALS, IsFree, IsWord, SPACE, line_of}
use Rattle.std.proofs.Common.{if◌then◌else◌}
use Rattle.std.specs.Prelude.{codes}
use Rattle.std.specs.Cmp.Lexicographic.{pointwise}
use Rattle.smx_types.specs.declared.command.Command.TheVariants as command
use Rattle.smx_types.specs.declared.reply.Fault.TheVariants as fault
use Rattle.smx_types.specs.declared.reply.Reply.TheVariants as reply
use Rattle.smx_words.specs.declared.reading.verb.Verb.{Verb}
use Rattle.smx_words.specs.declared.reading.verb.Verb.TheVariants as verb
use Rattle.smx_words.specs.Spellable.{FitsCall, FitsCommand, FitsEntry}
use Rattle.smx_words.specs.Verbs.{verb_word}
use Rattle.smx_words.proofs.DecidedLemmas.{HasWords, first, first_of_these}
use Rattle.smx_words.proofs.DecidedWordLemmas.{bytes, flush_sides, id_or_all, name, number, process}
use Rattle.smx_words.proofs.LineLemmas.{all_append}
use Rattle.smx_words.proofs.PlainLemmas.{command_plain, plain_words, plain_words_free, reply_plain}

-- ---- commands

-- the verb of this word
abbrev pub verb_at : List ℕ → Verb
verb_at = first_of_these bytes_eq verb_word (
    verb.Clone ∷ verb.Open ∷ verb.Dup ∷ verb.Close ∷ verb.Exit ∷ verb.Link ∷ verb.Plink ∷ verb.Unlink ∷ verb.Punlink
    ∷ verb.Bind ∷ verb.Unbind ∷ verb.Route ∷ verb.Unroute ∷ verb.Write ∷ verb.Read ∷ verb.Flush ∷ verb.Inject
    ∷ verb.Transmit ∷ []
    ) verb.Hangup

-- the command of a verb, if these are its words
abbrev command_of : List (List ℕ) → Verb → Command
command_of ws verb.Clone = command.OpenClone (name.guess (get_or ws 1 []))
command_of ws verb.Open = command.OpenMinor (name.guess (get_or ws 1 [])) (number.guess (get_or ws 2 []))
command_of ws verb.Dup = command.Dup (number.guess (get_or ws 1 []))
command_of ws verb.Close = command.Close (number.guess (get_or ws 1 []))
command_of ws verb.Exit = command.CloseAll
command_of ws verb.Link = command.Link (number.guess (get_or ws 1 [])) (number.guess (get_or ws 2 []))
command_of ws verb.Plink = command.Plink (number.guess (get_or ws 1 [])) (number.guess (get_or ws 2 []))
command_of ws verb.Unlink = command.Unlink (number.guess (get_or ws 1 [])) (id_or_all.guess (get_or ws 2 []))
command_of ws verb.Punlink = command.Punlink (number.guess (get_or ws 1 [])) (id_or_all.guess (get_or ws 2 []))
command_of ws verb.Bind = command.Bind (number.guess (get_or ws 1 [])) (number.guess (get_or ws 2 []))
command_of ws verb.Unbind = command.Unbind (number.guess (get_or ws 1 []))
command_of ws verb.Route =
    command.Route (number.guess (get_or ws 1 [])) (number.guess (get_or ws 2 [])) (number.guess (get_or ws 3 []))
command_of ws verb.Unroute = command.Unroute (number.guess (get_or ws 1 [])) (number.guess (get_or ws 2 []))
command_of ws verb.Write =
    command.Write (number.guess (get_or ws 1 [])) (number.guess (get_or ws 2 [])) (bytes.guess (get_or ws 3 []))
command_of ws verb.Read = command.Read (number.guess (get_or ws 1 []))
command_of ws verb.Flush = command.Flush (number.guess (get_or ws 1 [])) (flush_sides.guess (get_or ws 2 []))
command_of ws verb.Inject =
    command.Inject (name.guess (get_or ws 1 [])) (number.guess (get_or ws 2 [])) (number.guess (get_or ws 3 []))
    (bytes.guess (get_or ws 4 []))
command_of ws verb.Transmit = command.Transmit (name.guess (get_or ws 1 [])) (number.guess (get_or ws 2 []))
command_of ws verb.Hangup = command.Hangup (name.guess (get_or ws 1 [])) (number.guess (get_or ws 2 []))

-- the command of a verb and any words can be spelled
pub command_fits : (ws : List (List ℕ)) (v : Verb) → FitsCommand (command_of ws v)
command_fits ws verb.Clone = name.fits (get_or ws 1 [])
command_fits ws v = grind (arith, number.fits, name.fits, bytes.fits, id_or_all.fits)

-- a command is given back from its words
pub command_again : (c : Command) → FitsCommand c
    → command_of (command_words c) (verb_at (get_or (command_words c) 0 [])) ≡ c
command_again command.CloseAll h = refl
command_again c h = grind (arith, number.again, name.again, bytes.again, id_or_all.again, flush_sides.again)

-- each command has words of its own
unfoldable pub command_has_words : HasWords FitsCommand command_words
command_has_words = record {
  guess = λ ws. command_of ws (verb_at (get_or ws 0 []));
  fits = λ ws. command_fits ws (verb_at (get_or ws 0 []));
  again = command_again;
  are_words = λ c h. plain_words (command_words c) (command_plain c h);
}

-- each call has words of its own
unfoldable pub call_has_words : HasWords FitsCall call_words
call_has_words = first process command_has_words

-- a line that does not start with a verb and a space, and is not `exit`, is no command's
pub no_verb : (line : List ℕ) → ((v : Verb) (after : List ℕ) → FitsAlways v
    → line ≢ verb_word v ++ SPACE ∷ after) → line ≢ codes "exit" → (c : Command) → FitsCommand c
    → line ≢ line_of (command_words c)
no_verb line none alone command.CloseAll fits e = alone e
no_verb line none alone c fits e = none (verb_at (get_or (command_words c) 0 [])) _ tt e

-- ---- replies

-- the fault of these words
abbrev fault_at : List (List ℕ) → Fault
fault_at = first_of_these (pointwise bytes_eq) fault_words (
    fault.BadDescriptor ∷ fault.Below ∷ fault.NotMux ∷ fault.AlreadyBelow ∷ fault.Cycle ∷ fault.TooManyLinks
    ∷ fault.NoLink ∷ fault.NoDriver ∷ fault.NoMinor ∷ fault.TooManyDescriptors ∷ fault.AddressInUse ∷ fault.Unbound
    ∷ fault.Unrouted ∷ fault.Full ∷ fault.Empty ∷ fault.BadSize ∷ []
    ) fault.HungUp

-- the reply with these words, of which this is the first
abbrev reply_of : List (List ℕ) → List ℕ → Reply
reply_of ws w =
    if bytes_eq w (codes "fd") then reply.Fd (number.guess (get_or ws 1 [])) (number.guess (get_or ws 2 []))
    else if bytes_eq w (codes "id") then reply.Id (number.guess (get_or ws 1 []))
    else if bytes_eq w (codes "took") then reply.Took (number.guess (get_or ws 1 []))
    else if bytes_eq w (codes "got") then
    reply.Got (number.guess (get_or ws 1 [])) (number.guess (get_or ws 2 [])) (bytes.guess (get_or ws 3 []))
    else if bytes_eq w (codes "done") then reply.Done (map number.guess (drop 1 ws))
    else if bytes_eq w (codes "eof") then reply.Eof
    else reply.Fault (fault_at ws)

-- the numbers of any words fit
numbers_fit : (ws : List (List ℕ)) → AllByRecursion FitsNumber (map number.guess ws)
numbers_fit [] = tt
numbers_fit (w ∷ ws) = (number.fits w, numbers_fit ws)

-- the reply of any words can be spelled
pub reply_fits : (ws : List (List ℕ)) → FitsReply (reply_of ws (get_or ws 0 []))
reply_fits ws = search (rules, either, number.fits, bytes.fits, numbers_fit) where
  either : (t : Bool) (r s : Reply) → FitsReply r → FitsReply s → FitsReply (cond t r s)
  either true r s h k = h
  either false r s h k = k

-- numbers are given back from their words
numbers_again : (ns : List ℕ) → AllByRecursion FitsNumber ns → map number.guess (map decimal ns) ≡ ns
numbers_again [] h = refl
numbers_again (n ∷ ns) h = cc (number.again n h.0, numbers_again ns h.1)

-- a fault is given back from its words
fault_again : (f : Fault) → reply_of (fault_words f) (get_or (fault_words f) 0 []) ≡ reply.Fault f
fault_again fault.BadDescriptor = refl
fault_again f = refl

-- a reply is given back from its words
pub reply_again : (r : Reply) → FitsReply r → reply_of (reply_words r) (get_or (reply_words r) 0 []) ≡ r
reply_again (reply.Fault f) h = fault_again f
reply_again (reply.Done ns) h = ap reply.Done (numbers_again ns h)
reply_again reply.Eof h = refl
reply_again r h = grind (arith, number.again, bytes.again)

-- each reply has words of its own
unfoldable pub reply_has_words : HasWords FitsReply reply_words
reply_has_words = record {
  guess = λ ws. reply_of ws (get_or ws 0 []);
  fits = reply_fits;
  again = reply_again;
  are_words = λ r h. plain_words (reply_words r) (reply_plain r h);
}

-- ---- entries

-- the words before the first equals sign, and those after it
abbrev sides : List (List ℕ) → List (List ℕ) × List (List ℕ)
sides [] = ([], [])
sides (w ∷ ws) = cond (bytes_eq w (codes "=")) ([], ws) (w ∷ (sides ws).0, (sides ws).1)

-- words without equals signs, before a sign, are the words before the first sign
pub sides_are : (ws vs : List (List ℕ)) → AllByRecursion (IsFree EQUALS) ws → sides (ws ++ codes "=" ∷ vs) ≡ (ws, vs)
sides_are [] vs h = refl
sides_are (w ∷ ws) vs h = rw (no_sign w h.0, sides_are ws vs h.1) refl where
  no_sign : (w : List ℕ) → IsFree EQUALS w → bytes_eq w (codes "=") ≡ false
  no_sign [] k = refl
  no_sign (b ∷ w) k = grind (arith, nat_tests)

-- the equals sign is a word
pub equals_is : IsWord (codes "=")
equals_is = search rules

-- each entry has words of its own
unfoldable pub entry_has_words : HasWords FitsEntry entry_words
entry_has_words = record {
  guess = λ ws. record {
    process = process.guess (get_or ws 0 []);
    command = command_has_words.guess (sides (drop 1 ws)).0;
    reply = reply_has_words.guess (sides (drop 1 ws)).1;
  };
  fits = λ ws. record {
    process = process.fits (get_or ws 0 []);
    command = command_has_words.fits (sides (drop 1 ws)).0;
    reply = reply_has_words.fits (sides (drop 1 ws)).1;
  };
  again = λ e h.
      rw (
        sides_are (command_words e.command) (reply_words e.reply)
            (plain_words_free (command_words e.command) (command_plain e.command h.command)),
        process.again e.process h.process,
        command_has_words.again e.command h.command,
        reply_has_words.again e.reply h.reply,
      ) refl;
  are_words = λ e h. (
    process.are_words e.process h.process,
    all_append IsWord (command_words e.command) _ (command_has_words.are_words e.command h.command)
        (equals_is, reply_has_words.are_words e.reply h.reply),
  );
}
