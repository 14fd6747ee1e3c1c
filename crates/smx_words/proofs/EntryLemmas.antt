-- A call, which is a process and its command; and an entry, which also has an equals sign and a reply.
use Rattle.smx_words.proofs.Common.{◌≡◌, ◌≢◌, ℕ, ◌<◌, List, [], ◌∷◌, ◌++◌, length, refl, sym, ap, ◌∙◌, append_assoc}
use Rattle.smx_words.proofs.Common.{arith, decimal, Command, call_words, command_words}
use Rattle.smx_words.proofs.Common.{entry_words, reply_words, EQUALS, SPACE, IsFree, line_of}
use Rattle.std.specs.Prelude.{codes}
use Rattle.std.proofs.lemmas.List.{append_cancel_right}
use Rattle.smx_types.specs.declared.command.Entry.{Entry}
use Rattle.smx_words.specs.Spellable.{FitsCall, FitsEntry}
use Rattle.smx_words.proofs.CutLemmas.{apart}
use Rattle.smx_words.proofs.PlainLemmas.{command_plain, number_plain, plain_words_free, some_command, some_reply}
use Rattle.smx_words.proofs.LineLemmas.{all_append, line_free}

-- two sides with ` = ` between them, split at the sign, are the sides with one space each
pub regrouped : (command reply : List ℕ) → command ++ codes " = " ++ reply ≡ (command ++ 32 ∷ []) ++ EQUALS ∷ 32 ∷ reply
regrouped command reply = append_assoc command (codes " = ") reply
    ∙ sym (append_assoc command (32 ∷ []) (EQUALS ∷ 32 ∷ reply))

-- a space is no equals sign
space_free : IsFree EQUALS (SPACE ∷ [])
space_free = ((λ e. cc), tt)

-- if bytes do not contain a byte, their front does not contain it
free_left : (byte : ℕ) (xs ys : List ℕ) → IsFree byte (xs ++ ys) → IsFree byte xs
free_left byte [] ys h = tt
free_left byte (x ∷ xs) ys h = (h.0, free_left byte xs ys h.1)

-- the bytes before and after the first sign of an entry are its two sides, each with its space
pub same_sides : (text front back command reply : List ℕ) → IsFree EQUALS front
    → text ≡ front ++ EQUALS ∷ back → IsFree EQUALS command → text ≡ command ++ codes " = " ++ reply
    → (front ≡ command ++ 32 ∷ []) × (back ≡ 32 ∷ reply)
same_sides text front back command reply free is h e =
    apart EQUALS front (command ++ 32 ∷ []) back (32 ∷ reply) free
    (all_append (λ b. b ≢ EQUALS) command (32 ∷ []) h space_free) (sym is ∙ e ∙ regrouped command reply)

-- bytes that are split at the sign into two sides with a space each are these sides with ` = ` between them
pub sides_are : (text front back command reply space : List ℕ) → space ≡ codes " " → IsFree EQUALS front
    → text ≡ front ++ EQUALS ∷ back → front ≡ command ++ space → back ≡ space ++ reply
    → IsFree EQUALS command × (text ≡ command ++ codes " = " ++ reply)
sides_are text front back command reply space one free is before after =
    let front_is : front ≡ command ++ 32 ∷ [] = before ∙ ap (λ (x : List ℕ). command ++ x) one in
    let back_is : back ≡ 32 ∷ reply = after ∙ ap (λ (x : List ℕ). x ++ reply) one in
    let clear : IsFree EQUALS (command ++ 32 ∷ []) = rw (← front_is) free in
    let whole : text ≡ (command ++ 32 ∷ []) ++ EQUALS ∷ 32 ∷ reply = is
    ∙ ap (λ (x : List ℕ). x ++ EQUALS ∷ back) front_is
    ∙ ap (λ (x : List ℕ). (command ++ 32 ∷ []) ++ EQUALS ∷ x) back_is in
    (free_left EQUALS command (32 ∷ []) clear, whole ∙ sym (regrouped command reply))

-- ---- the lines of a call and of an entry

-- the line of a word and other words is that word, a space, and the line of the others
front : (w : List ℕ) (ws : List (List ℕ)) → 0 < length ws → line_of (w ∷ ws) ≡ w ++ SPACE ∷ line_of ws
front w [] some = absurd (omega arith)
front w (v ∷ ws) some = refl

-- the line of a call is the number of its process, a space, and the line of its command
pub call_line : (call : ℕ × Command)
    → line_of (call_words call) ≡ decimal call.0 ++ SPACE ∷ line_of (command_words call.1)
call_line call = front (decimal call.0) (command_words call.1) (some_command call.1)

-- the line of two joined lists of words is the line of the first list, a space, and the line of the second
line_append : (ws vs : List (List ℕ)) → 0 < length ws → 0 < length vs
    → line_of (ws ++ vs) ≡ line_of ws ++ SPACE ∷ line_of vs
line_append [] vs some more = absurd (omega arith)
line_append (w ∷ []) vs some more = front w vs more
line_append (w ∷ v ∷ ws) vs some more =
    ap (λ (x : List ℕ). w ++ SPACE ∷ x) (line_append (v ∷ ws) vs (omega arith) more)
    ∙ sym (append_assoc w (SPACE ∷ line_of (v ∷ ws)) (SPACE ∷ line_of vs))

-- the line of an entry is the line of its call and the line of its reply, with ` = ` between them
pub entry_line : (e : Entry)
    → line_of (entry_words e)
    ≡ line_of (call_words (e.process, e.command)) ++ codes " = " ++ line_of (reply_words e.reply)
entry_line e =
    let call = call_words (e.process, e.command) in
    let reply = reply_words e.reply in
    line_append call (codes "=" ∷ reply) (omega arith) (omega arith)
    ∙ ap (λ (x : List ℕ). line_of call ++ SPACE ∷ x) (front (codes "=") reply (some_reply e.reply))
    ∙ sym (append_assoc (line_of call) (codes " = ") (line_of reply))

-- the line of a call contains no equals sign
free_call : (call : ℕ × Command) → FitsCall call → IsFree EQUALS (line_of (call_words call))
free_call call fits =
    line_free EQUALS (λ e. cc) (call_words call)
    (plain_words_free (call_words call) (number_plain call.0 (omega (arith, fits.0)), command_plain call.1 fits.1))

-- the two sides of an entry's line are the line of its call and the line of its reply
pub each_side : (line call reply : List ℕ) (e : Entry) → FitsEntry e → IsFree EQUALS call
    → line ≡ call ++ codes " = " ++ reply → line ≡ line_of (entry_words e)
    → (call ≡ line_of (call_words (e.process, e.command))) × (reply ≡ line_of (reply_words e.reply))
each_side line call reply e fits free is all =
    let c = line_of (call_words (e.process, e.command)) in
    let spaced : IsFree EQUALS (call ++ 32 ∷ []) = all_append (λ b. b ≢ EQUALS) call (32 ∷ []) free space_free in
    let same =
    same_sides line (call ++ 32 ∷ []) (32 ∷ reply) c (line_of (reply_words e.reply)) spaced (is ∙ regrouped call reply)
    (free_call (e.process, e.command) (fits.process, fits.command)) (all ∙ entry_line e) in
    (append_cancel_right call c (32 ∷ []) same.0, cc same.1)

-- a line without two sides around ` = ` is no entry's
pub no_sides : (line : List ℕ)
    → ((call reply : List ℕ) → IsFree EQUALS call → line ≢ call ++ codes " = " ++ reply)
    → (e : Entry) → FitsEntry e → line ≢ line_of (entry_words e)
no_sides line none e fits is =
    none _ _ (free_call (e.process, e.command) (fits.process, fits.command)) (is ∙ entry_line e)
