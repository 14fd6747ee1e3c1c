-- Bytes written group by group are the lines of the whole text.
use Rattle.smx_text.proofs.Common.{◌+◌, ◌<◌, get_or, take, map, refl, sym, ap, ◌∙◌, append_assoc, arith, append-nil}
use Rattle.smx_text.proofs.Common.{map-append, AllByRecursion, AreWithinLimits, ProgramLists, Command, V2, ConfigView}
use Rattle.smx_text.proofs.Common.{program_lines, programs_grammar, command_words, driver_words, next_words}
use Rattle.smx_text.proofs.Common.{FitsDriver, header, view_body, LINE_FEED, line_of, text_of}
use Rattle.std.proofs.Common.{◌≡◌, ℕ, List, [], ◌∷◌, ◌++◌, length}
use Rattle.std.proofs.lemmas.List.{length-take-le, take_more}
use Rattle.std.proofs.lemmas.Simd.{map-map}
use Rattle.std.specs.Fmt.{decimal}
use Rattle.std.specs.Prelude.{codes}
use Rattle.smx_text.specs.ProgramLines as line
use Rattle.smx_text.specs.ProgramsText.{line_words, programs_text, FitsLine, IsAllowed}
use Rattle.smx_words.specs.Spelling.{bind_words, descriptor_words, full_words, hung_words, link_words, message_words}
use Rattle.smx_words.specs.Spelling.{route_words}
use Rattle.smx_words.specs.Spellable.{FitsCommand, FitsCommandIn, FitsNumber}
use Rattle.smx_text.specs.TranscriptText.{line_words as transcript_words}
use Rattle.smx_text.proofs.EachLemmas.{all_append, all_map}
use Rattle.smx_text.proofs.BodyLemmas.{lines_add}
use Rattle.smx_text.proofs.ReadingLemmas.{beginning_append, full_is, texts_append}
use Rattle.smx_text.proofs.ProgramsVersionLemmas.{drivers_few, programs_fit}

-- bytes followed by a line and its line feed are the bytes and then the text of that line
pub one_line_more : (before : List ℕ) (ws : List (List ℕ))
    → before ++ line_of ws ++ LINE_FEED ∷ [] ≡ before ++ text_of (ws ∷ [])
one_line_more before ws = append_assoc before (line_of ws) (LINE_FEED ∷ [])
    ∙ ap (λ (more : List ℕ). before ++ more) (sym (append-nil (line_of ws ++ LINE_FEED ∷ [])))

-- the lines of the first programs and the next one are theirs, the line of its process, and its commands
one_more : (ps : List (List Command)) (i : ℕ) (cs : List Command) → i < length ps → cs ≡ get_or ps i cs
    → program_lines 0 (take (i + 1) ps) ≡ program_lines 0 (take i ps) ++ line.Process i ∷ map line.Command cs
one_more ps i cs lt e =
    grind (arith, length-take-le i ps (omega arith), take_more ps i cs lt, lines_add 0 (take i ps) cs)

-- the text of some programs and the next one is theirs, the line of its process, and its commands
pub program_text : (ps : List (List Command)) (i : ℕ) (cs : List Command) → i < length ps → cs ≡ get_or ps i cs
    → text_of (map line_words (program_lines 0 (take (i + 1) ps)))
    ≡ text_of (map line_words (program_lines 0 (take i ps)))
    ++ (codes "process " ++ decimal i ++ 10 ∷ [] ++ text_of (map command_words cs))
program_text ps i cs lt e =
    rw (one_more ps i cs lt e, map-append, texts_append, map-map line_words line.Command cs) refl

-- if the lines of some programs fit, and the commands of the next, the lines with that one fit too
pub program_fits : (ps : List (List Command)) (i : ℕ) (cs : List Command) → i < length ps
    → cs ≡ get_or ps i cs → FitsNumber i → AllByRecursion (FitsLine V2) (program_lines 0 (take i ps))
    → AllByRecursion FitsCommand cs → AllByRecursion (FitsLine V2) (program_lines 0 (take (i + 1) ps))
program_fits ps i cs lt e number before commands =
    rw (one_more ps i cs lt e) (all_append (FitsLine V2) (program_lines 0 (take i ps))
    (line.Process i ∷ map line.Command cs) before
    (number, all_map (FitsLine V2) line.Command cs (in_version_2 cs commands))) where
      in_version_2 : (cs : List Command) → AllByRecursion FitsCommand cs → AllByRecursion (FitsCommandIn V2) cs
      in_version_2 [] h = tt
      in_version_2 (c ∷ cs) h = ((h.0, tt), in_version_2 cs h.1)

-- the text of programs is the header, the drivers, the lines of each program, and `end`
pub body_text : (v : ProgramLists) → programs_text v
    ≡ (header (programs_grammar v.version) ++ LINE_FEED ∷ []) ++ text_of (map driver_words v.drivers)
    ++ text_of (map line_words (program_lines 0 v.programs)) ++ codes "end\n"
body_text v =
    let g = programs_grammar v.version in
    full_is g v ∙ ap (λ (bytes : List ℕ). bytes ++ codes "end\n")
    (beginning_append g (map line.Driver v.drivers) (program_lines 0 v.programs)
    ∙ ap (λ (ws : List (List (List ℕ))). (header g ++ LINE_FEED ∷ []) ++ text_of ws
    ++ text_of (map line_words (program_lines 0 v.programs))) (map-map line_words line.Driver v.drivers))

-- programs within the limits whose drivers and lines can be spelled are allowed in their version
pub written_allowed : (v : ProgramLists) → AreWithinLimits v → AllByRecursion FitsDriver v.drivers
    → AllByRecursion (FitsLine V2) (program_lines 0 v.programs) → IsAllowed v.version v
written_allowed v within drivers programs = record {
  version_is = refl;
  drivers = drivers_few v.version v within.version within.drivers;
  programs = within.programs;
  commands = within.commands;
  fits = all_append (FitsLine v.version) (map line.Driver v.drivers) (program_lines 0 v.programs)
      (all_map (FitsLine v.version) line.Driver v.drivers drivers)
      (programs_fit v.version v within.version programs);
}

-- ---- the groups of a view

-- eight groups written one after the other are the text of the lines of all of them
eight_groups : (start : List ℕ) (x : List (List ℕ)) (a b c d e f g : List (List (List ℕ)))
    → start ++ text_of (x ∷ []) ++ text_of a ++ text_of b ++ text_of c ++ text_of d ++ text_of e ++ text_of f
    ++ text_of g ≡ start ++ text_of (x ∷ (a ++ (b ++ (c ++ (d ++ (e ++ (f ++ g)))))))
eight_groups start x a b c d e f g = simp (texts_append, append_assoc)

-- the lines of a view, group by group
abbrev view_lines : ConfigView → List (List (List ℕ))
view_lines v =
    next_words (v.next_id, v.next_serial) ∷ (map descriptor_words v.fds
    ++ (map link_words v.links
    ++ (map bind_words v.binds
    ++ (map route_words v.routes ++ (map message_words v.msgs
    ++ (map full_words v.fulls ++ map hung_words v.hungs))))))

-- the words of the lines of a view are those of its values, group by group
view_is : (v : ConfigView) → map transcript_words (view_body v) ≡ view_lines v
view_is v = simp (map-append, map-map)

-- the groups of a view written one after the other are the text of the lines of that view
pub view_written : (v : ConfigView) (start next fds links binds routes msgs fulls hungs : List ℕ)
    → next ≡ start ++ text_of (next_words (v.next_id, v.next_serial) ∷ [])
    → fds ≡ next ++ text_of (map descriptor_words v.fds)
    → links ≡ fds ++ text_of (map link_words v.links) → binds ≡ links ++ text_of (map bind_words v.binds)
    → routes ≡ binds ++ text_of (map route_words v.routes)
    → msgs ≡ routes ++ text_of (map message_words v.msgs) → fulls ≡ msgs ++ text_of (map full_words v.fulls)
    → hungs ≡ fulls ++ text_of (map hung_words v.hungs)
    → hungs ≡ start ++ text_of (map transcript_words (view_body v))
view_written v start next fds links binds routes msgs fulls hungs a b c d e f g h =
    rw (h, g, f, e, d, c, b, a) (eight_groups start (next_words (v.next_id, v.next_serial))
    (map descriptor_words v.fds) (map link_words v.links) (map bind_words v.binds) (map route_words v.routes)
    (map message_words v.msgs) (map full_words v.fulls) (map hung_words v.hungs)
    ∙ ap (λ (ws : List (List (List ℕ))). start ++ text_of ws) (sym (view_is v)))
