-- A transcript whose history was written piece by piece.
use Rattle.smx_text.proofs.Common.{take, map, refl, sym, ap, ◌∙◌, append_assoc, arith, append-nil, map-append}
use Rattle.smx_text.proofs.Common.{AllByRecursion, Entry, DriverSpec, ConfigView, entry_words, FitsDriver, FitsEntry}
use Rattle.smx_text.proofs.Common.{LINE_FEED, line_of, text_of, beginning, transcript_grammar, view_body, Version}
use Rattle.std.proofs.Common.{◌≡◌, ℕ, List, [], ◌∷◌, ◌++◌, length, drop}
use Rattle.std.proofs.Math.Seq.{take-append_seam, drop-append_seam}
use Rattle.std.proofs.lemmas.Simd.{map-map}
use Rattle.std.specs.Prelude.{codes}
use Rattle.smx_text.specs.GrowingTranscripts.{opening_text, transcript_with, AreEntryLines, BeginsTranscript}
use Rattle.smx_text.specs.TranscriptLines as row
use Rattle.smx_text.specs.TranscriptText.{transcript_text, IsSpellable, IsSpellableView}
use Rattle.smx_text.specs.TranscriptText.{line_words as transcript_words, view_lines}
use Rattle.smx_text.proofs.EachLemmas.{all_append}
use Rattle.smx_text.proofs.ReadingLemmas.{beginning_append, beginning_is, full_is, texts_append}

-- the header and the driver lines begin a transcript with these drivers and no entry yet
pub begun : (version : Version) (drivers : List DriverSpec) (text : List ℕ) → text ≡ opening_text version drivers
    → AllByRecursion FitsDriver drivers → BeginsTranscript version drivers [] text
begun version drivers text is fits = grind (arith, append-nil, beginning_is, map-map)

-- if bytes begin a transcript, the bytes with the lines of more entries begin the one with these entries too
pub grown : (version : Version) (drivers : List DriverSpec) (before more : List Entry) (old new : List ℕ)
    → new ≡ old ++ text_of (map entry_words more) → AllByRecursion FitsEntry more
    → BeginsTranscript version drivers before old → BeginsTranscript version drivers (before ++ more) new
grown version drivers before more old new added fits was =
    let g = transcript_grammar version in
    let lines = map row.Driver drivers ++ map row.Entry before in record {
      written =
          added ∙ ap (λ (bytes : List ℕ). bytes ++ text_of (map entry_words more)) was.written
          ∙ ap (λ (ws : List (List (List ℕ))). beginning g lines ++ text_of ws)
          (sym (map-map transcript_words row.Entry more))
          ∙ sym (beginning_append g lines (map row.Entry more))
          ∙ ap (beginning g) (append_assoc (map row.Driver drivers) (map row.Entry before) (map row.Entry more)
          ∙ ap (λ (ls : List row.TranscriptLine). map row.Driver drivers ++ ls)
          (sym (map-append row.Entry before more)));
      drivers_fit = was.drivers_fit;
      entries_fit = all_append FitsEntry before more was.entries_fit fits;
    }

-- the lines of some entries, and then the line of one more
pub one_line_more : (entries : List Entry) (e : Entry) (old new : List ℕ)
    → new ≡ old ++ line_of (entry_words e) ++ LINE_FEED ∷ [] → FitsEntry e → AreEntryLines entries old
    → AreEntryLines (entries ++ e ∷ []) new
one_line_more entries e old new added fits were = record {
  written = added ∙ ap (λ (bytes : List ℕ). bytes ++ line_of (entry_words e) ++ LINE_FEED ∷ []) were.written
      ∙ simp (map-append, texts_append, append_assoc);
  fit = all_append FitsEntry entries (e ∷ []) were.fit (fits, tt);
}

-- bytes written after others and then rotated to the front come before them
turned : (lines opening all text : List ℕ) (n : ℕ) → n ≡ length lines → all ≡ lines ++ opening
    → text ≡ drop n all ++ take n all → text ≡ opening ++ lines
turned lines opening all text n many whole now = grind (arith, drop-append_seam, take-append_seam)

-- the lines of entries, with the header and the driver lines rotated to the front, begin a transcript
pub around : (version : Version) (drivers : List DriverSpec) (entries : List Entry) (lines all text : List ℕ) (n : ℕ)
    → n ≡ length lines → all ≡ lines ++ opening_text version drivers → text ≡ drop n all ++ take n all
    → AllByRecursion FitsDriver drivers → AreEntryLines entries lines → BeginsTranscript version drivers entries text
around version drivers entries lines all text n many whole now fits are =
    let opening = opening_text version drivers in
    grown version drivers [] entries opening text
    (turned lines opening all text n many whole now
    ∙ ap (λ (bytes : List ℕ). opening ++ bytes) are.written) are.fit (begun version drivers opening refl fits)

-- the beginning of a transcript, the lines of a view and `end` are the text of the transcript with that view
pub finished : (version : Version) (drivers : List DriverSpec) (entries : List Entry) (v : ConfigView)
    (start view end : List ℕ) → view ≡ start ++ view_lines v → end ≡ view ++ codes "end\n"
    → BeginsTranscript version drivers entries start → end ≡ transcript_text (transcript_with version drivers entries v)
finished version drivers entries v start view end a b was =
    let g = transcript_grammar version in
    let rest = row.Config ∷ view_body v in
    b ∙ ap (λ (bytes : List ℕ). bytes ++ codes "end\n")
    (a ∙ ap (λ (bytes : List ℕ). bytes ++ view_lines v) was.written
    ∙ sym (beginning_append g (map row.Driver drivers ++ map row.Entry entries) rest)
    ∙ ap (beginning g) (append_assoc (map row.Driver drivers) (map row.Entry entries) rest))
    ∙ sym (full_is g (transcript_with version drivers entries v))

-- a transcript can be spelled if its beginning was written and its view can be spelled
pub finished_fits : (version : Version) (drivers : List DriverSpec) (entries : List Entry) (v : ConfigView)
    (start : List ℕ) → IsSpellableView v → BeginsTranscript version drivers entries start
    → IsSpellable (transcript_with version drivers entries v)
finished_fits version drivers entries v start fits was = grind arith
