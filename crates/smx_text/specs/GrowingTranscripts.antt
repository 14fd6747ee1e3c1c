-- A transcript whose text is written piece by piece, without keeping its entries in memory.
use Rattle.std.specs.Prelude.{◌≡◌, ℕ, List, ◌∷◌, ◌++◌, map}
use Rattle.std.specs.List.{AllByRecursion}
use Rattle.smx_types.specs.declared.command.Entry.{Entry}
use Rattle.smx_types.specs.declared.driver.DriverSpec.{DriverSpec}
use Rattle.smx_types.specs.declared.transcript.Transcript.{Transcript}
use Rattle.smx_types.specs.declared.version.Version.{Version}
use Rattle.smx_types.specs.declared.view.ConfigView.{ConfigView}
use Rattle.smx_words.specs.Spellable.{FitsDriver, FitsEntry}
use Rattle.smx_words.specs.Spelling.{driver_words, entry_words}
use Rattle.smx_words.specs.Words.{LINE_FEED, text_of}
use Rattle.smx_text.specs.Grammar.{beginning, header}
use Rattle.smx_text.specs.TranscriptLines as line
use Rattle.smx_text.specs.TranscriptText.{transcript_grammar}

-- the header of this version, and one line for each driver
abbrev pub opening_text : Version → List DriverSpec → List ℕ
opening_text version drivers =
    header (transcript_grammar version) ++ LINE_FEED ∷ text_of (map driver_words drivers)

-- `bytes` are one line for each entry; all entries can be spelled
pub record AreEntryLines (entries : List Entry) (bytes : List ℕ) : Type 0 where
  pub written : bytes ≡ text_of (map entry_words entries)
  pub fit : AllByRecursion FitsEntry entries

-- `bytes` are the header of this version, one line for each driver, and one line for each entry; all of them
-- can be spelled
pub record BeginsTranscript (version : Version) (drivers : List DriverSpec) (entries : List Entry)
    (bytes : List ℕ) : Type 0 where
  pub written : bytes ≡ beginning (transcript_grammar version) (map line.Driver drivers ++ map line.Entry entries)
  pub drivers_fit : AllByRecursion FitsDriver drivers
  pub entries_fit : AllByRecursion FitsEntry entries

-- these drivers, entries and view as one transcript of this version
abbrev pub transcript_with : Version → List DriverSpec → List Entry → ConfigView → Transcript
transcript_with version drivers entries view =
    record { version = version; drivers = drivers; entries = entries; view = view }
