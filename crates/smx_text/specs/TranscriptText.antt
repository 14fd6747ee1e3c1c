-- The transcript text: drivers, history, and the final configuration.
use Rattle.std.specs.Prelude.{◌≡◌, ◌≤◌, ℕ, true, List, [], ◌∷◌, ◌++◌, length, map, codes}
use Rattle.std.specs.List.{AllByRecursion}
use Rattle.smx_types.specs.Versions.{is_of_hangup, most_drivers}
use Rattle.smx_types.specs.declared.limits.TheConstants.{MAX_COMMANDS}
use Rattle.smx_types.specs.declared.transcript.Transcript.{Transcript}
use Rattle.smx_types.specs.declared.version.Version.{Version}
use Rattle.smx_types.specs.declared.view.ConfigView.{ConfigView}
use Rattle.smx_types.specs.declared.view.HungLine.{HungLine}
use Rattle.smx_words.specs.Spelling.{driver_words, entry_words, next_words, descriptor_words, link_words}
use Rattle.smx_words.specs.Spelling.{bind_words, route_words, message_words, full_words, hung_words}
use Rattle.smx_words.specs.Spellable.{CanTell, FitsNumber, FitsDriver, FitsEntry}
use Rattle.smx_words.specs.Spellable.{FitsDescriptor, FitsLink, FitsBinding, FitsRoute, FitsMessage, FitsFull, FitsHung}
use Rattle.smx_words.specs.Words.{text_of}
use Rattle.smx_text.specs.Grammar.{Grammar, full_text, Spells}
use Rattle.smx_text.specs.TextVersions.{version_word}
use Rattle.smx_text.specs.TranscriptLines.{TranscriptLine}
use Rattle.smx_text.specs.TranscriptLines as line

-- the words of each line
abbrev pub line_words : TranscriptLine → List (List ℕ)
line_words (line.Driver d) = driver_words d
line_words (line.Entry e) = entry_words e
line_words line.Config = codes "config" ∷ []
line_words (line.Next id serial) = next_words (id, serial)
line_words (line.Fd d) = descriptor_words d
line_words (line.Link l) = link_words l
line_words (line.Bind b) = bind_words b
line_words (line.Route r) = route_words r
line_words (line.Msg m) = message_words m
line_words (line.Full f) = full_words f
line_words (line.Hung h) = hung_words h
line_words line.End = codes "end" ∷ []

-- the hung-up stream can be spelled, and this version can express it
abbrev pub FitsHungIn : Version → HungLine → Type 0
FitsHungIn version h = FitsHung h × CanTell version true

-- the line can be spelled, and this version can express it; `config` and `end` have no contents
abbrev pub FitsLine : Version → TranscriptLine → Type 0
FitsLine version (line.Driver d) = FitsDriver d
FitsLine version (line.Entry e) = FitsEntry e × CanTell version (is_of_hangup e)
FitsLine version (line.Next id serial) = FitsNumber id × FitsNumber serial
FitsLine version (line.Fd d) = FitsDescriptor d
FitsLine version (line.Link l) = FitsLink l
FitsLine version (line.Bind b) = FitsBinding b
FitsLine version (line.Route r) = FitsRoute r
FitsLine version (line.Msg m) = FitsMessage m
FitsLine version (line.Full f) = FitsFull f
FitsLine version (line.Hung h) = FitsHung h × CanTell version true
FitsLine version other = Unit {0}

-- the next id and serial, then descriptors, links, bindings, routes, messages, full places and hung-up streams
abbrev pub view_body : ConfigView → List TranscriptLine
view_body v =
    line.Next v.next_id v.next_serial ∷ (map line.Fd v.fds
    ++ (map line.Link v.links ++ (map line.Bind v.binds ++ (map line.Route v.routes
    ++ (map line.Msg v.msgs ++ (map line.Full v.fulls ++ map line.Hung v.hungs))))))

-- the line `config` and the lines of a view, as in a transcript before its last line
abbrev pub view_lines : ConfigView → List ℕ
view_lines v = codes "config\n" ++ text_of (map line_words (view_body v))

-- the lines between the header and the end: drivers, entries, `config`, the view
abbrev pub body : Transcript → List TranscriptLine
body t = map line.Driver t.drivers ++ (map line.Entry t.entries ++ line.Config ∷ view_body t.view)

-- each line of a view can be spelled, whatever the version
pub record IsSpellableView (v : ConfigView) : Type 0 where
  pub next_id : FitsNumber v.next_id
  pub next_serial : FitsNumber v.next_serial
  pub fds : AllByRecursion FitsDescriptor v.fds
  pub links : AllByRecursion FitsLink v.links
  pub binds : AllByRecursion FitsBinding v.binds
  pub routes : AllByRecursion FitsRoute v.routes
  pub msgs : AllByRecursion FitsMessage v.msgs
  pub fulls : AllByRecursion FitsFull v.fulls
  pub hungs : AllByRecursion FitsHung v.hungs

-- each line can be spelled, whatever the version
pub record IsSpellable (t : Transcript) : Type 0 where
  pub drivers : AllByRecursion FitsDriver t.drivers
  pub entries : AllByRecursion FitsEntry t.entries
  pub view : IsSpellableView t.view

-- a transcript of this version, within its limits, whose lines can all be spelled in this version
pub record IsAllowed (version : Version) (t : Transcript) : Type 0 where
  pub version_is : t.version ≡ version
  pub drivers : length t.drivers ≤ most_drivers version
  pub entries : length t.entries ≤ MAX_COMMANDS
  pub fits : AllByRecursion (FitsLine version) (body t)

-- the grammar of the transcript text in each version
abbrev pub transcript_grammar : Version → Grammar Transcript TranscriptLine
transcript_grammar version = record {
  header_words = codes "transcript" ∷ version_word version ∷ [];
  line_words = line_words;
  FitsLine = FitsLine version;
  body = body;
  end = line.End;
  IsAllowed = IsAllowed version;
}

-- the one text of this transcript
abbrev pub transcript_text : Transcript → List ℕ
transcript_text t = full_text (transcript_grammar t.version) t

-- these bytes spell this transcript
abbrev pub SpellsTranscript : List ℕ → Transcript → Type 0
SpellsTranscript bytes t = Spells (transcript_grammar t.version) bytes t
