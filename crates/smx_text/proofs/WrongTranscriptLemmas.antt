-- Transcripts with a misplaced line, a line that spells nothing, or a missing line.
use Rattle.smx_text.proofs.Common.{◌≢◌, ◌<◌, map, refl, ap, arith, rules, AllByRecursion, Transcript, most_drivers}
use Rattle.smx_text.proofs.Common.{Version, V1, V2, FitsDriver, FitsEntry, entry_words, IsFree, SPACE, line_of}
use Rattle.smx_text.proofs.Common.{TranscriptDraft, lines, IsBegun, IsOneLine, TranscriptLine, transcript_grammar}
use Rattle.std.proofs.Common.{◌≤◌, ◌≡◌, ℕ, List, [], ◌∷◌, length}
use Rattle.std.specs.Fmt.{digits}
use Rattle.std.specs.Prelude.{codes}
use Rattle.smx_types.specs.declared.command.Command.TheVariants as command
use Rattle.smx_types.specs.declared.command.Entry.{Entry as AnyEntry}
use Rattle.smx_types.specs.declared.link.LinkKind.TheVariants as link
use Rattle.smx_types.specs.declared.reply.Fault.TheVariants as fault
use Rattle.smx_types.specs.declared.reply.Reply.TheVariants as reply
use Rattle.smx_types.specs.declared.stream.Side.TheVariants as side
use Rattle.smx_words.proofs.DecidedCommandLemmas.{command_has_words, entry_has_words, reply_has_words}
use Rattle.smx_words.proofs.DecidedLemmas.{by_line, refused}
use Rattle.smx_words.proofs.DecidedWordLemmas.{name, number, process}
use Rattle.smx_text.specs.declared.text_fault.Cause.TheVariants as cause
use Rattle.smx_text.specs.declared.transcript.Stage.TheVariants as stage
use Rattle.smx_text.specs.TranscriptLines as line
use Rattle.smx_text.specs.TranscriptText.{FitsLine, line_words}
use Rattle.smx_text.specs.WorkedFaults.{IsWrongTranscript, with_drivers, with_line_3, with_line_5}
use Rattle.smx_text.proofs.EachLemmas.{all_append, all_map}
use Rattle.smx_text.proofs.MachineLemmas.{nothing_begun}
use Rattle.smx_text.proofs.TranscriptDrafts.{draft, new_view}
use Rattle.smx_text.proofs.TranscriptGrammarLemmas.{versions}
use Rattle.smx_text.proofs.TranscriptMachineLemmas.{reader, stands}
use Rattle.smx_text.proofs.WorkedFaultLemmas.{cut_text, later_line, misplaced_line, one_too_many, wrong_first}
use Rattle.smx_text.proofs.WorkedFaultLemmas.{wrong_words}
use Rattle.smx_text.proofs.LineWordLemmas.{other_first}
use Rattle.smx_text.proofs.WrongCommandLemmas.{ip}
use Rattle.smx_text.proofs.WrongProgramLemmas.{all_same, ip_fits, repeated}

-- ---- the lines before the fault

-- a transcript of a version with the driver `ip` n times, no entry and an empty view
abbrev drivers : Version → ℕ → Transcript
drivers version n = record { version = version; drivers = repeated ip n; entries = []; view = new_view 1 1 }

-- the lines of the driver `ip` at most as often as a version allows are a prefix of an allowed transcript
drivers_begun : (version : Version) (n : ℕ) → length (drivers version n).drivers ≤ most_drivers version
    → IsBegun (transcript_grammar version) (map line.Driver (repeated ip n))
drivers_begun version n few = (
  drivers version n,
  line.Config ∷ line.Next 1 1 ∷ [],
  record {
    version_is = refl;
    drivers = few;
    entries = omega arith;
    fits = all_append (FitsLine version) (map line.Driver (repeated ip n)) (line.Config ∷ line.Next 1 1 ∷ [])
        (all_map (FitsLine version) line.Driver (repeated ip n) (all_same FitsDriver ip n ip_fits))
        (search (rules, arith));
  },
  refl,
)

-- a transcript with no driver, no entry and a view of one link
abbrev one_link : Transcript
one_link = record (drivers V1 0) {
  view = record (new_view 2 1) {
    links = record {
      id = 1;
      ctl_driver = codes "ip";
      ctl_minor = 0;
      lower_driver = codes "eth";
      lower_minor = 0;
      kind = link.Persistent;
    } ∷ [];
  };
}

-- a transcript of which `config` was read, and no line before it
abbrev below_config : TranscriptDraft
below_config = draft stage.Config (drivers V1 0)

-- the line `config` is a prefix of an allowed transcript
config_begun : IsBegun (transcript_grammar V1) (lines below_config)
config_begun = (drivers V1 0, line.Next 1 1 ∷ [], search (rules, arith), refl)

-- a transcript of which the line of one driver was read
abbrev behind_driver : TranscriptDraft
behind_driver = draft stage.History (drivers V1 1)

-- the line of the driver is a prefix of an allowed transcript
driver_begun : IsBegun (transcript_grammar V1) (lines behind_driver)
driver_begun = drivers_begun V1 1 (omega arith)

-- words of no line give line 3 the fault `Form`
wrong_at_3 : (ws : List (List ℕ)) → AllByRecursion (IsFree SPACE) ws × (0 < length ws) × IsOneLine (line_of ws)
    → ((k : TranscriptLine) → FitsLine V1 k → ws ≢ line_words k)
    → IsWrongTranscript (with_line_3 (line_of ws)) 3 cause.Form
unfolding digits
wrong_at_3 ws plain none =
    wrong_words versions V1 (lines behind_driver) ws (codes "config\nnext 1 1\nend\n") driver_begun plain none

-- a transcript of which the line of one link was read, and no later group
abbrev behind_link : TranscriptDraft
behind_link = draft stage.View one_link

-- the lines up to the link are a prefix of an allowed transcript
link_begun : IsBegun (transcript_grammar V1) (lines behind_link)
link_begun = (one_link, [], search (rules, arith), refl)

-- ---- misplaced lines

-- the header of programs is not that of a transcript
pub other_header : IsWrongTranscript (codes "programs 1\nend\n") 1 cause.Header
other_header = wrong_first versions (codes "programs 1") (codes "end\n") (search rules) refl refl

-- transcripts of version 3 have a wrong header
pub version_3 : IsWrongTranscript (codes "transcript 3\n") 1 cause.Header
version_3 = wrong_first versions (codes "transcript 3") [] (search rules) refl refl

-- a header of version 2 with nothing after it is cut at line 2
pub version_2_alone : IsWrongTranscript (codes "transcript 2\n") 2 cause.Cut
version_2_alone = cut_text versions V2 [] [] (nothing_begun (reader V2 (new_view 0 0))) tt

-- the line of descriptor 0 of process 0, open on minor 0 of `ip`
abbrev descriptor : TranscriptLine
descriptor = line.Fd (record { process = 0; fd = 0; driver = codes "ip"; minor = 0 })

-- after `config` come the next id and serial, before any descriptor
pub missing_next : IsWrongTranscript (codes "transcript 1\nconfig\nfd 0 0 ip 0\nend\n") 3 cause.Form
unfolding digits
missing_next =
    misplaced_line versions V1 (stands below_config) config_begun descriptor (search (rules, arith))
    (codes "end\n") refl

-- the next id and serial may not be missing after `config`
pub end_too_early : IsWrongTranscript (codes "transcript 1\nconfig\nend\n") 3 cause.Form
end_too_early = misplaced_line versions V1 (stands below_config) config_begun line.End tt [] refl

-- the next id and serial come only once
pub two_nexts : IsWrongTranscript (with_line_5 (codes "next 2 1")) 5 cause.Form
unfolding digits
two_nexts =
    misplaced_line versions V1 (stands behind_link) link_begun (line.Next 2 1) (search (rules, arith))
    (codes "end\n") refl

-- no entry comes after `config`
pub late_entry : IsWrongTranscript (with_line_5 (codes "0 exit = done")) 5 cause.Form
unfolding digits
late_entry =
    misplaced_line versions V1 (stands behind_link) link_begun
    (line.Entry (record { process = 0; command = command.CloseAll; reply = reply.Done [] })) (search (rules, arith))
    (codes "end\n") refl

-- no descriptor comes after a link
pub late_descriptor : IsWrongTranscript (with_line_5 (codes "fd 0 0 ip 0")) 5 cause.Form
unfolding digits
late_descriptor =
    misplaced_line versions V1 (stands behind_link) link_begun descriptor (search (rules, arith))
    (codes "end\n") refl

-- a transcript without the line `end` is cut at the line after its last one
pub no_end : IsWrongTranscript (codes "transcript 1\nconfig\nnext 1 1\n") 4 cause.Cut
unfolding digits
no_end =
    cut_text versions V1 (line.Config ∷ line.Next 1 1 ∷ []) [] (drivers V1 0, [], search (rules, arith), refl) tt

-- a transcript of version 2 with one hung-up stream, and nothing else
abbrev one_hung : Transcript
one_hung = record (drivers V2 0) {
  view = record (new_view 1 1) { hungs = record { driver = codes "eth"; minor = 0 } ∷ [] };
}

-- no full place comes after a hung-up stream
pub late_full_place : IsWrongTranscript
    (codes "transcript 2\nconfig\nnext 1 1\nhung eth 0\nfull eth 0 r\nend\n") 5 cause.Form
unfolding digits
late_full_place =
    misplaced_line versions V2 (stands (draft stage.View one_hung)) (one_hung, [], search (rules, arith), refl)
    (line.Full (record { driver = codes "eth"; minor = 0; side = side.Read })) (search (rules, arith))
    (codes "end\n") refl

-- ---- one driver over the limit

-- in a transcript of version 1, a 65th driver is over the limit
pub driver_65_of_a_transcript : IsWrongTranscript (with_drivers (codes "transcript 1\n") 65) 66 cause.Many
unfolding digits
driver_65_of_a_transcript =
    one_too_many versions V1 (stands (draft stage.History (drivers V1 64))) (drivers_begun V1 64 (omega arith))
    (line.Driver ip) ip_fits (codes "end\n") refl refl

-- in a transcript of version 2, a 129th driver is over the limit
pub driver_129_of_a_transcript : IsWrongTranscript (with_drivers (codes "transcript 2\n") 129) 130 cause.Many
unfolding digits
driver_129_of_a_transcript =
    one_too_many versions V2 (stands (draft stage.History (drivers V2 128))) (drivers_begun V2 128 (omega arith))
    (line.Driver ip) ip_fits (codes "end\n") refl refl

-- ---- lines that spell nothing of their kind

-- the processes of entries go up to 63
pub process_64 : IsWrongTranscript (with_line_3 (codes "64 clone ip = fd 0 0")) 3 cause.Form
unfolding digits entry_has_words command_has_words reply_has_words process number name
process_64 =
    wrong_at_3 (codes "64" ∷ codes "clone" ∷ codes "ip" ∷ codes "=" ∷ codes "fd" ∷ codes "0" ∷ codes "0" ∷ [])
    (search rules, omega arith, search rules)
    (none (refused (by_line entry_has_words (λ x. omega arith)) (codes "64 clone ip = fd 0 0") refl)) where
      none : ((e : AnyEntry) → FitsEntry e → codes "64 clone ip = fd 0 0" ≢ line_of (entry_words e))
          → (k : TranscriptLine) → FitsLine V1 k
          → codes "64" ∷ codes "clone" ∷ codes "ip" ∷ codes "=" ∷ codes "fd" ∷ codes "0" ∷ codes "0" ∷ [] ≢ line_words k
      none wrong (line.Entry e) fits is = wrong e fits.0 (ap line_of is)
      none wrong k fits is = other_first _ _ refl is

-- `EINVAL` alone is not a reply: a second word names its cause
pub half_a_fault : IsWrongTranscript (with_line_3 (codes "0 clone ip = EINVAL")) 3 cause.Form
unfolding digits entry_has_words command_has_words reply_has_words process number name
half_a_fault =
    wrong_at_3 (codes "0" ∷ codes "clone" ∷ codes "ip" ∷ codes "=" ∷ codes "EINVAL" ∷ [])
    (search rules, omega arith, search rules)
    (none (refused (by_line entry_has_words (λ x. omega arith)) (codes "0 clone ip = EINVAL") refl)) where
      none : ((e : AnyEntry) → FitsEntry e → codes "0 clone ip = EINVAL" ≢ line_of (entry_words e))
          → (k : TranscriptLine) → FitsLine V1 k
          → codes "0" ∷ codes "clone" ∷ codes "ip" ∷ codes "=" ∷ codes "EINVAL" ∷ [] ≢ line_words k
      none wrong (line.Entry e) fits is = wrong e fits.0 (ap line_of is)
      none wrong k fits is = other_first _ _ refl is

-- ---- lines of version 2 only

-- a line that fits version 1 fits version 2
first_too : (k : TranscriptLine) → FitsLine V1 k → FitsLine V2 k × (line_of (line_words k) ≡ line_of (line_words k))
first_too (line.Entry e) fits = ((fits.0, tt), refl)
first_too (line.Hung h) fits = ((fits.0, tt), refl)
first_too k fits = (fits, refl)

-- version 1 has no entry of a hangup
pub hangup_in_version_1 : IsWrongTranscript (with_line_3 (codes "0 hangup ip 0 = done")) 3 cause.Form
unfolding digits
hangup_in_version_1 =
    later_line versions first_too (lines behind_driver)
    (line.Entry (record { process = 0; command = command.Hangup (codes "ip") 0; reply = reply.Done [] }))
    (codes "config\nnext 1 1\nend\n") driver_begun (search (rules, arith)) (λ fits. absurd (cc fits.1))

-- version 1 has no reply `eof`
pub end_of_file : IsWrongTranscript (with_line_3 (codes "0 read 0 = eof")) 3 cause.Form
unfolding digits
end_of_file =
    later_line versions first_too (lines behind_driver)
    (line.Entry (record { process = 0; command = command.Read 0; reply = reply.Eof }))
    (codes "config\nnext 1 1\nend\n") driver_begun (search (rules, arith)) (λ fits. absurd (cc fits.1))

-- version 1 has no refusal for a hangup
pub refusal : IsWrongTranscript (with_line_3 (codes "0 read 0 = ENXIO hangup")) 3 cause.Form
unfolding digits
refusal =
    later_line versions first_too (lines behind_driver)
    (line.Entry (record { process = 0; command = command.Read 0; reply = reply.Fault fault.HungUp }))
    (codes "config\nnext 1 1\nend\n") driver_begun (search (rules, arith)) (λ fits. absurd (cc fits.1))

-- version 1 has no hung-up stream in a view
pub hung_up_stream : IsWrongTranscript (with_line_5 (codes "hung eth 0")) 5 cause.Form
unfolding digits
hung_up_stream =
    later_line versions first_too (lines behind_link) (line.Hung (record { driver = codes "eth"; minor = 0 }))
    (codes "end\n") link_begun (search (rules, arith)) (λ fits. absurd (cc fits.1))
