-- The words of a line of each text, by the tables.
use Rattle.smx_explain.proofs.Common.{◌≡◌, ℕ, true, List, [], ◌∷◌, ◌++◌, refl, sym, ap, subst, ◌∙◌, inl, inr, rules}
use Rattle.smx_explain.proofs.Common.{codes, decimal, Entry, DriverSpec, Version, V1, V2, CanTell, FitsCommandIn}
use Rattle.smx_explain.proofs.Common.{command_words, IsLine, first_choice, IsOther, Choice, ProgramsLine, Equals, End}
use Rattle.smx_explain.proofs.Common.{LineKind, Session, Value, Name, Number, Bytes}
use Rattle.std.specs.Prelude.{◌↔◌}
use Rattle.smx_types.specs.Versions.{is_hangup, tells_of_hangup}
use Rattle.smx_types.specs.declared.command.Command.{Command as AnyCommand}
use Rattle.smx_types.specs.declared.reply.Reply.{Reply as AnyReply}
use Rattle.smx_types.specs.declared.view.HungLine.{HungLine}
use Rattle.smx_words.specs.HexWords.{hex_word}
use Rattle.smx_words.specs.Spellable.{FitsDriver, FitsEntryIn, FitsHung, FitsReplyIn}
use Rattle.smx_words.specs.Spelling.{entry_words, hung_words, kind_word, link_kind_word, reply_words, side_word}
use Rattle.smx_words.proofs.InVersionLemmas.{can_tell_both, can_tell_each}
use Rattle.smx_text.specs.ProgramLines.{Line}
use Rattle.smx_text.specs.ProgramLines as line
use Rattle.smx_text.specs.ProgramsText as programs
use Rattle.smx_text.specs.TranscriptLines.{TranscriptLine as AnyTranscriptLine}
use Rattle.smx_text.specs.TranscriptLines as told
use Rattle.smx_text.specs.TranscriptText as transcript
use Rattle.smx_explain.specs.declared.kinds.Choice.TheVariants.{TranscriptLine, Command, Reply}
use Rattle.smx_explain.specs.declared.kinds.LineKind.TheVariants.{Programs, Transcript}
use Rattle.smx_explain.specs.declared.kinds.Value.TheVariants.{DriverKind, Process, Side, LinkKind}
use Rattle.smx_explain.proofs.CommandFormLemmas.{form, of_form}
use Rattle.smx_explain.proofs.ReplyFormLemmas.{IsReply, of_reply, reply_spelled}
use Rattle.smx_explain.proofs.RowLemmas.{equals_behind}
use Rattle.smx_explain.proofs.SessionFormLemmas.{lone_spelled, of_lone, of_session_line, request_spelled}
use Rattle.smx_explain.proofs.ShapeLemmas.{Words, words_of}
use Rattle.smx_explain.proofs.Spelling.{Spells, Takes}
use Rattle.smx_explain.proofs.WalkLemmas.{◌▹◌, cut, from_row, number, of_choice, with_args}

-- ---- drivers

-- the values expected after the word `driver`
abbrev driver_values : List Value
driver_values = Name ∷ DriverKind ∷ Number ∷ Number ∷ Number ∷ Number ∷ []

-- the words of a driver line after the first
abbrev driver_args : DriverSpec → List (List ℕ)
driver_args d = d.name ∷ kind_word d.kind ∷ decimal d.minors ∷ decimal d.high ∷ decimal d.low ∷ decimal d.max ∷ []

-- the words of a driver that can be spelled are one for each expected value
driver_takes : (d : DriverSpec) → FitsDriver d → Takes driver_values (driver_args d)
driver_takes d f = (f.name, ((d.kind, tt, refl), numbers)) where
  numbers : Takes (Number ∷ Number ∷ Number ∷ Number ∷ [])
      (decimal d.minors ∷ decimal d.high ∷ decimal d.low ∷ decimal d.max ∷ [])
  numbers = (number d.minors f.minors, (number d.high f.high, (number d.low f.low, (number d.max f.max, tt))))

-- words for the values of a driver are those of some driver that can be spelled
driver_of : (ws : Words driver_values) → (d : DriverSpec) × FitsDriver d × (words_of driver_values ws ≡ driver_args d)
driver_of ((a, is_a), ((b, is_b), ((c, is_c), ((d, is_d), ((e, is_e), ((f, is_f), end)))))) = (
  record { name = a; kind = is_b.0; minors = is_c.0; high = is_d.0; low = is_e.0; max = is_f.0 },
  record { name = is_a; minors = is_c.1; high = is_d.1; low = is_e.1; max = is_f.1 },
  cc (is_b.2, is_c.2, is_d.2, is_e.2, is_f.2),
)

-- ---- lines of programs

module _ (version : Version) where
  -- the words of any line of programs of a version complete a line
  programs_line : (k : Line) → programs.FitsLine version k → Spells version [] ProgramsLine (programs.line_words k)
  programs_line (line.Driver d) f =
      from_row version ProgramsLine (codes "driver") driver_values End (driver_args d) []
      (search rules) (driver_takes d f) tt
  programs_line (line.Process n) f = from_row version ProgramsLine (codes "process") (Number ∷ []) End
      (decimal n ∷ []) [] (search rules) (number n f, tt) tt
  programs_line line.End f = from_row version ProgramsLine (codes "end") ([]) End ([]) [] (search rules) tt tt
  programs_line (line.Command c) f = lone_spelled version ProgramsLine (λ word values lone. lone) c f

-- words that complete a line from its start are those of a line of programs
of_programs_line : (version : Version) → (words : List (List ℕ)) → Spells version [] ProgramsLine words
    → IsLine Programs version words
of_programs_line version = of_choice ProgramsLine (IsLine Programs)
    (λ v. (λ ws. let (d, fits, are) = driver_of ws in (line.Driver d, fits, cc are))
    ▹ (λ ((a, is_a), end). (line.Process is_a.0, is_a.1, cc is_a.2)) ▹ (λ end. (line.End, tt, refl)) ▹ tt) tt version
    (λ end. absurd end) (λ word values next is words h.
    let t = of_lone version word values next is words h in (line.Command t.0, t.1, sym t.2))

-- ---- lines of a transcript

module _ (version : Version) where
  -- the words of an entry after its process complete the line
  call_spelled : (c : AnyCommand) (r : AnyReply) → FitsCommandIn version c → FitsReplyIn version r
      → Spells version [] Command (command_words c ++ codes "=" ∷ reply_words r)
  call_spelled c r fits fits_too =
      let f = form version c fits in
      let reply = from_row version Equals (codes "=") [] Reply [] (reply_words r) (search rules) tt
      (reply_spelled version r fits_too) in
      subst (λ (words : List (List ℕ)). Spells version [] Command (words ++ codes "=" ∷ reply_words r)) (sym f.are)
      let rest = with_args version f.values f.args Equals (codes "=" ∷ reply_words r) f.takes reply in
      (f.values, Equals, inl f.fixed, rest)

  -- the words of an entry of a version complete a line of a transcript
  entry_spelled : (e : Entry) → FitsEntryIn version e → Spells version [] TranscriptLine (entry_words e)
  entry_spelled e (fits, told) =
      let parts = can_tell_each version (is_hangup e.command) (tells_of_hangup e.reply) told in (
        [],
        Command,
        inr ((e.process, fits.process, refl), refl, refl),
        call_spelled e.command e.reply (fits.command, parts.0) (fits.reply, parts.1),
      )

  -- the words of a hung-up stream complete a line of a transcript, in a version that has them
  hung_spelled : (h : HungLine) → FitsHung h → CanTell version true → Spells version [] TranscriptLine (hung_words h)
  hung_spelled h fits told = of_version_2 version told where
    of_version_2 : (v : Version) → CanTell v true → Spells v [] TranscriptLine (hung_words h)
    of_version_2 V1 told = absurd (cc told)
    of_version_2 V2 told = (
      Name ∷ Number ∷ [],
      End,
      inl (inl (refl, refl, refl)),
      with_args V2 (Name ∷ Number ∷ []) (h.driver ∷ decimal h.minor ∷ []) End []
          (fits.driver, (number h.minor fits.minor, tt)) tt,
    )

  -- the words of any line of a transcript of a version complete a line
  transcript_line : (k : AnyTranscriptLine) → transcript.FitsLine version k
      → Spells version [] TranscriptLine (transcript.line_words k)
  transcript_line (told.Driver d) f =
      from_row version TranscriptLine (codes "driver") (Name ∷ DriverKind ∷ Number ∷ Number ∷ Number ∷ Number ∷ [])
      End (d.name ∷ kind_word d.kind ∷ decimal d.minors ∷ decimal d.high ∷ decimal d.low ∷ decimal d.max ∷ []) []
      (search rules) (driver_takes d f) tt
  transcript_line told.Config f = from_row version TranscriptLine (codes "config") ([]) End ([]) []
      (search rules) tt tt
  transcript_line (told.Next id serial) f = from_row version TranscriptLine (codes "next") (Number ∷ Number ∷ []) End
      (decimal id ∷ decimal serial ∷ []) [] (search rules) (number id f.0, (number serial f.1, tt)) tt
  transcript_line (told.Fd d) f =
      from_row version TranscriptLine (codes "fd") (Process ∷ Number ∷ Name ∷ Number ∷ []) End
      (decimal d.process ∷ decimal d.fd ∷ d.driver ∷ decimal d.minor ∷ []) []
      (search rules) ((d.process, f.process, refl), (number d.fd f.fd, (f.driver, (number d.minor f.minor, tt)))) tt
  transcript_line (told.Link l) f =
      from_row version TranscriptLine (codes "link") (Number ∷ Name ∷ Number ∷ Name ∷ Number ∷ LinkKind ∷ []) End
      (decimal l.id ∷ l.ctl_driver ∷ decimal l.ctl_minor ∷ l.lower_driver ∷ decimal l.lower_minor ∷ link_kind_word
      l.kind ∷ []) []
      (search rules) (
        number l.id f.id,
        (
          f.ctl_driver,
          (
            number l.ctl_minor f.ctl_minor,
            (f.lower_driver, (number l.lower_minor f.lower_minor, ((l.kind, tt, refl), tt))),
          ),
        ),
      ) tt
  transcript_line (told.Bind b) f = from_row version TranscriptLine (codes "bind") (Name ∷ Number ∷ Number ∷ []) End
      (b.driver ∷ decimal b.addr ∷ decimal b.minor ∷ []) []
      (search rules) (f.driver, (number b.addr f.addr, (number b.minor f.minor, tt))) tt
  transcript_line (told.Route r) f = from_row version TranscriptLine (codes "route") (Name ∷ Number ∷ Number ∷ []) End
      (r.driver ∷ decimal r.addr ∷ decimal r.id ∷ []) []
      (search rules) (f.driver, (number r.addr f.addr, (number r.id f.id, tt))) tt
  transcript_line (told.Msg m) f =
      from_row version TranscriptLine (codes "msg") (Name ∷ Number ∷ Side ∷ Number ∷ Number ∷ Bytes ∷ []) End
      (m.driver ∷ decimal m.minor ∷ side_word m.side ∷ decimal m.message.serial ∷ decimal m.message.addr ∷ hex_word
      m.message.bytes ∷ []) []
      (search rules) (
        f.driver,
        (
          number m.minor f.minor,
          (
            (m.side, tt, refl),
            (
              number m.message.serial f.serial,
              (number m.message.addr f.addr, ((m.message.bytes, f.bytes, refl), tt)),
            ),
          ),
        ),
      ) tt
  transcript_line (told.Full q) f = from_row version TranscriptLine (codes "full") (Name ∷ Number ∷ Side ∷ []) End
      (q.driver ∷ decimal q.minor ∷ side_word q.side ∷ []) []
      (search rules) (f.driver, (number q.minor f.minor, ((q.side, tt, refl), tt))) tt
  transcript_line told.End f = from_row version TranscriptLine (codes "end") ([]) End ([]) [] (search rules) tt tt
  transcript_line (told.Entry e) f = entry_spelled e f
  transcript_line (told.Hung h) f = hung_spelled h f.0 f.1

  -- the words after a process are those of a command and a reply
  record IsCall (words : List (List ℕ)) : Type 0 where
    command : AnyCommand
    fits : FitsCommandIn version command
    reply : AnyReply
    fits_too : FitsReplyIn version reply
    are : words ≡ command_words command ++ codes "=" ∷ reply_words reply

  -- words that complete the line from the equals sign are that sign and a reply
  equals : (words : List (List ℕ)) → Spells version [] Equals words
      → (rest : List (List ℕ)) × (words ≡ codes "=" ∷ rest) × IsReply version rest
  equals = of_choice Equals (λ v words. (rest : List (List ℕ)) × (words ≡ codes "=" ∷ rest) × IsReply v rest)
      (λ v. (λ words h. (words, refl, of_reply v words h)) ▹ tt) tt version (λ end. absurd end)
      (λ word values next is. absurd is)

  -- words that complete the line from a command are a command, the equals sign and a reply
  call : (words : List (List ℕ)) → Spells version [] Command words → IsCall words
  call [] h = absurd h
  call (word ∷ words) (values, next, inl is, h) =
      let then = equals_behind version word values next is in
      let t = cut version values Equals words (subst (λ (n : Choice). Spells version values n words) then h) in
      let c = of_form version word values next t.args is t.takes in
      let (rest, are, r) = equals t.rest t.more in
      record {
        command = c.0;
        fits = c.1;
        reply = r.0;
        fits_too = r.1;
        are = ap (λ (ws : List (List ℕ)). word ∷ ws) (t.are ∙ ap (λ (ws : List (List ℕ)). t.args ++ ws)
            (are ∙ ap (λ (ws : List (List ℕ)). codes "=" ∷ ws) (sym r.2)))
            ∙ ap (λ (ws : List (List ℕ)). ws ++ codes "=" ∷ reply_words r.0) (sym c.2);
      }
  call (word ∷ words) (values, next, inr is, h) = absurd is

  -- the word of a process, and words that complete the line after it, are those of an entry's line
  entry : (word : List ℕ) (values : List Value) (next : Choice) → IsOther version TranscriptLine word values next
      → (words : List (List ℕ)) → Spells version values next words → IsLine Transcript version (word ∷ words)
  entry word values next ((process, small, is), none, then) words h =
      let t = call words (rw (← none, ← then) h) in (
        told.Entry (record { process = process; command = t.command; reply = t.reply }),
        (
          record { process = small; command = t.fits.0; reply = t.fits_too.0 },
          can_tell_both version (is_hangup t.command) (tells_of_hangup t.reply) t.fits.1 t.fits_too.1,
        ),
        cc (is, t.are),
      )

-- words that complete a line from its start are those of a line of a transcript
of_transcript_line : (version : Version) → (words : List (List ℕ)) → Spells version [] TranscriptLine words
    → IsLine Transcript version words
of_transcript_line version = of_choice TranscriptLine (IsLine Transcript)
    (λ v. (λ ws. let (d, fits, are) = driver_of ws in (told.Driver d, fits, cc are))
    ▹ (λ end. (told.Config, tt, refl))
    ▹ (λ ((a, is_a), ((b, is_b), end)). (told.Next is_a.0 is_b.0, (is_a.1, is_b.1), cc (is_a.2, is_b.2)))
    ▹ (λ ((a, is_a), ((b, is_b), ((c, is_c), ((d, is_d), end)))). (
      told.Fd (record { process = is_a.0; fd = is_b.0; driver = c; minor = is_d.0 }),
      record { process = is_a.1; fd = is_b.1; driver = is_c; minor = is_d.1 },
      cc (is_a.2, is_b.2, is_d.2),
    ))
    ▹ (λ ((a, is_a), ((b, is_b), ((c, is_c), ((d, is_d), ((e, is_e), ((f, is_f), end)))))). (
      told.Link (record {
        id = is_a.0;
        ctl_driver = b;
        ctl_minor = is_c.0;
        lower_driver = d;
        lower_minor = is_e.0;
        kind = is_f.0;
      }),
      record { id = is_a.1; ctl_driver = is_b; ctl_minor = is_c.1; lower_driver = is_d; lower_minor = is_e.1 },
      cc (is_a.2, is_c.2, is_e.2, is_f.2),
    ))
    ▹ (λ ((a, is_a), ((b, is_b), ((c, is_c), end))). (
      told.Bind (record { driver = a; addr = is_b.0; minor = is_c.0 }),
      record { driver = is_a; addr = is_b.1; minor = is_c.1 },
      cc (is_b.2, is_c.2),
    ))
    ▹ (λ ((a, is_a), ((b, is_b), ((c, is_c), end))). (
      told.Route (record { driver = a; addr = is_b.0; id = is_c.0 }),
      record { driver = is_a; addr = is_b.1; id = is_c.1 },
      cc (is_b.2, is_c.2),
    ))
    ▹ (λ ((a, is_a), ((b, is_b), ((c, is_c), ((d, is_d), ((e, is_e), ((f, is_f), end)))))). (
      told.Msg (record {
        driver = a;
        minor = is_b.0;
        side = is_c.0;
        message = record { serial = is_d.0; addr = is_e.0; bytes = is_f.0 };
      }),
      record { driver = is_a; minor = is_b.1; serial = is_d.1; addr = is_e.1; bytes = is_f.1 },
      cc (is_b.2, is_c.2, is_d.2, is_e.2, is_f.2),
    ))
    ▹ (λ ((a, is_a), ((b, is_b), ((c, is_c), end))). (
      told.Full (record { driver = a; minor = is_b.0; side = is_c.0 }),
      record { driver = is_a; minor = is_b.1 },
      cc (is_b.2, is_c.2),
    ))
    ▹ (λ end. (told.End, tt, refl)) ▹ tt)
    ((λ ((a, is_a), ((b, is_b), end)).
    (told.Hung (record { driver = a; minor = is_b.0 }), (record { driver = is_a; minor = is_b.1 }, tt), cc is_b.2)) ▹ tt)
    version (λ end. absurd end) (entry version)

-- ---- all lines

-- the lines of a kind are exactly the words that complete a line from its start
pub line_is : (kind : LineKind) (version : Version) (words : List (List ℕ))
    → IsLine kind version words ↔ Spells version [] (first_choice kind) words
line_is Programs version words = (
  λ h. subst (λ (ws : List (List ℕ)). Spells version [] ProgramsLine ws) (sym h.2) (programs_line version h.0 h.1),
  of_programs_line version words,
)
line_is Transcript version words = (
  λ h. subst (λ (ws : List (List ℕ)). Spells version [] TranscriptLine ws) (sym h.2) (transcript_line version h.0 h.1),
  of_transcript_line version words,
)
line_is Session version words = (request_spelled version words, of_session_line version words)
