-- The knowledge of two seats of a history with one entry, before that entry and after it, and variants with one part
-- wrong.
use Rattle.std.specs.Prelude.{ℕ, Bool, true, false, [], ◌∷◌}
use Rattle.smx_types.specs.declared.command.Entry.{Entry}
use Rattle.smx_model.specs.Worked.Common.{OpenClone, CloseAll, Dup, Fd, Done, ◌does◌gets◌, ip}
use Rattle.smx_shared.specs.Recorded.{Recorded}
use Rattle.smx_shared.specs.Seats.{Known, Seated, SharedId, entries_of, met_seat}
use Rattle.smx_shared.specs.WorkedSystems.{with_first}
use Rattle.smx_shared.specs.declared.front.Front.{Front}

-- the first entry of the history, of process 0; the second is illegal
abbrev pub opened : Entry
opened = 0 does OpenClone ip gets Fd 0 0

-- a process has seen the first entries, and made those that are its own
abbrev pub knows : ℕ → ℕ → ℕ → Known
knows process entries limit = record {
  drivers = (with_first entries limit).drivers;
  limit = limit;
  process = process;
  seen = (with_first entries limit).history;
  own = entries_of process (with_first entries limit).history;
}

-- after the entry, except that the seat has not seen it, or has not made it
abbrev pub blind : Known
blind = record (knows 0 1 9) { seen = [] }

abbrev pub idle : Known
idle = record (knows 0 1 9) { own = [] }

-- after two entries that were made here
abbrev pub twice : Known
twice =
    let both = opened ∷ (0 does Dup 0 gets Fd 1 0) ∷ [] in
    record (knows 0 1 9) { seen = both; own = both }

-- an entry of process 1, which is not in that history
abbrev pub exited : Entry
exited = 1 does CloseAll gets Done []

-- after the entry and another one, and after that other one only
abbrev pub passed : Known
passed = record (knows 0 1 9) { seen = opened ∷ exited ∷ [] }

abbrev pub astray : Known
astray = record (knows 0 0 9) { seen = exited ∷ [] }

-- a system with that other entry only
abbrev pub strayed : Recorded
strayed = record (with_first 1 9) { history = exited ∷ [] }

-- a seat that knows this, read this word last, and has made this number of steps
abbrev pub sits : SharedId → Known → ℕ → ℕ → Seated
sits id known last looks = record { shared = id; known = known; last = last; looks = looks; turn = false; met = [] }

-- a seat of process 1 before the entry; and after it, when it last read this word, and has made this number of steps
abbrev pub first : SharedId → Seated
first id = sits id (knows 1 0 9) 0 0

abbrev pub after : SharedId → ℕ → ℕ → Seated
after id last looks = sits id (knows 1 1 9) last looks

-- another seat, which knows this
abbrev pub other : SharedId → Known → Seated
other id known = sits id known 4096 1

-- the same seat with the turn
abbrev pub keeps : Seated → Seated
keeps seat = record seat { turn = true }

-- the same seat, which has met one that knew this
abbrev pub meets : Seated → Known → Seated
meets seat other = record seat { met = met_seat other ∷ [] }

-- these numbers of entries and links, with the turn held or free
abbrev pub front : ℕ → ℕ → Bool → Front
front entries links held = record { entries = entries; links = links; held = held }
