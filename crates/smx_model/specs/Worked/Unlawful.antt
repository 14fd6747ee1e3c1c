-- Histories and final configurations that are each unlawful in one thing.
use Rattle.std.specs.Prelude.{ℕ, List, [], ◌∷◌}
use Rattle.smx_types.specs.declared.link.Link.{Link}
use Rattle.smx_model.specs.Configuration.{Configuration, empty}
use Rattle.smx_model.specs.Worked.Common.{OpenClone, Dup, Close, Write, Read, Flush, Transmit, Fd, Took, Got, Done, W}
use Rattle.smx_model.specs.Worked.Common.{Persistent, Entry, DriverSpec, ◌does◌gets◌, eth, leaf}

abbrev pub drivers : List DriverSpec
drivers = leaf eth 2 ∷ []

-- a link from a stream of one driver to a stream of another, with minor 0 of both
abbrev pub link : ℕ → ℕ → ℕ → Link
link id upper lower = record {
  id = id;
  ctl = record { driver = upper; minor = 0 };
  lower = record { driver = lower; minor = 0 };
  kind = Persistent;
}

-- a final configuration with only these links
abbrev pub end_with : List Link → Configuration
end_with links = record empty { links = links }

-- driver 1 below itself; a cycle of drivers 1, 2 and 3; and the stream of driver 3 below drivers 0 and 2
abbrev pub below_itself : List Link
below_itself = link 1 0 2 ∷ link 2 1 1 ∷ []

abbrev pub in_a_round : List Link
in_a_round = link 1 0 4 ∷ link 2 1 2 ∷ link 3 2 3 ∷ link 4 3 1 ∷ []

abbrev pub below_two : List Link
below_two = link 1 0 3 ∷ link 2 0 1 ∷ link 3 2 3 ∷ []

-- a stream is opened, and a message is written to it and transmitted
abbrev pub opened : Entry
opened = 0 does OpenClone eth gets Fd 0 0

abbrev pub wrote : Entry
wrote = 0 does Write 0 5 (170 ∷ []) gets Took 1

abbrev pub sent : Entry
sent = 0 does Transmit eth 0 gets Got 1 5 (170 ∷ [])

-- the flush names no message, so the message is lost
abbrev pub lost : List Entry
lost = opened ∷ wrote ∷ 0 does Flush 0 W gets Done [] ∷ []

-- the message is read at another place, and is still queued
abbrev pub doubled : List Entry
doubled = opened ∷ wrote ∷ 0 does Read 0 gets Got 1 5 (170 ∷ []) ∷ []

-- the message is transmitted twice
abbrev pub delivered_twice : List Entry
delivered_twice = opened ∷ wrote ∷ sent ∷ sent ∷ []

-- the close drops the message that was transmitted before
abbrev pub delivered_and_dropped : List Entry
delivered_and_dropped = opened ∷ wrote ∷ sent ∷ 0 does Close 0 gets Done (1 ∷ []) ∷ []

-- the flush names the message twice
abbrev pub dropped_twice : List Entry
dropped_twice = opened ∷ wrote ∷ 0 does Flush 0 W gets Done (1 ∷ 1 ∷ []) ∷ []

-- the message is transmitted under another serial
abbrev pub renumbered : List Entry
renumbered = opened ∷ wrote ∷ 0 does Transmit eth 0 gets Got 2 5 (170 ∷ []) ∷ []

-- a message is transmitted that was never written
abbrev pub never_taken : List Entry
never_taken = opened ∷ sent ∷ []

-- two messages are accepted with the same serial, with another one between them
abbrev pub one_serial : List Entry
one_serial = opened
    ∷ wrote
    ∷ sent
    ∷ 0 does Write 0 5 (187 ∷ []) gets Took 2
    ∷ 0 does Transmit eth 0 gets Got 2 5 (187 ∷ [])
    ∷ wrote
    ∷ sent
    ∷ []

-- the message is transmitted before it is written; the flush names no message, so that the final
-- configuration is lawful
abbrev pub too_early : List Entry
too_early = opened ∷ sent ∷ wrote ∷ 0 does Flush 0 W gets Done [] ∷ []

-- a dup names a dropped message
abbrev pub dropped_by_dup : List Entry
dropped_by_dup = opened ∷ wrote ∷ 0 does Dup 0 gets Done (1 ∷ []) ∷ []
