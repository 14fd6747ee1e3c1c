-- The waits after some histories: each of the six reasons, on both sides, for first messages alone.
use Rattle.std.specs.Prelude.{◌≡◌, ℕ, List, [], ◌∷◌, ◌++◌, None, refl}
use Rattle.smx_types.specs.declared.stream.Place.{Place}
use Rattle.smx_types.specs.declared.stream.Side.{Side}
use Rattle.smx_types.specs.declared.stream.Side.TheVariants as side
use Rattle.smx_model.specs.Waits.{Reason, Wait, wait_at, waits}
use Rattle.smx_model.specs.Waits as reason
use Rattle.smx_model.specs.Configuration.{Configuration}
use Rattle.smx_model.specs.Worked.Common.{Link, Plink, Bind, Unbind, Route, Write, Inject, Hangup, Id, Took, Done}
use Rattle.smx_model.specs.Worked.Common.{Entry, IsLegal, after, legal, ◌does◌gets◌, eth, ip_over_eth, top_mid_and_eth}
use Rattle.smx_model.specs.Worked.Common.{opened_ip_ip_eth_eth, opened_top_mid_eth}

-- the side of this minor of the driver with this number
abbrev pub place_of : ℕ → ℕ → Side → Place
place_of driver minor which = record { stream = record { driver = driver; minor = minor }; side = which }

-- the message with this serial waits there
abbrev pub waits_for : Place → ℕ → Reason → Wait
waits_for p serial why = record { place = p; serial = serial; reason = why }

-- six bytes: two such messages fill a queue
abbrev pub six : List ℕ
six = 1 ∷ 2 ∷ 3 ∷ 4 ∷ 5 ∷ 6 ∷ []

-- messages for the device, for a full queue below, for a full queue above, and for a read; those after the first of a
-- queue don't count
abbrev pub history : List Entry
history = opened_ip_ip_eth_eth
    ++ 0 does Link 0 2 gets Id 1
    ∷ 0 does Route 0 5 1 gets Done []
    ∷ 0 does Bind 1 9 gets Done []
    ∷ 0 does Write 0 5 six gets Took 1
    ∷ 0 does Write 0 5 six gets Took 2
    ∷ 0 does Write 0 5 six gets Took 3
    ∷ 0 does Write 0 7 (1 ∷ []) gets Took 4
    ∷ 0 does Inject eth 0 9 six gets Took 5
    ∷ 0 does Inject eth 0 9 six gets Took 6
    ∷ 0 does Inject eth 0 9 (1 ∷ []) gets Took 7
    ∷ 0 does Inject eth 1 9 (1 ∷ []) gets Took 8
    ∷ 0 does Write 1 6 (1 ∷ []) gets Took 9
    ∷ []

pub is_legal : IsLegal ip_over_eth history
is_legal = legal ip_over_eth history refl

pub waits_so : waits ip_over_eth (after ip_over_eth history)
    ≡ waits_for (place_of 0 0 side.Write) 3 (reason.FullPlace (place_of 1 0 side.Write))
    ∷ waits_for (place_of 0 1 side.Write) 9 (reason.NoRoute 6)
    ∷ waits_for (place_of 0 1 side.Read) 5 reason.ForRead
    ∷ waits_for (place_of 1 0 side.Write) 1 reason.ForDevice
    ∷ waits_for (place_of 1 0 side.Read) 7 (reason.FullPlace (place_of 0 1 side.Read))
    ∷ waits_for (place_of 1 1 side.Read) 8 reason.ForRead
    ∷ []
waits_so = refl

-- then both devices hang up: the full queue below counts as hung up, and so does the device of a leaf; nobody is bound
-- any more, and a message for another address waits after the first
abbrev pub hangups : List Entry
hangups = history
    ++ 0 does Hangup eth 0 gets Done []
    ∷ 0 does Hangup eth 1 gets Done []
    ∷ 0 does Unbind 1 gets Done []
    ∷ 0 does Bind 0 8 gets Done []
    ∷ []

pub is_legal_with_hangups : IsLegal ip_over_eth hangups
is_legal_with_hangups = legal ip_over_eth hangups refl

pub waits_so_with_hangups : waits ip_over_eth (after ip_over_eth hangups)
    ≡ waits_for (place_of 0 0 side.Write) 3 (reason.HungStream (record { driver = 1; minor = 0 }))
    ∷ waits_for (place_of 0 1 side.Write) 9 (reason.NoRoute 6)
    ∷ waits_for (place_of 0 1 side.Read) 5 reason.ForRead
    ∷ waits_for (place_of 1 0 side.Write) 1 (reason.HungStream (record { driver = 1; minor = 0 }))
    ∷ waits_for (place_of 1 0 side.Read) 7 (reason.NotBound 9 0)
    ∷ waits_for (place_of 1 1 side.Read) 8 reason.ForRead
    ∷ []
waits_so_with_hangups = refl

-- three levels: a message goes up to the middle and waits there for a binding above it
abbrev pub three_levels : List Entry
three_levels = opened_top_mid_eth
    ++ 0 does Link 1 2 gets Id 1
    ∷ 0 does Bind 1 9 gets Done []
    ∷ 0 does Plink 0 1 gets Id 2
    ∷ 0 does Inject eth 0 9 (1 ∷ []) gets Took 1
    ∷ 0 does Write 0 5 (1 ∷ []) gets Took 2
    ∷ 0 does Route 0 5 2 gets Done []
    ∷ []

pub is_legal_of_three_levels : IsLegal top_mid_and_eth three_levels
is_legal_of_three_levels = legal top_mid_and_eth three_levels refl

pub waits_so_at_three_levels : waits top_mid_and_eth (after top_mid_and_eth three_levels)
    ≡ waits_for (place_of 1 0 side.Write) 2 (reason.NoRoute 5)
    ∷ waits_for (place_of 1 0 side.Read) 1 (reason.NotBound 9 0)
    ∷ []
waits_so_at_three_levels = refl

-- while a queue has a way on, its first message doesn't wait: the full place of the history, as if it were not full
abbrev pub opened_up : Configuration
opened_up = record (after ip_over_eth history) { fulls = [] }

pub no_wait : wait_at ip_over_eth opened_up (place_of 0 0 side.Write) ≡ None
no_wait = refl

pub no_wait_without_messages : wait_at ip_over_eth opened_up (place_of 1 1 side.Write) ≡ None
no_wait_without_messages = refl
