-- A configuration whose numbers are almost used up: the last id and the last serial are given, and then none.
use Rattle.std.specs.Prelude.{List, [], ◌∷◌, ◌++◌, refl}
use Rattle.smx_types.specs.declared.command.Which.TheVariants as which
use Rattle.smx_model.specs.Configuration.{Configuration, empty}
use Rattle.smx_model.specs.Worked.Common.{Link, Plink, Unlink, Write, Inject, Id, Took, Done, Fault, AlreadyBelow}
use Rattle.smx_model.specs.Worked.Common.{Cycle, TooManyLinks, Full, BadSize, Entry, IsLegalFrom, legal_from}
use Rattle.smx_model.specs.Worked.Common.{◌does◌gets◌, eth, ip_over_eth, opened_ip_eth_eth}

-- nothing is open, and only one id and one serial are left
abbrev pub nearly_used_up : Configuration
nearly_used_up = record empty { next_id = 4294967294; next_serial = 4294967294 }

abbrev pub history : List Entry
history = opened_ip_eth_eth
    ++ 0 does Link 0 1 gets Id 4294967294
    ∷ 0 does Link 0 2 gets Fault TooManyLinks
    ∷ 0 does Link 0 1 gets Fault AlreadyBelow
    ∷ 0 does Link 0 0 gets Fault Cycle
    ∷ 0 does Unlink 0 (which.Id 4294967294) gets Done []
    ∷ 0 does Plink 0 1 gets Fault TooManyLinks
    ∷ 0 does Write 0 5 (170 ∷ []) gets Took 4294967294
    ∷ 0 does Write 0 5 (170 ∷ []) gets Fault Full
    ∷ 0 does Inject eth 0 9 (170 ∷ []) gets Fault Full
    ∷ 0 does Write 0 5 [] gets Fault BadSize
    ∷ []

-- every reply is the one that the command table gives
pub is_legal : IsLegalFrom ip_over_eth nearly_used_up history
is_legal = legal_from ip_over_eth nearly_used_up history refl
