-- The five commands that may drop messages.
use Rattle.std.specs.Prelude.{◌≡◌, List, [], ◌∷◌, filter, refl}
use Rattle.smx_types.specs.declared.command.Command.{Command}
use Rattle.smx_types.specs.declared.command.Which.TheVariants as which
use Rattle.smx_model.specs.LawfulHistories.{may_drop}
use Rattle.smx_model.specs.Worked.Common.{OpenClone, OpenMinor, Dup, Close, CloseAll, Link, Plink, Unlink, Punlink}
use Rattle.smx_model.specs.Worked.Common.{Bind, Unbind, Route, Unroute, Write, Read, Flush, Inject, Transmit, Hangup}
use Rattle.smx_model.specs.Worked.Common.{RW, ip, eth}

abbrev pub opens_and_links : List Command
opens_and_links = OpenClone ip ∷ OpenMinor ip 0 ∷ Dup 0 ∷ Close 0 ∷ CloseAll ∷ Link 0 1 ∷ Plink 0 1 ∷ []

abbrev pub removals : List Command
removals = Unlink 0 which.All ∷ Punlink 0 which.All ∷ Bind 0 9 ∷ Unbind 0 ∷ Route 0 5 1 ∷ Unroute 0 5 ∷ []

abbrev pub messages : List Command
messages = Write 0 5 (1 ∷ []) ∷ Read 0 ∷ Flush 0 RW ∷ Inject eth 0 9 (1 ∷ []) ∷ Transmit eth 0 ∷ Hangup eth 0 ∷ []

pub closes_drop : filter may_drop opens_and_links ≡ Close 0 ∷ CloseAll ∷ []
closes_drop = refl

pub unlinks_drop : filter may_drop removals ≡ Unlink 0 which.All ∷ Punlink 0 which.All ∷ []
unlinks_drop = refl

pub flushes_drop : filter may_drop messages ≡ Flush 0 RW ∷ []
flushes_drop = refl
