-- Legal histories of the sequential configuration.
use Rattle.std.specs.Prelude.{◌≡◌, ℕ, List, [], ◌∷◌, map, filter, ◌==◌, slice_index_or}
use Rattle.smx_types.specs.declared.command.Command.{Command}
use Rattle.smx_types.specs.declared.command.Entry.{Entry}
use Rattle.smx_types.specs.declared.driver.DriverSpec.{DriverSpec}
use Rattle.smx_model.specs.Commands.{step}
use Rattle.smx_model.specs.Configuration.{Configuration, empty}

-- the configuration after the entries, starting from this one
abbrev pub after_from : List DriverSpec → Configuration → List Entry → Configuration
after_from drivers c [] = c
after_from drivers c (e ∷ es) = after_from drivers (step drivers c e.process e.command).0 es

-- the configuration after a history
abbrev pub after : List DriverSpec → List Entry → Configuration
after drivers history = after_from drivers empty history

-- each reply is the one that its command gets, starting from this configuration
abbrev pub IsLegalFrom : List DriverSpec → Configuration → List Entry → Type 0
IsLegalFrom drivers c [] = Unit {0}
IsLegalFrom drivers c (e ∷ es) =
    ((step drivers c e.process e.command).1 ≡ e.reply) × IsLegalFrom drivers (step drivers c e.process e.command).0 es

-- each reply is the one that its command gets, starting from the empty configuration
abbrev pub IsLegal : List DriverSpec → List Entry → Type 0
IsLegal drivers history = IsLegalFrom drivers empty history

-- the process and its command, without the reply
abbrev pub call_of : Entry → ℕ × Command
call_of e = (e.process, e.command)

-- the commands of one process, in their order
abbrev pub commands_of : ℕ → List Entry → List Command
commands_of process history = map (λ e. e.command) (filter (λ e. e.process == process) history)

-- the commands of each process are its program, in order, each once; a process past the end of the list has none
abbrev pub HoldsPrograms : List Entry → List (List Command) → Type 0
HoldsPrograms history programs = (process : ℕ) → commands_of process history ≡ slice_index_or programs process []
