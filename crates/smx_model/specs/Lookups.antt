-- The drivers, streams and numbers that a command names, and the refusals if it names none.
use Rattle.std.specs.Prelude.{ℕ, not, List, find, position, Result, Ok}
use Rattle.std.specs.List.{list_any, range_with_len}
use Rattle.std.specs.Option.{ok_or, option_map}
use Rattle.std.specs.Str.{bytes_eq}
use Rattle.smx_types.specs.declared.driver.DriverSpec.{DriverSpec}
use Rattle.smx_types.specs.declared.limits.TheConstants.{MAX_DESCRIPTORS}
use Rattle.smx_types.specs.declared.reply.Fault.{Fault}
use Rattle.smx_types.specs.declared.reply.Fault.TheVariants.{BadDescriptor, Below, NotMux, NoDriver, NoMinor}
use Rattle.smx_types.specs.declared.reply.Fault.TheVariants.{TooManyDescriptors, HungUp}
use Rattle.smx_types.specs.declared.stream.StreamId.{StreamId}
use Rattle.smx_model.specs.Configuration.{Configuration, is_fd}
use Rattle.smx_model.specs.DriverList.{is_mux, minors_of}
use Rattle.smx_model.specs.Hangups.{is_hung}
use Rattle.smx_model.specs.Outcomes.{◌>>=◌, refuse, unless}
use Rattle.smx_model.specs.Standing.{is_below, exists}

-- the number of the driver with this name
abbrev pub driver_of : List DriverSpec → List ℕ → Result ℕ Fault
driver_of drivers name = ok_or (position (λ d. bytes_eq d.name name) drivers) NoDriver

-- the stream of the process' descriptor
abbrev pub stream_of : Configuration → ℕ → ℕ → Result StreamId Fault
stream_of c process fd = ok_or (option_map (λ d. d.stream) (find (is_fd process fd) c.fds)) BadDescriptor

-- the lowest number that is not a descriptor of the process, which has at most 16
abbrev pub free_fd : Configuration → ℕ → Result ℕ Fault
free_fd c process =
    ok_or (find (λ n. not (list_any (is_fd process n) c.fds)) (range_with_len 0 MAX_DESCRIPTORS)) TooManyDescriptors

-- the lowest minor of the driver whose stream doesn't exist
abbrev pub free_minor : List DriverSpec → Configuration → ℕ → Result ℕ Fault
free_minor drivers c driver = ok_or
    (find (λ m. not (exists drivers c (record { driver = driver; minor = m })))
    (range_with_len 0 (minors_of drivers driver))) NoMinor

-- the stream of the process' descriptor, if it is not linked below a driver
abbrev pub free_stream : Configuration → ℕ → ℕ → Result StreamId Fault
free_stream c process fd = stream_of c process fd >>= unless Below (is_below c.links)

-- the stream of the process' descriptor, if it is not linked below a driver and its device has not hung up
abbrev pub live_stream : Configuration → ℕ → ℕ → Result StreamId Fault
live_stream c process fd = free_stream c process fd >>= unless HungUp (is_hung c.hungs)

-- the stream of the process' descriptor, if it is not linked below a driver and its driver is a multiplexer
abbrev pub mux_stream : List DriverSpec → Configuration → ℕ → ℕ → Result StreamId Fault
mux_stream drivers c process fd =
    free_stream c process fd >>= unless NotMux (λ s. not (is_mux drivers s.driver))

-- the stream of a leaf driver and its minor, if it exists
abbrev pub leaf_stream : List DriverSpec → Configuration → List ℕ → ℕ → Result StreamId Fault
leaf_stream drivers c name minor = do
  n ← driver_of drivers name
  leaf ← refuse NoDriver (is_mux drivers n)
  there ← refuse NoMinor (not (exists drivers c (record { driver = n; minor = minor })))
  Ok (record { driver = n; minor = minor })

-- the stream of a leaf driver and its minor, if it exists and its device has not hung up
abbrev pub live_leaf : List DriverSpec → Configuration → List ℕ → ℕ → Result StreamId Fault
live_leaf drivers c name minor = leaf_stream drivers c name minor >>= unless HungUp (is_hung c.hungs)
