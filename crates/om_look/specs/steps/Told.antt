-- What a refused replay tells of where replays stop.
use Rattle.std.specs.Prelude.{ℕ, ◌<◌, ◌≤◌, Result, Ok, Err, IsSome}
use Rattle.std.specs.FinMap.{get}
use Rattle.om_stable.specs.Content.{Content}
use Rattle.om_process.specs.declared.replay.ReplayFault.{ReplayFault}
use Rattle.om_process.specs.declared.replay.ReplayFault.TheVariants as replaying
use Rattle.om_look.specs.declared.fault.LookFault.{LookFault}
use Rattle.om_look.specs.declared.fault.LookFault.TheVariants as looking

-- at the record that speaks against it
abbrev pub stop_told : ReplayFault → Result ℕ LookFault
stop_told replaying.NoCheckpoint = Ok 0
stop_told (replaying.Damaged y) = Ok y
stop_told (replaying.MissingReceipt y) = Ok y
stop_told (replaying.Mismatch y) = Ok y
stop_told replaying.Fault = Err looking.Fault
stop_told replaying.Memory = Err looking.Memory

-- each receipt above c and at or below x is there
abbrev pub NoneMissing : Content → ℕ → ℕ → Type 0
NoneMissing held c x = (z : ℕ) → c < z → z ≤ x → IsSome (get held.receipts z)
