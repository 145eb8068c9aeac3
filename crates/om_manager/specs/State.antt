use Rattle.std.specs.Prelude.{ℕ, List, [], length, slice_index, slice_index_or, Bool, Option, None, Some}
use Rattle.om_recover.specs.Rows.{Rows}
use Rattle.om_manager.specs.Outputs.{HeldOutput, within}
use Rattle.om_manager.specs.declared.presence.Presence.{Presence}

-- what a manager holds
pub record ManagerState : Type 0 where
  pub rows : Rows
  pub recovery : List ℕ
  pub outputs : List (List HeldOutput)  -- by process, by number: those that were handed in and not cut
  pub starts : List (List ℕ)  -- by process, by incarnation
  pub round : ℕ  -- how many rounds are finished
  pub gathering : Option (List Presence)  -- by process, where one is open
  pub last : List ℕ  -- the recovery state of the last finished round
  pub backs : List Bool  -- by process, whether it began an incarnation in it
  pub version : ℕ

-- the number of processes
abbrev pub process_count : ManagerState → ℕ
process_count m = length m.recovery

-- the outputs of a process that were handed in and not cut
abbrev pub held_by : ManagerState → ℕ → List HeldOutput
held_by m p = slice_index_or m.outputs p []

-- the outputs of a process that are released: those made within the recovery state
abbrev pub released_by : ManagerState → ℕ → List HeldOutput
released_by m p = within (held_by m p) (slice_index m.recovery p)

-- how many gatherings are open: one, or none
abbrev pub open_count : Option (List Presence) → ℕ
open_count None = 0
open_count (Some presences) = 1
