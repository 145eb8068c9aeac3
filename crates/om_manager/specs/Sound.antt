use Rattle.std.specs.Prelude.{◌≡◌, ◌≢◌, ℕ, ◌+◌, ◌*◌, ◌<◌, ◌≤◌, ◌^◌, List, length, slice_index, sum, replicate, Bool, false, Option, None, IfSome, IsSome}
use mathlib.Core.List.{IsPrefix}
use Rattle.om_interval.specs.Vectors.{IsBelow}
use Rattle.om_interval.specs.Starts.{AreStarts, starts_of}
use Rattle.om_interval.specs.declared.pid.TheConstants.{MAX_PROCESSES}
use Rattle.om_recover.specs.Rows.{IsLawful}
use Rattle.om_recover.specs.Recoverable.{IsGreatest}
use Rattle.om_manager.specs.Outputs.{AreRising, within}
use Rattle.om_manager.specs.State.{ManagerState, process_count, held_by, released_by, open_count}
use Rattle.om_manager.specs.declared.presence.Presence.{Presence}

-- the incarnations of each process: none starts above the recovery state by more than one, and a process has begun no more
-- of them than there were rounds
pub record AreBegun (starts : List (List ℕ)) (recovery : List ℕ) (round : ℕ) : Type 0 where
  pub places : length starts ≡ length recovery
  pub lawful : (p : ℕ) → p < length recovery → AreStarts (starts_of starts p)
  pub within : (p inc : ℕ) → p < length recovery → inc < length (starts_of starts p)
      → slice_index (starts_of starts p) inc ≤ slice_index recovery p + 1
  pub few : (p : ℕ) → p < length recovery → length (starts_of starts p) ≤ round + 1

-- the rounds: one that is open can be finished, and the version has room
pub record AreRounds (recovery : List ℕ) (round : ℕ) (gathering : Option (List Presence)) (version : ℕ) : Type 0 where
  pub numbered : round < 2 ^ 32
  pub room : IfSome gathering (λ presences. round + 1 < 2 ^ 32)
  pub bounded : version ≤ sum recovery + 2 * round + open_count gathering

-- what is kept of the last finished round: its state is below the recovery state, and where there was none, nobody began
-- an incarnation
pub record IsLast (recovery : List ℕ) (round : ℕ) (last : List ℕ) (backs : List Bool) : Type 0 where
  pub below : IsBelow last recovery
  pub no_state : round ≡ 0 → last ≡ replicate (length recovery) 0
  pub no_backs : round ≡ 0 → backs ≡ replicate MAX_PROCESSES false

-- the recovery state is the greatest recoverable state of the rows, and of each process's outputs exactly those made
-- within the greatest recoverable state are released
pub record IsExact (m : ManagerState) : Type 0 where
  pub greatest : IsGreatest (process_count m) m.rows m.recovery
  pub released : (state : List ℕ) → IsGreatest (process_count m) m.rows state → (p : ℕ) → p < process_count m
      → released_by m p ≡ within (held_by m p) (slice_index state p)

-- what holds of every manager. The outputs of each process are in the order of their intervals, and so what is released of
-- them stands at the same numbers
pub record IsManager (m : ManagerState) : Type 0 where
  pub some : 0 < process_count m
  pub few : process_count m ≤ MAX_PROCESSES
  pub lawful : IsLawful (process_count m) m.rows
  pub exact : IsExact m
  pub places : length m.outputs ≡ process_count m
  pub rising : (p : ℕ) → p < process_count m → AreRising (held_by m p)
  pub released : (p : ℕ) → p < process_count m → IsPrefix (released_by m p) (held_by m p)
  pub begun : AreBegun m.starts m.recovery m.round
  pub rounds : AreRounds m.recovery m.round m.gathering m.version
  pub last : IsLast m.recovery m.round m.last m.backs

-- what a call may change of what others follow: it raises the recovery state, opens a gathering, or finishes a round
pub data Changes (old new : ManagerState) : Type 0 where
  raises : old.recovery ≢ new.recovery → Changes old new
  opens : old.gathering ≡ None → IsSome new.gathering → Changes old new
  finishes : new.round ≡ old.round + 1 → Changes old new

-- what others follow goes on: nothing of it changes; or something does, the version is one higher, and neither the round
-- nor any place of the recovery state falls
pub data GoesOn (old new : ManagerState) : Type 0 where
  stays : new.version ≡ old.version → new.round ≡ old.round → new.recovery ≡ old.recovery
      → (old.gathering ≡ None → new.gathering ≡ None) → GoesOn old new
  rises : Changes old new → new.version ≡ old.version + 1 → old.round ≤ new.round → IsBelow old.recovery new.recovery → GoesOn old new

-- what was released of a process is still released, at the same numbers
abbrev pub KeepsReleased : ManagerState → ManagerState → Type 0
KeepsReleased old new = (p : ℕ) → p < process_count old → IsPrefix (released_by old p) (released_by new p)
