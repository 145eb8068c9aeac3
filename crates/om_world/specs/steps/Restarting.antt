-- What the calls of a restart do.
use Rattle.std.specs.Prelude.{◌≡◌, ◌⊎◌, ℕ, ◌<◌, ◌≤◌, Bool, List, [], slice_get, cond, Some, length, true}
use Rattle.om_interval.specs.Vectors.{IsBelow}
use Rattle.om_look.specs.Rows.{AreRowsOf}
use Rattle.om_look.specs.declared.rows.RowsFault.{RowsFault}
use Rattle.om_look.specs.declared.rows.RowsFault.TheVariants as rows_faults
use Rattle.om_manager.specs.Outputs.{HeldOutput}
use Rattle.om_member.specs.Told.{row_for}
use Rattle.om_process.specs.Claims.{AtInterval, Makes}
use Rattle.om_process.specs.declared.limits.TheConstants.{LAST_INTERVAL}
use Rattle.om_process.specs.declared.row.PendingRow.{PendingRow}
use Rattle.om_recover.specs.Rows.{HasRow, Rows}
use Rattle.om_recover.specs.declared.row.Row.{Row}
use Rattle.om_stable.specs.Content.{Content}
use Rattle.om_manager.specs.Sound.{IsManager}
use Rattle.om_manager.specs.State.{ManagerState, held_by, process_count, released_by}
use Rattle.om_take_up.specs.Anew.{EachFailed, IsFirst}
use Rattle.om_take_up.specs.declared.taking.TakeUpFault.{TakeUpFault}
use Rattle.om_take_up.specs.declared.taking.TakeUpFault.TheVariants as take_ups
use Rattle.om_world.specs.declared.event.Refusal.{Refusal}
use Rattle.om_world.specs.declared.event.Refusal.TheVariants as why
use Rattle.om_world.specs.Changes.{NoneFell}
use Rattle.om_world.specs.Disk.{CanServe, DependsWithin, held_in}
use Rattle.om_world.specs.Live.{Legal, program_at, received}
use Rattle.om_world.specs.Stopped.{IsWhole}
use Rattle.om_take_up.specs.StoreRows.{HasRowsOf, first_row}
use Rattle.om_world.specs.World.{WorldState, IsKnown, all_clean, output_entry, recovered}
use Rattle.om_world.specs.declared.entry.Entry.{Entry}
use Rattle.om_world.specs.steps.Moves.{refusal_of_record}
use Rattle.om_world.specs.steps.Past.{past_of}
use Rattle.om_world.specs.steps.Sound.{EndsAt, IsStored}
use Rattle.om_world.specs.steps.Running.{refusal_of_output}

-- stores were read: what is known of them stays
pub record HasRead (old new : WorldState) : Type 0 where
  pub others : new ≡ record old { contents = new.contents; health = new.health }
  pub was_clean : all_clean new.health ≡ true → all_clean old.health ≡ true
  pub counts : NoneFell old.health new.health
  pub same : IsKnown new → new.contents ≡ old.contents

-- what a restart needs of a world along its run: the run is one without failures; what stands in the stores is true of it, and they can
-- serve what was recovered, which depends on nothing outside it; and each output that was released was made within it
pub record CanRestart (w : WorldState) : Type 0 where
  pub legal : Legal w.programs w.live
  pub stored : (p : ℕ) (held : Content) → slice_get w.contents p ≡ Some held → IsStored (past_of w) p held
  pub ends : (p : ℕ) (held : Content) → slice_get w.contents p ≡ Some held → EndsAt held (length (received p w.live))
  pub places : process_count w.manager ≡ length w.programs
  pub last : (p : ℕ) → p < length w.programs → recovered w.manager p ≤ LAST_INTERVAL
  pub served : (p : ℕ) → p < length w.programs → CanServe (held_in w p) (recovered w.manager p)
  pub within : DependsWithin w.live (recovered w.manager)
  pub released : (p i : ℕ) (o : HeldOutput) → p < length w.programs → slice_get (released_by w.manager p) i ≡ Some o
      → (o.interval ≤ recovered w.manager p) × AtInterval (received p w.live) o.interval
      (Makes (program_at w.programs p) p (length w.programs) (length w.programs) i (output_entry o))

-- the rows of the stores of the first so many of n processes are there, and checkpoint 0 of each
pub record HasRowsUpTo (count n : ℕ) (held : ℕ → Content) (rows : Rows) : Type 0 where
  pub told : ℕ → List PendingRow
  pub of_store : (p : ℕ) → p < count → AreRowsOf p n (held p) (told p)
  pub only : (row : Row) → HasRow rows row → (row.pid < n) × ((row ≡ first_row n row.pid)
      ⊎ ((row.pid < count) × ((i : ℕ) × (t : PendingRow) × (slice_get (told row.pid) i ≡ Some t) × (row ≡ row_for row.pid t))))
  pub all : (p i : ℕ) (t : PendingRow) → p < count → slice_get (told p) i ≡ Some t → HasRow rows (row_for p t)

-- a manager was told rows and handed outputs, and all else of it stays
pub record HasLearned (old new : ManagerState) : Type 0 where
  pub sound : IsManager new
  pub size : process_count new ≡ process_count old
  pub others : new ≡ record old { rows = new.rows; recovery = new.recovery; outputs = new.outputs; version = new.version }

-- the stores of the first so many processes were read; a manager was told their rows, and holds what was released of those processes
pub record HasToldStores (old : WorldState) (first : ManagerState) (count : ℕ) (new : WorldState) (m : ManagerState) : Type 0 where
  pub read : HasRead old new
  pub told : HasLearned first m
  pub rows : IsKnown new → HasRowsUpTo count (length old.programs) (held_in old) m.rows
  pub held : (p : ℕ) → p < count → held_by m p ≡ released_by old.manager p
  pub none : (p : ℕ) → count ≤ p → held_by m p ≡ []

-- a manager that a restart of the world puts in place of its own: it releases what was released
pub record IsAnew (w : WorldState) (m : ManagerState) : Type 0 where
  pub told : ManagerState
  pub first : IsFirst (length w.programs) told
  pub rows : IsKnown w → HasRowsOf (length w.programs) (held_in w) told.rows
  pub sound : IsManager told
  pub many : process_count w.manager ≡ length w.programs
  pub kept : IsKnown w → IsWhole w → IsBelow w.manager.recovery told.recovery
  pub outputs : (p : ℕ) → p < length w.programs → held_by told p ≡ released_by w.manager p
  pub released : (p : ℕ) → p < length w.programs → released_by told p ≡ released_by w.manager p
  pub failed : EachFailed told m
  pub finished : IsManager m

-- why a restart is refused where it is settled
pub data IsRefusal (refusal : Refusal) : Type 0 where
  fault : refusal ≡ why.Fault → IsRefusal refusal
  damaged : refusal ≡ why.Damaged → IsRefusal refusal
  memory : refusal ≡ why.Memory → IsRefusal refusal

abbrev pub refusal_of_rows : RowsFault → Refusal
refusal_of_rows (rows_faults.Damaged x) = why.Damaged
refusal_of_rows (rows_faults.Mismatch x) = why.Damaged
refusal_of_rows rows_faults.Fault = why.Fault
refusal_of_rows rows_faults.Memory = why.Memory

abbrev pub refusal_of_take_up : TakeUpFault → Refusal
refusal_of_take_up (take_ups.Row error) = refusal_of_record error
refusal_of_take_up (take_ups.Output error) = refusal_of_output error

-- of what a restart recovers: what was received, where each process knows the last finished round, else what had been before that
abbrev pub left_run : Bool → WorldState → List Entry
left_run current w = cond current w.live w.since.before
