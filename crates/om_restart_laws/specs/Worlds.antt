-- What a start comes to over the stores of a world that ended.
use Rattle.std.specs.Prelude.{◌≡◌, ℕ, ◌<◌, List, length, slice_get, slice_index, Some}
use Rattle.om_interval.specs.Vectors.{IsBelow}
use Rattle.om_manager.specs.Outputs.{HeldOutput}
use Rattle.om_manager.specs.State.{released_by}
use Rattle.om_process.specs.Claims.{AtInterval, CheckpointOf, Makes}
use Rattle.om_process.specs.Core.{CoreState, cluster_size}
use Rattle.om_process.specs.Stored.{IsReplay}
use Rattle.om_stable.specs.Content.{kept_by_cut}
use Rattle.om_world.specs.Disk.{AreTrue, held_in}
use Rattle.om_world.specs.Live.{Legal, cut_list, program_at, received}
use Rattle.om_world.specs.World.{WorldState, output_entry}
use Rattle.om_world.specs.declared.entry.Entry.{Entry}

-- what a state leaves of the run of a world
abbrev pub left_of : WorldState → List ℕ → List Entry
left_of w state = cut_list state w.live

-- a world that ended is taken up at a state: what that leaves of its run is a run without failures; nothing that was recovered is
-- lost; each output that was released is made under its number; each process that is replayed to its place stands where that run
-- leads; and the stores, cut to the state, are true of it, as the next start finds them
pub record IsTakenUpAt (w : WorldState) (state : List ℕ) : Type 0 where
  pub legal : Legal w.programs (left_of w state)
  pub kept : IsBelow w.manager.recovery state
  pub released : (p i : ℕ) (o : HeldOutput) → p < length w.programs → slice_get (released_by w.manager p) i ≡ Some o
      → AtInterval (received p (left_of w state)) o.interval
      (Makes (program_at w.programs p) p (length w.programs) (length w.programs) i (output_entry o))
  pub stands : (p : ℕ) (core : CoreState) → p < length w.programs → core.own ≡ p → cluster_size core.now ≡ length w.programs
      → IsReplay (held_in w p) (slice_index state p) core
      → CheckpointOf (program_at w.programs p) p (length w.programs) core.now (received p (left_of w state))
  pub disk : AreTrue w.programs (left_of w state) (λ p. kept_by_cut (held_in w p) (slice_index state p))
