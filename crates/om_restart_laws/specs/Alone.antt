-- What a start comes to over stores alone, whatever left them.
use Rattle.std.specs.Prelude.{◌≡◌, ℕ, ◌<◌, ◌≤◌, List, [], length, replicate, slice_get, slice_index, slice_index_or, None, Some, true, false}
use Rattle.om_interval.specs.Vectors.{IsBelow}
use Rattle.om_manager.specs.Outputs.{HeldOutput}
use Rattle.om_manager.specs.State.{ManagerState, released_by}
use Rattle.om_process.specs.Claims.{AtInterval, Makes}
use Rattle.om_process.specs.Process.{Program}
use Rattle.om_process.specs.declared.limits.TheConstants.{LAST_INTERVAL}
use Rattle.om_stable.specs.Content.{Content, nothing}
use Rattle.om_world.specs.Disk.{AreTrue, CanServe, DependsWithin}
use Rattle.om_world.specs.Holds.{Holds}
use Rattle.om_world.specs.Live.{Legal, cut_list, program_at, received}
use Rattle.om_world.specs.World.{WorldState, output_entry}
use Rattle.om_world.specs.declared.entry.Entry.{Entry}
use Rattle.om_world.specs.declared.process_state.ProcessState.{ProcessState}

-- by process what its store holds, and nothing where there is no process
abbrev pub content_of : List Content → ℕ → Content
content_of contents p = slice_index_or contents p nothing

-- what a run left on its disk, by its stores and by what was put out: it was one without failures, of which the records are true; the stores
-- can serve a state that depends on nothing outside it; and each output that was put out was made within that
pub record AreLeft (programs : List Program) (live : List Entry) (state : List ℕ) (contents : List Content) (outputs : ℕ → List HeldOutput) : Type 0 where
  pub legal : Legal programs live
  pub records : AreTrue programs live (content_of contents)
  pub places : length state ≡ length programs
  pub last : (p : ℕ) → p < length programs → slice_index state p ≤ LAST_INTERVAL
  pub served : (p : ℕ) → p < length programs → CanServe (content_of contents p) (slice_index state p)
  pub within : DependsWithin live (slice_index state)
  pub put_out : (p i : ℕ) (o : HeldOutput) → p < length programs → slice_get (outputs p) i ≡ Some o
      → (o.interval ≤ slice_index state p) × AtInterval (received p live) o.interval
      (Makes (program_at programs p) p (length programs) (length programs) i (output_entry o))

-- the world over these stores as a start has it once its manager has finished the round: each process is down, nothing is on its way, and
-- what was received is what the recovery state leaves of that run
abbrev pub world_over : List Program → List Entry → List Content → ManagerState → WorldState
world_over programs live contents m = record {
  programs = programs;
  live = cut_list m.recovery live;
  frames = [];
  cores = replicate (length programs) None;
  places = replicate (length programs) (ProcessState.Down true);
  rounds = replicate (length programs) 0;
  manager = m;
  contents = contents;
  health = [];
  origins = [];
  since = record { before = live; stored = false };
}

-- a world over these contents is a point of a run without failures; nothing is lost that could be served; and just what was put out is released
pub record StandsOver (programs : List Program) (live : List Entry) (state : List ℕ) (contents : List Content)
    (outputs : ℕ → List HeldOutput) (m : ManagerState) : Type 0 where
  pub holds : Holds (world_over programs live contents m)
  pub kept : IsBelow state m.recovery
  pub released : (p : ℕ) → p < length programs → released_by m p ≡ outputs p
