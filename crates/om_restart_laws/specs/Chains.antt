-- Runs one after another, each of which ended and was taken up by the next.
use Rattle.std.specs.Prelude.{◌≡◌, ℕ, ◌≤◌, List, [], ◌∷◌, ◌++◌, length}
use Rattle.om_interval.specs.Vectors.{IsBelow}
use Rattle.om_manager.specs.Outputs.{HeldOutput}
use Rattle.om_process.specs.Claims.{AtInterval, Makes}
use Rattle.om_recover.specs.Recoverable.{IsGreatest}
use Rattle.om_recover.specs.Rows.{Rows}
use Rattle.om_world.specs.Disk.{IsOnDisk, held_in}
use Rattle.om_world.specs.Live.{program_at, received}
use Rattle.om_world.specs.World.{WorldState, output_entry, recovered}
use Rattle.om_world.specs.declared.entry.Entry.{Entry}
use Rattle.om_take_up.specs.StoreRows.{HasRowsOf}
use Rattle.om_restart_laws.specs.Worlds.{left_of}

-- what a start is told of the stores, and the state that it recovers
pub record Start : Type 0 where
  pub rows : Rows
  pub state : List ℕ

-- a world goes on from a state of another that ended: it has received what that left, and more; and that state is recovered in it
pub record GoesOnFrom (old : WorldState) (state : List ℕ) (new : WorldState) : Type 0 where
  pub same : new.programs ≡ old.programs
  pub more : List Entry
  pub live : new.live ≡ left_of old state ++ more
  pub recovered : IsBelow state new.manager.recovery

-- worlds from the first to the last, each of which ended with this on its disk and was taken up by the next, as the starts tell
abbrev pub IsChain : WorldState → List Start → WorldState → Type 0
IsChain first [] last = last ≡ first
IsChain first (start ∷ starts) last =
    IsOnDisk first × HasRowsOf (length first.programs) (held_in first) start.rows
    × IsGreatest (length first.programs) start.rows start.state
    × (next : WorldState) × GoesOnFrom first start.state next × IsChain next starts last

-- the output of this number of a process is made along what was received, within what is recovered
abbrev pub IsSaid : WorldState → ℕ → ℕ → HeldOutput → Type 0
IsSaid w p number o =
    (o.interval ≤ recovered w.manager p) × AtInterval (received p w.live) o.interval
    (Makes (program_at w.programs p) p (length w.programs) (length w.programs) number (output_entry o))
