-- Outputs that are handed in one after another.
use Rattle.std.specs.Prelude.{◌≡◌, ◌≢◌, ℕ, List}
use Rattle.om_manager.specs.Outputs.{HeldOutput}
use Rattle.om_manager.specs.Sound.{IsManager}
use Rattle.om_manager.specs.State.{ManagerState, held_by}

-- of one process these are held, and of the others what was held before
pub record Holds (old : ManagerState) (p : ℕ) (outputs : List HeldOutput) (new : ManagerState) : Type 0 where
  pub sound : IsManager new
  pub others : new ≡ record old { outputs = new.outputs }
  pub here : held_by new p ≡ outputs
  pub there : (q : ℕ) → q ≢ p → held_by new q ≡ held_by old q
