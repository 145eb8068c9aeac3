-- What the calls of a prune do.
use Rattle.std.specs.Prelude.{◌≡◌, ◌≢◌, ℕ, ◌<◌, ◌≤◌, length, slice_get, slice_set, true, Some, Result, Err, OnOk, IfErr}
use Rattle.om_stable.specs.Content.{Content}
use Rattle.om_stable.specs.declared.error.StoreError.{StoreError}
use Rattle.om_stable.specs.declared.error.StoreError.TheVariants.{Fault, Present}
use Rattle.om_recover.specs.Cutting.{IsEffective, IsPruned}
use Rattle.om_manager.specs.State.{ManagerState}
use Rattle.om_world.specs.Changes.{HasFailed, NoneFell}
pub use Rattle.om_member.specs.Members.{WasPruned}
use Rattle.om_world.specs.Happened.{StorePruned}
use Rattle.om_world.specs.World.{WorldState, IsKnown, all_clean, recovered}

-- the manager is pruned
pub record ManagerPruned (old new : ManagerState) : Type 0 where
  pub rows : IsPruned old.rows old.recovery new.rows
  pub others : new ≡ record old { rows = new.rows }

-- the store of a process was pruned to its effective checkpoint, or refused
pub record HasPruned (old : WorldState) (p : ℕ) (answer : Result (Unit {0}) StoreError) (new : WorldState) : Type 0 where
  pub checkpoint : ℕ
  pub effective : IsEffective old.manager.rows p (recovered old.manager p) checkpoint
  pub others : new ≡ record old { contents = new.contents; health = new.health }
  pub did : IsKnown new → (before : Content) × (after : Content) × (slice_get old.contents p ≡ Some before)
      × (new.contents ≡ slice_set old.contents p after) × WasPruned checkpoint answer before after
  pub was_clean : all_clean new.health ≡ true → all_clean old.health ≡ true
  pub never_present : answer ≢ Err Present
  pub counted : answer ≡ Err Fault → HasFailed old p new
  pub counts : NoneFell old.health new.health

-- the stores of the first so many processes were pruned, and the others stay
pub record ArePruned (old : WorldState) (count : ℕ) (new : WorldState) : Type 0 where
  pub others : new ≡ record old { contents = new.contents; health = new.health }
  pub was_clean : all_clean new.health ≡ true → all_clean old.health ≡ true
  pub counts : NoneFell old.health new.health
  pub stores : IsKnown new → (p : ℕ) (before : Content) → slice_get old.contents p ≡ Some before
      → (after : Content) × (slice_get new.contents p ≡ Some after) × (p < count → StorePruned old p before after)
      × (count ≤ p → after ≡ before)

-- all were, or some before one that refused
pub record AllPruned (old : WorldState) (end : Result (Unit {0}) StoreError) (new : WorldState) : Type 0 where
  pub count : ℕ
  pub pruned : ArePruned old count new
  pub all : OnOk end (count ≡ length old.contents)
  pub refused : IfErr end (λ fault. fault ≢ Present)
  pub counted : end ≡ Err Fault → (p : ℕ) × HasFailed old p new
