-- Processes that fail one after another.
use Rattle.std.specs.Prelude.{◌≡◌, ℕ, ◌<◌, ◌≤◌, length}
use Rattle.om_interval.specs.declared.pid.TheConstants.{MAX_PROCESSES}
use Rattle.om_manager.specs.Gatherings.{presence_of, presences_of}
use Rattle.om_manager.specs.Sound.{IsManager}
use Rattle.om_manager.specs.State.{ManagerState}
use Rattle.om_manager.specs.declared.presence.Presence.TheVariants.{Away, Failed}

-- the first so many processes have failed, and no other is in
pub record AreFailed (old : ManagerState) (count : ℕ) (new : ManagerState) : Type 0 where
  pub sound : IsManager new
  pub others : new ≡ record old { gathering = new.gathering; version = new.version }
  pub places : length (presences_of new.gathering) ≡ MAX_PROCESSES
  pub failed : (p : ℕ) → p < count → presence_of (presences_of new.gathering) p ≡ Failed
  pub away : (p : ℕ) → count ≤ p → presence_of (presences_of new.gathering) p ≡ Away
