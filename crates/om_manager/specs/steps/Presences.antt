-- Who is in after a failure, and after a join.
use Rattle.std.specs.Prelude.{ℕ, List}
use Rattle.om_manager.specs.Rounds.{with_presence}
use Rattle.om_manager.specs.State.{ManagerState}
use Rattle.om_manager.specs.declared.presence.Presence.{Presence}
use Rattle.om_manager.specs.declared.presence.Presence.TheVariants.{Failed, Joined}

abbrev pub with_failed : ManagerState → ℕ → List Presence
with_failed m p = with_presence m p Failed

abbrev pub with_joined : ManagerState → ℕ → ℕ → List Presence
with_joined m p current = with_presence m p (Joined current)
