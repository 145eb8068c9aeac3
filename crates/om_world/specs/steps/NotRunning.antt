-- What is told of a process that does not run.
use Rattle.std.specs.Prelude.{◌≡◌, ℕ, ◌<◌, ◌≤◌, length}
use Rattle.om_world.specs.declared.event.Refusal.{Refusal}
use Rattle.om_world.specs.declared.event.Refusal.TheVariants as refusals
use Rattle.om_world.specs.Changes.{IsUp}
use Rattle.om_world.specs.World.{WorldState}

-- an event of a process that is not there, or is not up; no other refusal is meant
abbrev pub NotRunning : WorldState → ℕ → Refusal → WorldState → Type 0
NotRunning old p refusals.NoProcess new = (length old.programs ≤ p) × (new ≡ old)
NotRunning old p refusals.NotUp new = (p < length old.programs) × (IsUp old p → ⊥) × (new ≡ old)
NotRunning old p why new = ⊥
