-- The kind that an event was of for one process, by its answer.
use Rattle.std.specs.Prelude.{◌≡◌, ℕ, if◌then◌else◌, nat_eq}
use Rattle.om_process.specs.declared.accept.Accept.TheVariants.{Taken}
use Rattle.om_process.specs.declared.status.Status.{Status}
use Rattle.om_world.specs.declared.event.Answer.{Answer}
use Rattle.om_world.specs.declared.event.Answer.TheVariants.{Ran, Given, Back, Refused}
use Rattle.om_world.specs.declared.event.Event.{Event}
use Rattle.om_world.specs.declared.event.Event.TheVariants.{Run, Give, Resume}
use Rattle.om_world.specs.declared.event.Refusal.TheVariants.{Memory}
use Rattle.om_timeline.specs.declared.kind.Kind.{Kind}
use Rattle.om_timeline.specs.declared.kind.Kind.TheVariants as kinds

abbrev pub kind_of : ℕ → Answer → Event → Kind
kind_of p (Ran steps status sent made) (Run q fuel) = if nat_eq q p then kinds.Ran steps else kinds.Nothing
kind_of p (Given (Taken x)) (Give q frame) = if nat_eq q p then kinds.Took frame else kinds.Nothing
kind_of p (Back interval inc) (Resume q) = if nat_eq q p then kinds.Back else kinds.Nothing
kind_of p (Refused Memory) event = kinds.NoMemory
kind_of p answer event = kinds.Nothing

-- what an event of a kind is, with its answer
abbrev pub IsKind : ℕ → Answer → Event → Kind → Type 0
IsKind p a e kinds.Nothing = kind_of p a e ≡ kinds.Nothing
IsKind p a e (kinds.Ran steps) =
    (fuel : ℕ) × (status : Status) × (sent : ℕ) × (made : ℕ) × (a ≡ Ran steps status sent made) × (e ≡ Run p fuel)
IsKind p a e (kinds.Took frame) = (x : ℕ) × (a ≡ Given (Taken x)) × (e ≡ Give p frame)
IsKind p a e kinds.Back = (interval : ℕ) × (inc : ℕ) × (a ≡ Back interval inc) × (e ≡ Resume p)
IsKind p a e kinds.NoMemory = Unit {0}
