-- What is told of an event of a process that does not run.
use Rattle.std.proofs.Common.{◌≡◌, ◌⊎◌, inl, inr, ℕ, Result, Err, refl, sym, subst}
use Rattle.om_world.specs.declared.event.Answer.{Answer}
use Rattle.om_world.specs.declared.event.Event.{Event}
use Rattle.om_world.specs.declared.event.Refusal.{Refusal}
use Rattle.om_world.specs.declared.event.Refusal.TheVariants as refusals
use Rattle.om_world.specs.Happened.{Happened, Refused}
use Rattle.om_world.specs.steps.NotRunning.{NotRunning}
use Rattle.om_world.specs.World.{WorldState}
use Rattle.om_world.specs.steps.Moves.{answered}

two_whys : (w v : WorldState) (p : ℕ) (why : Refusal) → NotRunning w p why v → (why ≡ refusals.NoProcess) ⊎ (why ≡ refusals.NotUp)
two_whys w v p refusals.NoProcess n = inl refl
two_whys w v p refusals.NotUp n = inr refl
two_whys w v p refusals.NoFrame n = absurd n
two_whys w v p refusals.NotIn n = absurd n
two_whys w v p refusals.NoRound n = absurd n
two_whys w v p refusals.Spent n = absurd n
two_whys w v p refusals.Present n = absurd n
two_whys w v p refusals.Fault n = absurd n
two_whys w v p refusals.Damaged n = absurd n
two_whys w v p refusals.Memory n = absurd n
two_whys w v p refusals.Unsettled n = absurd n

-- each event that needs a process that runs is refused as that
pub told_not_running : (w v : WorldState) (p : ℕ) (e : Event) (why : Refusal) (r : Result Answer Refusal) → (NotRunning w p refusals.NoProcess v → Refused w e refusals.NoProcess v) → (NotRunning w p refusals.NotUp v → Refused w e refusals.NotUp v)
    → r ≡ Err why → NotRunning w p why v → Happened w e (answered r) v
told_not_running w v p e why r none not_up is n = subst (λ a. Happened w e (answered a) v) (sym is) (elim (two_whys w v p why n) [
  | inl there ↦ subst (λ a. Refused w e a v) (sym there) (none (subst (λ a. NotRunning w p a v) there n))
  | inr up ↦ subst (λ a. Refused w e a v) (sym up) (not_up (subst (λ a. NotRunning w p a v) up n))
])
