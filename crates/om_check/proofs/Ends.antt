-- How a world stands with one process more.
use Rattle.std.proofs.Common.{◌⊎◌, inl, inr, ℕ, ◌+◌}
use Rattle.om_world.specs.World.{WorldState}
use Rattle.om_check.specs.Whole.{IsDone, IsStarved}
use Rattle.om_check.specs.declared.exploring.End.{End}
use Rattle.om_check.specs.declared.exploring.End.TheVariants.{Whole, Stuck}
use Rattle.om_check.specs.steps.Playing.{StandsIn}
use Rattle.om_check.proofs.Ending.{up_to_next}

pub stands_done : (w : WorldState) (end : End) (p : ℕ) → StandsIn w end p → IsDone w p → StandsIn w end (p + 1)
stands_done w Whole p before now = up_to_next (IsDone w) p before now
stands_done w Stuck p before now = up_to_next (λ q. IsDone w q ⊎ IsStarved w q) p before (inl now)

pub stands_starved : (w : WorldState) (end : End) (p : ℕ) → StandsIn w end p → IsStarved w p → StandsIn w Stuck (p + 1)
stands_starved w Whole p before now = up_to_next (λ q. IsDone w q ⊎ IsStarved w q) p (λ q lt. inl (before q lt)) (inr now)
stands_starved w Stuck p before now = up_to_next (λ q. IsDone w q ⊎ IsStarved w q) p before (inr now)
