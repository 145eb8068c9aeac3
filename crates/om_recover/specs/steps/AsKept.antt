use Rattle.std.specs.Prelude.{ℕ, List, Option, length}
use Rattle.om_recover.specs.Rows.{Rows, IsLawful}
use Rattle.om_recover.specs.Recoverable.{IsGreatest}
use Rattle.om_recover.specs.steps.Memory.{AreRemembered}
use Rattle.om_recover.specs.declared.search.failed_climbs.FailedClimb.{FailedClimb}

-- what records keep: lawful rows, the greatest state that they allow, and the failed climbs that are remembered
pub record AreKept (rows : Rows) (state : List ℕ) (places : List (Option FailedClimb)) : Type 0 where
  pub lawful : IsLawful (length state) rows
  pub greatest : IsGreatest (length state) rows state
  pub remembered : AreRemembered (length state) rows state places
