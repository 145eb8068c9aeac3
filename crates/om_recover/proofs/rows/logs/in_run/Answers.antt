use Rattle.std.proofs.Common.{arith, inr}
use Rattle.om_recover.proofs.rows.logs.in_run.Goals as goal

pub returns-in-None : goal.returns-in-None
returns-in-None c = inr (omega (arith, c.in-None.ensures, c.in_ok-place.ensures.0, c.in_ok-place.ensures.1))

pub returns-in-Some : goal.returns-in-Some
returns-in-Some c = record {
  place = c.in_ok-place.place;
  stands_at = omega (arith, c.in_ok-place.ensures.0, c.in_ok-place.ensures.1);
  there = c.in-Some.ensures;
}
