use Rattle.std.proofs.Common.{subst}
use Rattle.om_check.specs.steps.Playing.{StandsAs}
use Rattle.om_check.proofs.Ends.{stands_done, stands_starved}
use Rattle.om_check.proofs.resting.end_with.Goals as goal

pub returns-in-Done-clause-some : goal.returns-in-Done-clause-some
returns-in-Done-clause-some c w p n before now = stands_done w c.args.end p before (subst (StandsAs w p n) c.in-Done.is now)

pub returns-in-Starved-clause-some : goal.returns-in-Starved-clause-some
returns-in-Starved-clause-some c w p n before now = stands_starved w c.args.end p before (subst (StandsAs w p n) c.in-Starved.is now)
