use Rattle.std.proofs.Common.{arith}
use Rattle.om_recover.proofs.AddingLemmas.{reaches_nearest}
use Rattle.om_recover.proofs.ReachLemmas.{reaches_its_run}
use Rattle.om_recover.proofs.rows.adding.reach_of.Goals as goal

pub returns-in-Some : goal.returns-in-Some
returns-in-Some c = reaches_nearest c.args.trees.now _ _ c.in-Some.base.now c.requires.indexed c.in-Some.ensures (omega (arith, c.if-row-base.true))

pub returns-in_default : goal.returns-in_default
returns-in_default c = reaches_its_run c.requires.lawful.0 _ _ _ c.requires.lawful.1 c.requires.kind c.last_of_run.ensures
