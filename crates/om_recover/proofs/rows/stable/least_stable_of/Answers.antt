use Rattle.std.proofs.Common.{refl}
use Rattle.om_recover.proofs.ReachLemmas.{least_at_checkpoint, none_from}
use Rattle.om_recover.proofs.rows.stable.least_stable_of.Goals as goal

pub returns-in-None : goal.returns-in-None
returns-in-None c = none_from _ _ _ c.requires.sorted (c.if-is_stable_in.ensures.none refl) c.in-None.ensures

pub returns-in-Some : goal.returns-in-Some
returns-in-Some c = least_at_checkpoint _ _ _ _ _ c.requires.sorted (c.if-is_stable_in.ensures.none refl) c.in-Some.ensures
