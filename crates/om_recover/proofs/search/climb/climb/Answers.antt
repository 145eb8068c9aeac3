use Rattle.om_recover.proofs.PassingLemmas.{passing_start}
use Rattle.om_recover.proofs.ClimbLemmas.{under_way_start, under_way_anew}
use Rattle.om_recover.proofs.MemoryLemmas.{remembered_of}
use Rattle.om_recover.proofs.search.climb.climb.Goals as goal

pub begin_known-requires-clause-remembered : goal.begin_known-requires-clause-remembered
begin_known-requires-clause-remembered g c = remembered_of _ _ _ _ _ _ c.requires.remembered c.requires.process c.in-Some.ensures

pub climb_on-requires-clause-passing : goal.climb_on-requires-clause-passing
climb_on-requires-clause-passing g c = passing_start _ _ _ _ _ _ _ c.in-Some-begin_known.ensures

pub climb_on-requires-clause-attempted : goal.climb_on-requires-clause-attempted
climb_on-requires-clause-attempted g c = under_way_anew _ _ _ _ _ _ _ (under_way_start _ _ _ _ _ _ c.attempt.ensures)

pub climb_anew-requires-clause-attempted : goal.climb_anew-requires-clause-attempted
climb_anew-requires-clause-attempted g c = under_way_anew _ _ _ _ _ _ _ (under_way_start _ _ _ _ _ _ c.attempt.ensures)
