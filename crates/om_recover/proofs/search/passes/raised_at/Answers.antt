use Rattle.std.proofs.Common.{refl}
use Rattle.om_recover.specs.Counted.{climbs, fails}
use Rattle.om_recover.proofs.SearchLemmas.{passed_nothing, passed_one}
use Rattle.om_interval.proofs.VectorLemmas.{below_itself}
use Rattle.om_recover.proofs.MemoryLemmas.{all_raised}
use Rattle.om_recover.proofs.search.passes.raised_at.Goals as goal

pub returns-in_default-clause-counted : goal.returns-in_default-clause-counted
returns-in_default-clause-counted g c = passed_nothing _ _ _ _ _

pub returns-in-None-clause-counted : goal.returns-in-None-clause-counted
returns-in-None-clause-counted g c = passed_one _ _ _ _ _ _ _ _ c.requires.process c.requires.state (below_itself _) c.in-Some.ensures c.climb.ensures.counted (fails c.in-None.ensures.climbed refl)

pub returns-in-Some-climb-clause-counted : goal.returns-in-Some-climb-clause-counted
returns-in-Some-climb-clause-counted g c = passed_one _ _ _ _ _ _ _ _ c.requires.process c.requires.state c.in-Some-climb.ensures.climbed.above c.in-Some.ensures c.climb.ensures.counted (climbs c.in-Some-climb.ensures.climbed)

pub returns-in-Some-climb-clause-remembered : goal.returns-in-Some-climb-clause-remembered
returns-in-Some-climb-clause-remembered g c = all_raised _ _ _ _ _ c.requires.lawful c.in-Some-climb.ensures.climbed.recoverable c.in-Some-climb.ensures.climbed.above c.climb.ensures.remembered
