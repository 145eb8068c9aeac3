use Rattle.om_recover.proofs.MemoryLemmas.{without_any}
use Rattle.om_recover.proofs.search.failed_climbs.FailedClimbs.forget.Goals as goal

pub returns-then-not-self : goal.returns-then-not-self
returns-then-not-self c = without_any _ _ _ _ (c.args.self.now.nothing c.if-not-self.true)
