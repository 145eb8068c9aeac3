use Rattle.std.proofs.Common.{subst, sym}
use Rattle.om_recover.specs.Rows.{IsLawful}
use Rattle.om_recover.specs.Recoverable.{IsRecoverable, IsGreatest}
use Rattle.om_recover.specs.steps.Memory.{AreRemembered}
use Rattle.om_recover.specs.steps.Climbing.{IsRaised}
use Rattle.om_recover.proofs.MemoryLemmas.{all_raised}
use Rattle.om_recover.proofs.SearchLemmas.{searched_at_once, searched_by}
use Rattle.om_recover.proofs.search.passes.greatest_from.Goals as goal

pub returns-in-None-clause-counted : goal.returns-in-None-clause-counted
returns-in-None-clause-counted g c = searched_at_once _ _ _ _ _ _ _ c.climb.ensures.counted c.in-None.ensures.climbed

pub highest_from-requires-clause-lawful : goal.highest_from-requires-clause-lawful
highest_from-requires-clause-lawful g c = subst (λ n. IsLawful n (g.S.Shelf.rows c.args.shelf.now)) (sym c.in-Some.ensures.climbed.recoverable.places) c.requires.lawful

pub highest_from-requires-clause-state : goal.highest_from-requires-clause-state
highest_from-requires-clause-state g c =
    subst (λ n. IsRecoverable n (g.S.Shelf.rows c.args.shelf.now) c.in-Some.climbed) (sym c.in-Some.ensures.climbed.recoverable.places) c.in-Some.ensures.climbed.recoverable

pub highest_from-requires-clause-remembered : goal.highest_from-requires-clause-remembered
highest_from-requires-clause-remembered g c =
    subst (λ n. AreRemembered n (g.S.Shelf.rows c.args.shelf.now) c.in-Some.climbed c.climb.new.memories.places) (sym c.in-Some.ensures.climbed.recoverable.places)
    (all_raised _ _ _ _ _ c.requires.lawful c.in-Some.ensures.climbed.recoverable c.in-Some.ensures.climbed.above c.climb.ensures.remembered)

pub returns-in-Some-clause-greatest : goal.returns-in-Some-clause-greatest
returns-in-Some-clause-greatest g c =
    subst (λ n. IsGreatest n (g.S.Shelf.rows c.args.shelf.now) c.highest_from.result) c.in-Some.ensures.climbed.recoverable.places c.highest_from.ensures.greatest

pub returns-in-Some-clause-remembered : goal.returns-in-Some-clause-remembered
returns-in-Some-clause-remembered g c =
    subst (λ n. AreRemembered n (g.S.Shelf.rows c.args.shelf.now) c.highest_from.result c.highest_from.new.memories.places) c.in-Some.ensures.climbed.recoverable.places c.highest_from.ensures.remembered

pub returns-in-Some-clause-counted : goal.returns-in-Some-clause-counted
returns-in-Some-clause-counted g c =
    searched_by _ _ _ _ _ _ _ _ _ _ c.requires.above c.in-Some.ensures.climbed c.climb.ensures.counted c.highest_from.ensures.above
    (subst (λ n. IsRaised n (g.S.Shelf.rows c.args.shelf.now) c.in-Some.climbed c.highest_from.result c.climb.new.work.attempts c.highest_from.new.work.attempts)
    c.in-Some.ensures.climbed.recoverable.places c.highest_from.ensures.counted)
