use Rattle.std.proofs.Common.{refl, arith, subst}
use Rattle.om_recover.specs.steps.Memory.{IsWithout}
use Rattle.om_recover.specs.Counted.{uncounted, searched}
use Rattle.om_recover.proofs.NotedLemmas.{quiet, quiet_above, stays, least, others_of_note}
use Rattle.om_recover.proofs.MemoryLemmas.{all_kept, all_without, all_places}
use Rattle.om_recover.proofs.search.raise.raised_by.Goals as goal

pub returns-then-not-is_new-clause-greatest : goal.returns-then-not-is_new-clause-greatest
returns-then-not-is_new-clause-greatest g c =
    let all = c.requires.1 in
    stays _ _ _ _ _ _ all (λ y stable _. quiet _ _ _ _ _ _ all c.if-not-is_new.true y stable)

pub returns-then-not-is_new-clause-remembered : goal.returns-then-not-is_new-clause-remembered
returns-then-not-is_new-clause-remembered g c =
    let all = c.requires.1 in
    all_kept _ _ _ _ _ _ all.added all.lawful all.greatest.recoverable (λ y stable _. quiet _ _ _ _ _ _ all c.if-not-is_new.true y stable) c.requires.2

pub returns-then-not-is_new-clause-counted : goal.returns-then-not-is_new-clause-counted
returns-then-not-is_new-clause-counted g c = λ before all. uncounted (λ y stable _. quiet _ _ _ _ _ _ all c.if-not-is_new.true y stable) refl

pub returns-then-row-get-clause-greatest : goal.returns-then-row-get-clause-greatest
returns-then-row-get-clause-greatest g c =
    let all = c.requires.1 in
    stays _ _ _ _ _ _ all (quiet_above _ _ _ _ _ _ all (omega (arith, c.if-row-get.true, c.get.ensures)))

pub returns-then-row-get-clause-remembered : goal.returns-then-row-get-clause-remembered
returns-then-row-get-clause-remembered g c =
    let all = c.requires.1 in
    all_kept _ _ _ _ _ _ all.added all.lawful all.greatest.recoverable (quiet_above _ _ _ _ _ _ all (omega (arith, c.if-row-get.true, c.get.ensures))) c.requires.2

pub returns-then-row-get-clause-counted : goal.returns-then-row-get-clause-counted
returns-then-row-get-clause-counted g c = λ before all. uncounted (quiet_above _ _ _ _ _ _ all (omega (arith, c.if-row-get.true, c.get.ensures))) refl

pub forget-requires-clause-places : goal.forget-requires-clause-places
forget-requires-clause-places g c = λ q within. all_places _ _ _ _ _ c.requires.1.process c.requires.2 q (omega (arith, within, c.n.ensures.places))

pub greatest_from-requires-clause-start : goal.greatest_from-requires-clause-start
greatest_from-requires-clause-start g c = (least _ _ _ _ _ _ c.requires.1 c.if-not-is_new.false (omega (arith, c.if-row-get.false, c.get.ensures))).stable

pub greatest_from-requires-clause-others : goal.greatest_from-requires-clause-others
greatest_from-requires-clause-others g c =
    let all = c.requires.1 in
    others_of_note _ _ _ _ _ _ all.added all.greatest all.still (least _ _ _ _ _ _ all c.if-not-is_new.false (omega (arith, c.if-row-get.false, c.get.ensures)))

pub greatest_from-requires-clause-remembered : goal.greatest_from-requires-clause-remembered
greatest_from-requires-clause-remembered g c =
    let all = c.requires.1 in
    all_without _ _ _ _ _ _ _ all.added all.lawful all.greatest.recoverable
    (subst (λ n. IsWithout n c.args.memories.now.places c.forget.new.self.places c.args.row.now.pid c.args.row.now.interval) c.n.ensures.places c.forget.ensures) c.requires.2

pub returns-clause-counted : goal.returns-clause-counted
returns-clause-counted g c = λ before all.
    searched c.args.row.now.interval (least _ _ _ _ _ _ all c.if-not-is_new.false (omega (arith, c.if-row-get.false, c.get.ensures))) c.greatest_from.ensures.counted
