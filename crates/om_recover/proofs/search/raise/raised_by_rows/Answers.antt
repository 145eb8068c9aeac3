use Rattle.std.proofs.Common.{◌<◌, arith, subst, length, slice_index, refl}
use Rattle.om_recover.specs.Counted.{no_search}
use Rattle.om_recover.specs.steps.Fresh.{TellsFresh}
use Rattle.om_recover.specs.steps.Memory.{IsWithout}
use Rattle.om_recover.proofs.FreshLemmas.{counted_by_either, fresh_told, greatest_still, none_told, others_of_rows, process_of, remembered_up_to, remembered_with}
use Rattle.om_recover.proofs.MemoryLemmas.{all_places}
use Rattle.om_recover.proofs.search.raise.raised_by_rows.Goals as goal

pub returns-in-None-clause-greatest : goal.returns-in-None-clause-greatest
returns-in-None-clause-greatest g c = let all = c.requires.1 in greatest_still _ _ _ _ _ all.greatest (none_told _ _ _ _ _ _ c.in-None.is all.added)

pub returns-in-None-clause-remembered : goal.returns-in-None-clause-remembered
returns-in-None-clause-remembered g c =
    let all = c.requires.1 in remembered_with _ _ _ _ _ _ all.greatest.recoverable (none_told _ _ _ _ _ _ c.in-None.is all.added) all.remembered

pub returns-in-None-clause-counted : goal.returns-in-None-clause-counted
returns-in-None-clause-counted g c = λ before told.
    no_search (subst (TellsFresh before (g.S.Shelf.rows c.args.after.now) c.args.pid (slice_index c.args.state.now c.args.pid)) c.in-None.is told) refl

pub forget-requires-clause-places : goal.forget-requires-clause-places
forget-requires-clause-places g c =
    let all = c.requires.1 in
    let added = fresh_told _ _ _ _ _ _ _ c.in-Some.is all.added in
    let process : c.args.pid < length c.args.state.now = process_of _ _ _ _ added.lawful added.fresh.least.stable in
    λ q within. all_places _ _ _ _ _ process all.remembered q (omega (arith, within, c.n.ensures.places))

pub greatest_by_either-requires-clause-lawful : goal.greatest_by_either-requires-clause-lawful
greatest_by_either-requires-clause-lawful g c = c.requires.1.added.lawful

pub greatest_by_either-requires-clause-state : goal.greatest_by_either-requires-clause-state
greatest_by_either-requires-clause-state g c = c.requires.1.added.still

pub greatest_by_either-requires-clause-process : goal.greatest_by_either-requires-clause-process
greatest_by_either-requires-clause-process g c =
    let added = fresh_told _ _ _ _ _ _ _ c.in-Some.is c.requires.1.added in process_of _ _ _ _ added.lawful added.fresh.least.stable

pub greatest_by_either-requires-clause-low : goal.greatest_by_either-requires-clause-low
greatest_by_either-requires-clause-low g c = let added = fresh_told _ _ _ _ _ _ _ c.in-Some.is c.requires.1.added in added.fresh.least.stable

pub greatest_by_either-requires-clause-high : goal.greatest_by_either-requires-clause-high
greatest_by_either-requires-clause-high g c = let added = fresh_told _ _ _ _ _ _ _ c.in-Some.is c.requires.1.added in added.fresh.high.stable

pub greatest_by_either-requires-clause-above : goal.greatest_by_either-requires-clause-above
greatest_by_either-requires-clause-above g c = let added = fresh_told _ _ _ _ _ _ _ c.in-Some.is c.requires.1.added in added.fresh.least.above

pub greatest_by_either-requires-clause-order : goal.greatest_by_either-requires-clause-order
greatest_by_either-requires-clause-order g c = let added = fresh_told _ _ _ _ _ _ _ c.in-Some.is c.requires.1.added in added.fresh.order

pub greatest_by_either-requires-clause-others : goal.greatest_by_either-requires-clause-others
greatest_by_either-requires-clause-others g c =
    let all = c.requires.1 in others_of_rows _ _ _ _ _ _ all.greatest (fresh_told _ _ _ _ _ _ _ c.in-Some.is all.added)

pub greatest_by_either-requires-clause-remembered : goal.greatest_by_either-requires-clause-remembered
greatest_by_either-requires-clause-remembered g c =
    let all = c.requires.1 in
    remembered_up_to _ _ _ _ _ _ _ _ all.greatest.recoverable (fresh_told _ _ _ _ _ _ _ c.in-Some.is all.added)
    (subst (λ n. IsWithout n c.args.memories.now.places c.forget.new.self.places c.args.pid c.in-Some.fresh.least) c.n.ensures.places c.forget.ensures) all.remembered

pub returns-in-Some-clause-counted : goal.returns-in-Some-clause-counted
returns-in-Some-clause-counted g c = λ before told.
    counted_by_either _ _ _ _ _ _ _ _ _ (subst (TellsFresh before (g.S.Shelf.rows c.args.after.now) c.args.pid (slice_index c.args.state.now c.args.pid)) c.in-Some.is told)
    c.greatest_by_either.ensures.counted
