use Rattle.std.proofs.Common.{◌≡◌, ◌≤◌, ◌+◌, rules, subst}
use Rattle.std.specs.Vec.Iter.{into_iter_len}
use Rattle.om_report.proofs.HarvestLemmas.{moved}
use Rattle.om_threads.specs.steps.Ends.{HasRoom}
use Rattle.om_threads.proofs.PartLemmas.{less_room}
use Rattle.om_threads.proofs.results.parted.Goals as goal

pub loop-one-init : goal.loop-one-init
loop-one-init g c =
    let made = c.in_ok-parts.ensures in
    record {
      room = subst (λ k. HasRoom k c.in_ok-parts.parts) (search rules) made.room;
      statuses = search rules;
      stores = search rules;
      puts = search rules;
      takes = search rules;
      harvests = search rules;
    }

pub push-requires : goal.push-requires
push-requires g c =
    let some : 1 ≤ into_iter_len c.loop-one.one-iterator = search rules in
    less_room (into_iter_len c.loop-one.one-iterator) 1 c.loop-one.parts some c.loop-one.invariant.room

pub loop-one-preserved : goal.loop-one-preserved
loop-one-preserved g c =
    let was = c.loop-one.invariant in
    let next = c.in-Some.ensures.steps.0 in
    let left : into_iter_len c.loop-one.one-iterator ≡ into_iter_len c.next.new.self + 1 = search rules in
    record {
      room = c.push.ensures.room (into_iter_len c.next.new.self) (subst (λ k. HasRoom k c.loop-one.parts) left was.room);
      statuses = moved (λ f. f.status) _ _ _ _ _ _ next c.push.ensures.statuses was.statuses;
      stores = moved (λ f. f.store) _ _ _ _ _ _ next c.push.ensures.stores was.stores;
      puts = moved (λ f. f.ends.puts) _ _ _ _ _ _ next c.push.ensures.puts was.puts;
      takes = moved (λ f. f.ends.takes) _ _ _ _ _ _ next c.push.ensures.takes was.takes;
      harvests = moved (λ f. f.harvest) _ _ _ _ _ _ next c.push.ensures.harvests was.harvests;
    }
