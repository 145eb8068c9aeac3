use Rattle.std.proofs.Common.{◌≡◌, [], sym, subst, reverse}
use Rattle.std.specs.Prelude.{Some, None}
use Rattle.om_stable.specs.Calls.{IsCleanCall}
use Rattle.om_process.specs.declared.limits.TheConstants.{LAST_INTERVAL}
use Rattle.om_look.specs.steps.Found.{AreFound, Finds}
use Rattle.om_look.proofs.FoundLemmas.{found_next, nothing_found}
use Rattle.om_look.proofs.ReadingLemmas.{read_nothing, read_more}
use Rattle.om_look.proofs.gathering.gather.Goals as goal

pub loop-next-init : goal.loop-next-init
loop-next-init g c = record {
  found = λ known. let none : c.new-found.result.items ≡ [] = c.new-found.ensures.items in subst (λ fs. AreFound (g.S.Stable.content c.args.store.now) (Some LAST_INTERVAL) (reverse fs)) (sym none) (nothing_found (g.S.Stable.content c.args.store.now));
  reads = read_nothing g.S.Stable.content g.S.Stable.failed g.S.Stable.is_clean g.S.Stable.IsSound c.args.store.now;
}

pub loop-next-preserved : goal.loop-next-preserved
loop-next-preserved g c = record {
  found = λ known.
      let held = g.S.Stable.content c.args.store.now in
      let first : IsCleanCall g.S.Stable.is_clean g.S.Stable.IsSound c.args.store.now c.loop-next.store = (c.find.ensures.reads.clean known.0, known.1) in
      let second : IsCleanCall g.S.Stable.is_clean g.S.Stable.IsSound c.loop-next.store c.find.new.store = (known.0, c.loop-next.invariant.reads.sound first.0 known.1) in
      let so_far : AreFound held (Some c.in-Some.to) (reverse c.loop-next.found.items) = subst (λ n. AreFound held n (reverse c.loop-next.found.items)) c.in-Some.is (c.loop-next.invariant.found first) in
      let finds : Finds held c.in-Some.to c.loop-next.found.items c.in_ok-next.next c.find.new.found.items = subst (λ h. Finds h c.in-Some.to c.loop-next.found.items c.in_ok-next.next c.find.new.found.items) (c.loop-next.invariant.reads.same first) (c.in_ok-next.ensures.finds second) in
      found_next held c.in-Some.to c.in_ok-next.next c.loop-next.found.items c.find.new.found.items so_far finds;
  reads = read_more g.S.Stable.content g.S.Stable.failed g.S.Stable.is_clean g.S.Stable.IsSound c.args.store.now c.loop-next.store c.find.new.store _ c.loop-next.invariant.reads c.in_ok-next.ensures.reads;
}

pub returns-clause-all : goal.returns-clause-all
returns-clause-all g c known =
    let held = g.S.Stable.content c.args.store.now in
    let at = subst (λ n. AreFound held n (reverse c.loop-next.found.items)) c.in_default.is (c.loop-next.invariant.found known) in
    subst (AreFound held None) (sym c.reverse.ensures.items) at
