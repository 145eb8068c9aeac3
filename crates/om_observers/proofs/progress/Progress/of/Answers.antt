use Rattle.std.proofs.Common.{◌≡◌, ◌+◌, ◌<◌, ◌≤◌, ℕ, List, ap, subst, ◌∙◌, take, get_or, length}
use Rattle.om_observers.specs.Watching.{capped, newness, sum_over}
use Rattle.om_observers.specs.declared.sight.Sight.{Sight}
use Rattle.om_observers.proofs.WatchLemmas.{newest_next, sum_next}
use Rattle.om_observers.proofs.progress.Progress.of.Goals as goal

next : (f : Sight → ℕ) (sights : List Sight) (k : ℕ) (s : Sight) (sum : ℕ) → k < length sights → s ≡ get_or sights k s → sum ≡ sum_over f (take k sights)
    → capped (sum + f s) ≡ sum_over f (take (k + 1) sights)
next f sights k s sum lt here is =
    ap (λ n. capped (n + f s)) is ∙ ap (λ (x : Sight). capped (sum_over f (take k sights) + f x)) here ∙ sum_next f sights k s lt

pub loop-sight-preserved : goal.loop-sight-preserved
loop-sight-preserved c =
    let sights = c.args.sights.now in
    let k = c.loop-sight.sight-index in
    let lt = c.loop-sight-test.true in
    let s = c.sight-item.result in
    let inv = c.loop-sight.invariant in
    let e = c.with-progress.ensures in
    let newer : newness c.loop-sight.progress.front < newness (get_or sights k s).front → c.with-progress.result.front ≡ (get_or sights k s).front =
    subst (λ (x : Sight). newness c.loop-sight.progress.front < newness x.front → c.with-progress.result.front ≡ x.front) c.sight-item.is e.newer in
    let kept : newness (get_or sights k s).front ≤ newness c.loop-sight.progress.front → c.with-progress.result.front ≡ c.loop-sight.progress.front =
    subst (λ (x : Sight). newness x.front ≤ newness c.loop-sight.progress.front → c.with-progress.result.front ≡ c.loop-sight.progress.front) c.sight-item.is e.kept in
    record {
      count = e.count ∙ next (λ x. x.count) sights k s _ lt c.sight-item.is inv.count;
      put = e.put ∙ next (λ x. x.put) sights k s _ lt c.sight-item.is inv.put;
      taken = e.taken ∙ next (λ x. x.taken) sights k s _ lt c.sight-item.is inv.taken;
      newest = newest_next sights k s _ _ lt inv.newest newer kept;
    }
