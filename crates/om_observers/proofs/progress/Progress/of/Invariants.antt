use Rattle.std.proofs.Common.{◌≡◌, take}
use Rattle.om_observers.specs.Watching.{IsNewest, sum_over}
use Rattle.om_observers.proofs.progress.Progress.of.Given as goal

abbrev pub invariant-loop-sight : goal.invariant-loop-sight
invariant-loop-sight l = record {
  count : l.progress.count ≡ sum_over (λ s. s.count) (take l.sight-index l.sights);
  put : l.progress.put ≡ sum_over (λ s. s.put) (take l.sight-index l.sights);
  taken : l.progress.taken ≡ sum_over (λ s. s.taken) (take l.sight-index l.sights);
  newest : IsNewest (take l.sight-index l.sights) l.progress.front;
}
