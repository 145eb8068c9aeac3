use Rattle.std.proofs.Common.{◌≡◌}
use Rattle.om_worker.proofs.worker.Worker.steps.Given as goal

abbrev pub invariant-loop-turns : goal.invariant-loop-turns
invariant-loop-turns g l = record {
  same : l.self.links.ends ≡ l.fn.self.links.ends;
  member : l.node.member ≡ l.fn.node.member;
}
