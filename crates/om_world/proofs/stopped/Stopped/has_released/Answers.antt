use Rattle.std.proofs.Common.{inl, inr, ◌≤◌, ◌∙◌, arith, length, subst, sym}
use Rattle.om_manager.specs.State.{released_by}
use Rattle.om_world.proofs.Lists.{either}
use Rattle.om_world.proofs.TakingUp.{as_long}
use Rattle.om_world.proofs.stopped.Stopped.has_released.Goals as goal

pub at-pid-requires : goal.at-pid-requires
at-pid-requires g c = let few = c.told.ensures.shape.few in let many = c.requires.many in let lt = c.loop-p-test.true in omega arith

pub loop-p-preserved : goal.loop-p-preserved
loop-p-preserved g c = λ q few.
    let is = c.at-pid.ensures in
    let now = as_long c.released-released.result.now (released_by c.args.manager.now c.at-pid.result) c.released-released.ensures.outputs in
    let before = as_long c.released-outputs.result.now (released_by c.args.self.now.manager c.at-pid.result) c.released-outputs.ensures.outputs in
    let more = c.if-now-before.false in
    elim (either q c.loop-p.p) [
      | inl same ↦ subst (λ r. length (released_by c.args.self.now.manager r) ≤ length (released_by c.args.manager.now r)) (is ∙ sym same) (omega arith)
      | inr other ↦ c.loop-p.invariant q (omega arith)
    ]

pub returns-then-now-before-clause-fewer : goal.returns-then-now-before-clause-fewer
returns-then-now-before-clause-fewer g c = λ _.
    let is = c.at-pid.ensures in
    let now = as_long c.released-released.result.now (released_by c.args.manager.now c.at-pid.result) c.released-released.ensures.outputs in
    let before = as_long c.released-outputs.result.now (released_by c.args.self.now.manager c.at-pid.result) c.released-outputs.ensures.outputs in
    let less = c.if-now-before.true in let lt = c.loop-p-test.true in
    (c.at-pid.result, omega arith, omega arith)
