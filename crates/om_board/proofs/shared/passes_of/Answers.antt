use Rattle.std.proofs.Common.{◌≡◌, subst, replicate, arith}
use Rattle.om_board.proofs.shared.passes_of.Goals as goal

pub returns-clause-passes : goal.returns-clause-passes
returns-clause-passes g c =
    let all : c.loop.counter ≡ c.args.n = omega (arith, c.loop-test.false, c.loop.auto.counter-end) in
    subst (λ k. c.loop.passes.items ≡ replicate k c.args.writer.now) all c.loop.invariant.0
