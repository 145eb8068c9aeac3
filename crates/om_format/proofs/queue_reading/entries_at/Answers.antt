use Rattle.std.proofs.Common.{arith}
use Rattle.std.proofs.lemmas.Result.{err_from_is_err_and}
use Rattle.om_format.proofs.Loops.{entries_go_on, entries_end, entries_done}
use Rattle.om_format.proofs.queue_reading.entries_at.Goals as goal

pub returns-in_err-taken-clause-exact : goal.returns-in_err-taken-clause-exact
returns-in_err-taken-clause-exact c =
    let p = err_from_is_err_and c.from_residual.result c.from_residual.ensures.1 in
    rw (p.1, p.2) (entries_end c.args.newest c.args.count _ c.in_err-taken.field-0.0 c.loop.value.items c.loop.counter c.loop.low c.loop.offset c.loop.rest.now c.loop-test.true c.in_err-taken.ensures.exact c.loop.invariant.1)

pub loop-preserved : goal.loop-preserved
loop-preserved c =
    let taken = c.in_ok-taken.taken in (
      omega (arith, c.in_ok-taken.ensures.left, c.loop.invariant.0),
      rw c.in_ok-push.ensures.items (entries_go_on c.args.newest c.args.count _ c.loop.value.items c.loop.counter c.loop.low c.loop.offset c.loop.rest.now taken.value taken.offset taken.rest.now c.loop-test.true c.in_ok-taken.ensures.exact c.loop.invariant.1),
    )

pub returns-clause-exact : goal.returns-clause-exact
returns-clause-exact c = entries_done c.args.newest c.args.count _ c.loop.value.items c.loop.counter c.loop.low c.loop.offset c.loop.rest.now c.loop-test.false c.loop.invariant.1
