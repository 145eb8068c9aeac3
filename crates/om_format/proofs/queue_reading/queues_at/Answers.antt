use Rattle.std.proofs.Common.{◌≡◌, ◌++◌, ◌∷◌, [], arith}
use Rattle.std.specs.Prelude.{map}
use Rattle.std.proofs.lemmas.Result.{err_from_is_err_and}
use Rattle.std.proofs.lemmas.List.{map_push}
use Rattle.om_format.specs.Queues.{queue_record}
use Rattle.om_format.proofs.Loops.{queues_go_on, queues_end, queues_done}
use Rattle.om_format.proofs.queue_reading.queues_at.Goals as goal

pub returns-in_err-taken-clause-exact : goal.returns-in_err-taken-clause-exact
returns-in_err-taken-clause-exact c =
    let p = err_from_is_err_and c.from_residual.result c.from_residual.ensures.1 in
    rw (p.1, p.2) (queues_end c.args.newest c.args.stops.now _ c.in_err-taken.field-0.0 (map queue_record c.loop-stop.value.items) c.loop-stop.stop-index c.loop-stop.offset c.loop-stop.rest.now c.loop-stop-test.true c.in_err-taken.ensures.exact c.loop-stop.invariant.1)

pub loop-stop-preserved : goal.loop-stop-preserved
loop-stop-preserved c =
    let taken = c.in_ok-taken.taken in
    let pushed : map queue_record c.push.new.self.items ≡ map queue_record c.loop-stop.value.items ++ queue_record taken.value ∷ [] = rw c.in_ok-push.ensures.items (map_push queue_record c.loop-stop.value.items taken.value) in (
      omega (arith, c.in_ok-taken.ensures.left, c.loop-stop.invariant.0),
      rw pushed (queues_go_on c.args.newest c.args.stops.now _ (map queue_record c.loop-stop.value.items) c.loop-stop.stop-index c.loop-stop.offset c.loop-stop.rest.now (queue_record taken.value) taken.offset taken.rest.now c.loop-stop-test.true c.in_ok-taken.ensures.exact c.loop-stop.invariant.1),
    )

pub returns-clause-exact : goal.returns-clause-exact
returns-clause-exact c = queues_done c.args.newest c.args.stops.now _ (map queue_record c.loop-stop.value.items) c.loop-stop.stop-index c.loop-stop.offset c.loop-stop.rest.now c.loop-stop-test.false c.loop-stop.invariant.1
