use Rattle.std.proofs.Common.{rules, ◌≡◌, true, subst}
use Rattle.std.specs.Prelude.{IfOk}
use Rattle.om_world.specs.Stopped.{IsLeft}
use Rattle.om_world_tests.proofs.restarted.taken_up.Goals as goal

pub take_up-taken-requires : goal.take_up-taken-requires
take_up-taken-requires g c =
    let settled : c.is_settled.result ≡ true = search rules in
    let whole = c.is_settled.ensures.settled settled in
    (whole.0, subst (λ r. IfOk r (λ left. IsLeft left whole.0)) c.expect-left.ensures (c.stop.ensures.whole whole.0 whole.1))
