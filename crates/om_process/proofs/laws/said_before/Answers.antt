use Rattle.std.proofs.Common.{◌≡◌, ◌+◌, length, subst, arith}
use Rattle.om_process.specs.Process.{started}
use Rattle.om_process.specs.Parts.{Grow}
use Rattle.om_process.proofs.Runs.{earlier}
use Rattle.om_process.proofs.laws.said_before.Goals as goal

pub returns : goal.returns
returns c = λ program own n g h r k t a.
    let e = earlier own n (started program n) t g h r k a in
    let from : 0 + length g + 1 ≡ length g + 1 = omega arith in
    (e.0, e.1, e.2, e.3, subst (λ x. Grow x e.1.queues t.queues) from e.4)
