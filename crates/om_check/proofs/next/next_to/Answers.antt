use Rattle.std.proofs.Common.{rules, ◌≡◌, ◌⊎◌, Some}
use Rattle.std.specs.Prelude.{slice_get}
use Rattle.om_process.specs.Core.{CoreState}
use Rattle.om_check.specs.Whole.{KeepsReceived}
use Rattle.om_check.specs.steps.Walks.{IsExcluded}
use Rattle.om_check.proofs.Ending.{up_to_next}
use Rattle.om_check.proofs.next.next_to.Goals as goal

pub loop-q-preserved : goal.loop-q-preserved
loop-q-preserved c =
    up_to_next (λ q. (d : CoreState) × (slice_get c.args.world.now.cores q ≡ Some (Some d)) × (d.own ≡ q)
    × (KeepsReceived d c.args.core.now ⊎ IsExcluded c.args.walk.now (record { from = q; to = c.args.core.now.own })))
    c.loop-q.q c.loop-q.invariant (c.in_ok-sender.sender.now, search rules, search rules, search rules)
