use Rattle.std.proofs.Common.{rules, ◌≡◌, ◌+◌, ◌<◌, length, refl, sym, subst, arith}
use Rattle.om_format.specs.Queues.{queue_end}
use Rattle.om_process.specs.Kept.{made_as}
use Rattle.om_process.specs.steps.Numbers.{made_entry}
use Rattle.om_process.specs.declared.limits.TheConstants.{LAST_OUTPUT}
use Rattle.om_process.proofs.Numbering.{are_numbered-push}
use Rattle.om_process.proofs.queues.Outputs.push.Goals as goal

pub invariant_of-self-2 : goal.invariant_of-self-2
invariant_of-self-2 c =
    let long : c.len.result ≡ length c.self.inside.kept = search rules in
    are_numbered-push made_as made_entry LAST_OUTPUT c.self.inside.first (c.self.inside.first + c.len.result) c.self.inside.kept c.push.new.self _ _ (omega arith)
    (subst (λ q. queue_end q < LAST_OUTPUT) (sym c.self.view_is) c.requires) refl refl c.in_ok-push.ensures.ok c.self.invariant
