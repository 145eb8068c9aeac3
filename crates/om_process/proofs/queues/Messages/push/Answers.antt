use Rattle.std.proofs.Common.{rules, ◌≡◌, ◌+◌, ◌<◌, length, refl, sym, subst, arith}
use Rattle.om_format.specs.Queues.{queue_end}
use Rattle.om_process.specs.Kept.{sent_as}
use Rattle.om_process.specs.steps.Numbers.{sent_entry}
use Rattle.om_process.specs.declared.limits.TheConstants.{LAST_NUMBER}
use Rattle.om_process.proofs.Numbering.{are_numbered-push}
use Rattle.om_process.proofs.queues.Messages.push.Goals as goal

pub invariant_of-self-2 : goal.invariant_of-self-2
invariant_of-self-2 c =
    let long : c.len.result ≡ length c.self.inside.kept = search rules in
    are_numbered-push sent_as sent_entry LAST_NUMBER c.self.inside.first (c.self.inside.first + c.len.result) c.self.inside.kept c.push.new.self _ _ (omega arith)
    (subst (λ q. queue_end q < LAST_NUMBER) (sym c.self.view_is) c.requires) refl refl c.in_ok-push.ensures.ok c.self.invariant
