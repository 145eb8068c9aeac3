use Rattle.std.proofs.Common.{◌≡◌, ◌<◌, ◌∙◌, ap, length, length-set, arith}
use Rattle.om_process.specs.Frames.{messages_to}
use Rattle.om_process.specs.Kept.{sent_as}
use Rattle.om_process.proofs.Numbering.{length-numbered}
use Rattle.om_world.proofs.Sending.{one_counted}
use Rattle.om_world.proofs.run.messages_kept.Goals as goal

pub loop-to-preserved : goal.loop-to-preserved
loop-to-preserved c =
    let core = c.args.core.now in
    let q = messages_to core c.at.result in
    let long : length c.outbox.result.now ≡ length (messages_to core c.loop-to.to).entries =
    ap length c.outbox.ensures.kept ∙ length-numbered sent_as q.first q.entries ∙ ap (λ to. length (messages_to core to).entries) c.at.ensures in
    let is = c.loop-to.invariant.0 in let within = c.n-to-end.ensures.within in let lt = c.loop-to-test.true in
    let inside : c.loop-to.to < length c.loop-to.counts = omega arith in (
      length-set c.loop-to.counts c.loop-to.to (length c.outbox.result.now) ∙ is,
      one_counted core c.loop-to.counts c.loop-to.to (length c.outbox.result.now) c.loop-to.invariant.1 inside long,
    )
