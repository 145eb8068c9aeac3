use Rattle.std.proofs.Common.{◌≡◌, ◌<◌, ◌≤◌, ◌∙◌, ap, length, sym, arith}
use Rattle.om_process.specs.Frames.{messages_to}
use Rattle.om_process.specs.Kept.{sent_as}
use Rattle.om_process.proofs.Numbering.{length-numbered}
use Rattle.om_world.proofs.Framing.{all_added, none_added, one_added, some_frame}
use Rattle.om_world.proofs.frames.add_frames.Goals as goal

pub loop-k-init : goal.loop-k-init
loop-k-init c = none_added c.args.frames.now.items c.args.core.now c.args.to c.args.few

pub loop-k-preserved : goal.loop-k-preserved
loop-k-preserved c =
    one_added c.args.frames.now.items c.loop-k.frames.items c.push.new.self.items c.args.core.now c.args.to c.args.few c.loop-k.k c.in-Some.frame c.loop-k.invariant (sym c.in_ok-frame.ensures.frame ∙ c.in-Some.is) c.in_ok-push.ensures.items

pub unreachable-requires : goal.unreachable-requires
unreachable-requires c =
    let q = messages_to c.args.core.now c.args.to in
    let long : length c.outbox-k-end.result.now ≡ length q.entries = ap length c.outbox-k-end.ensures.kept ∙ length-numbered sent_as q.first q.entries in
    let lt : c.loop-k.k < length c.outbox-k-end.result.now = c.loop-k-test.true in
    some_frame c.args.core.now c.args.to c.loop-k.k (omega arith) (sym c.in_ok-frame.ensures.frame ∙ c.in_default.is)

pub returns : goal.returns
returns c =
    let q = messages_to c.args.core.now c.args.to in
    let long : length c.outbox-k-end.result.now ≡ length q.entries = ap length c.outbox-k-end.ensures.kept ∙ length-numbered sent_as q.first q.entries in
    let le : length c.outbox-k-end.result.now ≤ c.loop-k.k = c.loop-k-test.false in
    all_added c.args.frames.now.items c.loop-k.frames.items c.args.core.now c.args.to c.args.few c.loop-k.k c.loop-k.invariant (omega arith)
