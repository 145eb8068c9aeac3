use Rattle.std.proofs.Common.{◌≡◌, ap, ◌∙◌}
use Rattle.om_packets.specs.Packets.{packet_text}
use Rattle.om_inferiors.specs.Serving.{outcome_text}
use Rattle.om_inferiors.proofs.Taking.{sent}
use Rattle.om_inferiors.proofs.serving.Session.send.Goals as goal

pub returns : goal.returns
returns g c =
    let text : c.deref-2.result.now ≡ packet_text (outcome_text c.args.outcome) =
    c.deref-2.ensures.value ∙ c.in_ok-packet.ensures ∙ ap packet_text (c.deref.ensures.value ∙ c.in_ok-text.ensures) in
    sent c.flush.result _ _ _ c.deref-2.result.now (packet_text (outcome_text c.args.outcome)) c.flush.ensures c.in_ok-write.ensures text
