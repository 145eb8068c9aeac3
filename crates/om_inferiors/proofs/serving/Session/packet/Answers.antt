use Rattle.std.proofs.Common.{◌++◌, ◌&&◌, not, codes, List, ℕ, bytes_eq, Result, refl, ap, subst, ◌∙◌}
use Rattle.std.proofs.KnownBytes.{Appends-trans}
use Rattle.om_packets.specs.Packets.{packet_text}
use Rattle.om_timeline.specs.declared.fault.PlayFault.{PlayFault}
use Rattle.om_debug.specs.declared.debugger.Reply.{Reply}
use Rattle.om_inferiors.specs.Serving.{IsShownOutcome, if_acked, outcome_text}
use Rattle.om_inferiors.proofs.serving.Session.packet.Goals as goal

pub returns-clause-taken : goal.returns-clause-taken
returns-clause-taken g c =
    let old = c.args.self.now in
    let outcome : Result Reply PlayFault = c.answer-outcome.result in
    let plus : List ℕ = if_acked old.acks (codes "+") in
    let text : List ℕ = packet_text (outcome_text outcome) in (
      plus ++ text,
      record {
        outcome = outcome;
        is_outcome = subst (λ packet. IsShownOutcome packet old.shown outcome c.answer-outcome.new.self) c.body.ensures c.answer-outcome.ensures.outcome;
        text = refl;
        last = c.is_over-over.ensures;
        decoding = refl;
        acks = c.acks_after-self.ensures ∙ ap (λ packet. old.acks && not (bytes_eq packet (codes "QStartNoAckMode"))) c.body-2.ensures;
      },
      Appends-trans _ _ _ plus text c.in_ok-acknowledge.ensures c.in_ok-send.ensures,
    )
