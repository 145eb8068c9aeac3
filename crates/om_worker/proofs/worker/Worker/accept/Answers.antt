use Rattle.std.proofs.Common.{ap, ◌∙◌, subst}
use Rattle.om_format.specs.declared.message.Message.{Message}
use Rattle.om_process.specs.Accepts.{Answers, taken}
use Rattle.om_process.specs.Core.{CoreState}
use Rattle.om_worker_parts.proofs.ActLemmas.{on_any}
use Rattle.om_worker.proofs.worker.Worker.accept.Goals as goal

pub returns-in_ok-receive-in-Taken-clause-offered : goal.returns-in_ok-receive-in-Taken-clause-offered
returns-in_ok-receive-in-Taken-clause-offered g c =
    let old = c.args.node.now.core in
    let answer = c.accept-answer in
    let same = c.message-message.ensures in
    on_any c.after_receipt.result (record {
      answer = answer.result;
      answers = subst (λ (m : Message). Answers old m answer.result) same answer.ensures.answer;
      took = λ x is. c.after_receipt.ensures.now ∙ ap (λ (d : CoreState). d.now) (answer.ensures.taken x is)
          ∙ ap (λ (m : Message). (taken old m).now) same;
      refused = λ others. absurd (others c.in-Taken.x c.in-Taken.is);
    })
