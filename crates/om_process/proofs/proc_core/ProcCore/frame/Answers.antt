use Rattle.std.proofs.Common.{rules, ◌≡◌, ◌+◌, ◌<◌, ◌≤◌, length, get_or, ℕ, List, Some, Option, sym, ap, ◌∙◌, subst, arith}
use Rattle.om_format.specs.declared.message.Message.{Message}
use Rattle.om_process.specs.Claims.{HasEntry}
use Rattle.om_process.specs.Core.{CoreState}
use Rattle.om_process.specs.Frames.{messages_to}
use Rattle.om_process.specs.steps.Pieces.{frame_of}
use Rattle.om_process.specs.Kept.{sent_as}
use Rattle.om_process.specs.declared.queues.Sent.{Sent}
use Rattle.om_process.proofs.Numbering.{length-numbered, nothing_at, numbered_at, some_at}
use Rattle.om_process.proofs.proc_core.ProcCore.frame.Goals as goal

abbrev frame_with : ℕ → ℕ → ℕ → Sent → Option Message
frame_with own to inc s = Some (record { from = own; to = to; tag = record { inc = inc; interval = s.interval }; ssn = s.ssn; body = s.body })

pub returns-then-k-messages-clause-frame : goal.returns-then-k-messages-clause-frame
returns-then-k-messages-clause-frame c =
    let q = messages_to c.args.self.now c.args.to in
    let long : length c.outbox-messages.result.now ≡ length q.entries = ap length c.outbox-messages.ensures.kept ∙ length-numbered sent_as q.first q.entries in
    let out : length c.outbox-messages.result.now ≤ c.args.k = search rules in
    sym (ap (frame_of c.args.self.now c.args.to (q.first + c.args.k)) (nothing_at c.args.k q.entries (omega arith)))

pub returns-clause-frame : goal.returns-clause-frame
returns-clause-frame c =
    let q = messages_to c.args.self.now c.args.to in
    let all = c.outbox-messages.result.now in
    let sent = c.index-messages-k.result in
    let long : length all ≡ length q.entries = ap length c.outbox-messages.ensures.kept ∙ length-numbered sent_as q.first q.entries in
    let within : c.args.k < length all = search rules in
    let here : sent ≡ get_or all c.args.k sent = search rules in
    let there = numbered_at sent_as q.first c.args.k q.entries sent (omega arith) (here ∙ ap (λ xs. get_or xs c.args.k sent) c.outbox-messages.ensures.kept) in
    let core = c.args.self.now in
    ap (λ (b : List ℕ). frame_with c.self.inside.pid c.args.to c.self.inside.inc (record { ssn = sent.ssn; interval = sent.interval; body = b })) c.in_ok-copy.ensures
    ∙ ap (λ (s : CoreState). frame_with s.own c.args.to s.inc sent) c.self.view_is
    ∙ ap (frame_with core.own c.args.to core.inc) there.2
    ∙ sym (ap (frame_of core c.args.to (q.first + c.args.k)) there.1)

pub returns-clause-sent : goal.returns-clause-sent
returns-clause-sent c =
    let all = c.outbox-messages.result.now in
    let sent = c.index-messages-k.result in
    let within : c.args.k < length all = search rules in
    let here : sent ≡ get_or all c.args.k sent = search rules in
    let has = c.outbox-messages.ensures.sent c.args.k sent (some_at all c.args.k sent within here) in
    record {
      from = ap (λ (s : CoreState). s.own) c.self.view_is;
      inc = ap (λ (s : CoreState). s.inc) c.self.view_is;
      sent = subst (λ (b : List ℕ). HasEntry c.args.self.now.now.queues c.args.to sent.ssn (record { interval = sent.interval; body = b })) (sym c.in_ok-copy.ensures) has;
    }
