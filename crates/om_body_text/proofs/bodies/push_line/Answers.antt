use Rattle.std.proofs.Common.{◌≡◌, ◌⊎◌, inl, inr, [], refl, sym, append-nil, string_bytes}
use Rattle.std.proofs.lemmas.Result.{IfOk-weaker}
use Rattle.om_format.specs.Receipts.{receipt_record}
use Rattle.om_body_text.specs.Bodies.{message_line}
use Rattle.om_body_text.proofs.bodies.push_line.Goals as goal

pub returns-in-Ok : goal.returns-in-Ok
returns-in-Ok c =
    let r = receipt_record c.in-Ok.receipt in
    IfOk-weaker c.push_message.result _ _ (λ _ pushed. (message_line c.args.form c.args.x r, inl (r, c.in-Ok.ensures.found, refl), pushed)) c.push_message.ensures

pub returns-in-Err : goal.returns-in-Err
returns-in-Err c =
    IfOk-weaker c.refuse_memory.result _ _ (λ _ other. (
      [],
      elim c.in-Err.ensures.fault [
        | inl is ↦ inr (c.in-Err.error, is, refl)
        | inr memory ↦ absurd (other memory.0)
      ],
      sym (append-nil (string_bytes c.args.text.now)),
    )) c.refuse_memory.ensures
