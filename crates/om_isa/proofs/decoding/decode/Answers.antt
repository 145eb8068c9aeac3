use Rattle.std.proofs.Common.{◌≡◌, Bool, true, false, Some, refl, ap, ◌∙◌, sym}
use Rattle.std.specs.Bool.{then_some}
use Rattle.om_isa.specs.declared.inst.Inst.{Inst}
use Rattle.om_isa.specs.Rows.{has}
use Rattle.om_isa.specs.derived.Decoded.{allowed}
use Rattle.om_isa.proofs.DecodedLemmas.{decoded-row}
use Rattle.std.specs.Prelude.{if◌then◌else◌, None}
use Rattle.om_isa.proofs.decoding.decode.Goals as goal

pub returns-in_err-inst-clause-function : goal.returns-in_err-inst-clause-function
returns-in_err-inst-clause-function c =
    let row = decoded-row c.args.ext c.args.w c.decode_by_rows.result c.decode_by_rows.ensures in
    let none = row ∙ ap (allowed c.args.ext) c.in_err-inst.was in
    c.from_residual.ensures ∙ sym none

then-if : (b : Bool) (i : Inst) → then_some b i ≡ (if b then Some i else None)
then-if true i = refl
then-if false i = refl

pub returns-clause-function : goal.returns-clause-function
returns-clause-function c =
    let row = decoded-row c.args.ext c.args.w c.decode_by_rows.result c.decode_by_rows.ensures in
    let some = row ∙ ap (allowed c.args.ext) c.in_ok-inst.was in
    c.then_some.ensures ∙ then-if c.has.result c.in_ok-inst.inst
    ∙ ap (λ b. if b then Some c.in_ok-inst.inst else None) (c.has.ensures ∙ ap (has c.args.ext) c.extension_of.ensures) ∙ sym some
