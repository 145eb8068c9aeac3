use Rattle.std.proofs.Common.{◌≡◌, ◌+◌, ◌++◌, ◌∷◌, [], sym, ◌∙◌, ap, subst, take, add-one, append_assoc, string_bytes}
use Rattle.std.proofs.Math.Seq.{take-suc}
use Rattle.std.proofs.lemmas.List.{map-append}
use Rattle.om_body_text.specs.Bodies.{IsBodyLine}
use Rattle.om_look.specs.Lines.{AreLines}
use Rattle.om_look.proofs.ShowLemmas.{lines_more}
use Rattle.om_stable.specs.Content.{rows_of}
use Rattle.om_body_text.proofs.bodies.push_bodies.Goals as goal

pub loop-x-preserved : goal.loop-x-preserved
loop-x-preserved c =
    let so_far = c.loop-x.invariant in
    let all = c.args.receipts.now in
    let i = c.loop-x.x-index in
    let item = c.loop-x-item.result in
    let form = c.args.form in
    let pushed = c.in_ok-push_line.ensures in
    let is : IsBodyLine form (item.0, item.1.items) pushed.0 = subst (λ bs. IsBodyLine form (item.0, bs) pushed.0) c.deref.ensures.value pushed.1 in
    let longer : take (i + 1) all ≡ take i all ++ item ∷ [] = rw (add-one, take-suc all i item c.loop-x-test.true) (ap (λ e. take i all ++ e ∷ []) (sym c.loop-x-item.is)) in
    let rows : rows_of (take (i + 1) all) ≡ rows_of (take i all) ++ (item.0, item.1.items) ∷ [] = ap rows_of longer ∙ map-append _ (take i all) (item ∷ []) in (
      so_far.0 ++ pushed.0,
      subst (λ rs. AreLines (IsBodyLine form) rs (so_far.0 ++ pushed.0)) (sym rows) (lines_more (IsBodyLine form) (rows_of (take i all)) so_far.0 (item.0, item.1.items) pushed.0 so_far.1 is),
      pushed.2 ∙ ap (λ t. t ++ pushed.0) so_far.2 ∙ append_assoc (string_bytes c.args.text.now) so_far.0 pushed.0,
    )
