use Rattle.std.proofs.Common.{◌≡◌, ◌+◌, ◌++◌, ◌∷◌, [], sym, ◌∙◌, ap, subst, take, add-one, append_assoc, string_bytes}
use Rattle.std.proofs.Math.Seq.{take-suc}
use Rattle.std.proofs.lemmas.List.{map-append}
use Rattle.om_ledger_text.specs.Lines.{IsLineIn}
use Rattle.om_look.specs.Lines.{AreLines}
use Rattle.om_look.proofs.ShowLemmas.{lines_more}
use Rattle.om_stable.specs.Content.{rows_of}
use Rattle.om_ledger_text.proofs.text.push_rows.Goals as goal

pub loop-number-preserved : goal.loop-number-preserved
loop-number-preserved c =
    let so_far = c.loop-number.invariant in
    let all = c.args.rows.now in
    let i = c.loop-number.number-index in
    let item = c.loop-number-item.result in
    let table = c.args.table in
    let pushed = c.in_ok-push_row.ensures in
    let is : IsLineIn table (item.0, item.1.items) pushed.0 = subst (λ bs. IsLineIn table (item.0, bs) pushed.0) c.deref.ensures.value pushed.1 in
    let longer : take (i + 1) all ≡ take i all ++ item ∷ [] = rw (add-one, take-suc all i item c.loop-number-test.true) (ap (λ e. take i all ++ e ∷ []) (sym c.loop-number-item.is)) in
    let rows : rows_of (take (i + 1) all) ≡ rows_of (take i all) ++ (item.0, item.1.items) ∷ [] = ap rows_of longer ∙ map-append _ (take i all) (item ∷ []) in (
      so_far.0 ++ pushed.0,
      subst (λ rs. AreLines (IsLineIn table) rs (so_far.0 ++ pushed.0)) (sym rows) (lines_more (IsLineIn table) (rows_of (take i all)) so_far.0 (item.0, item.1.items) pushed.0 so_far.1 is),
      pushed.2 ∙ ap (λ t. t ++ pushed.0) so_far.2 ∙ append_assoc (string_bytes c.args.text.now) so_far.0 pushed.0,
    )
