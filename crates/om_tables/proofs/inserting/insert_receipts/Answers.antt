use Rattle.std.proofs.Common.{refl, ◌∙◌, ◌≤◌, length, arith}
use Rattle.om_tables.proofs.LoopLemmas.{at_start, some_more}
use Rattle.om_tables.proofs.InsertLemmas.{keeps_then, same_keeps}
use Rattle.om_tables.proofs.inserting.insert_receipts.Goals as goal

pub loop-at-init : goal.loop-at-init
loop-at-init g c = record {
  within = omega arith;
  same_reference = refl;
  clean = λ h. h;
  kept = λ _. same_keeps _ _ refl;
  goes_on = λ _ begun. begun;
  put = λ _ had holds begun. (had, record { holds = holds; begun = begun; committed = refl }, refl, at_start had.receipts c.args.first c.args.recs.now);
}

pub loop-at-preserved : goal.loop-at-preserved
loop-at-preserved g c =
    let i = c.loop-at.invariant in
    let one = c.in_ok-insert_few.ensures in
    let end = c.min-end.result in
    let above : c.loop-at.at ≤ end = omega arith in
    let within : end ≤ length c.args.recs.now = omega arith in
    record {
      within = within;
      same_reference = one.same_reference ∙ i.same_reference;
      clean = λ h. i.clean (one.performs.clean h);
      kept = λ h. keeps_then _ _ _ (i.kept (one.performs.clean h)) (one.performs.step h).kept;
      goes_on = λ h begun. (one.performs.step h).goes_on (i.goes_on (one.performs.clean h) begun);
      put = λ h had holds begun.
          let so_far = i.put (one.performs.clean h) had holds begun in
          let next = (one.performs.step h).put so_far.0 so_far.1.holds so_far.1.begun in
          let more = some_more so_far.0.receipts c.args.first c.loop-at.at end c.args.recs.now above within in (
            _,
            record { holds = next.holds; begun = next.begun; committed = next.committed ∙ so_far.1.committed },
            so_far.2,
            more ∙ so_far.3,
          );
    }
