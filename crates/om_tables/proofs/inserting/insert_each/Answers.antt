use Rattle.std.proofs.Common.{refl, ap, ◌∙◌, ◌+◌, ◌≡◌, drop}
use Rattle.om_stable.specs.Content.{with_all, bytes_of}
use Rattle.std.specs.FinMap as finite
use Rattle.om_tables.proofs.LoopLemmas.{at_start, one_more}
use Rattle.om_tables.proofs.InsertLemmas.{keeps_then, same_keeps}
use Rattle.om_tables.proofs.inserting.insert_each.Goals as goal

pub loop-i-init : goal.loop-i-init
loop-i-init g c = record {
  same_reference = refl;
  clean = λ h. h;
  kept = λ _. same_keeps _ _ refl;
  goes_on = λ _ begun. begun;
  put = λ _ had holds begun. (had, record { holds = holds; begun = begun; committed = refl }, refl, at_start had.receipts c.args.first c.args.recs.now);
}

pub loop-i-preserved : goal.loop-i-preserved
loop-i-preserved g c =
    let i = c.loop-i.invariant in
    let one = c.in_ok-insert_receipt.ensures in
    record {
      same_reference = one.same_reference ∙ i.same_reference;
      clean = λ h. i.clean (one.performs.clean h);
      kept = λ h. keeps_then _ _ _ (i.kept (one.performs.clean h)) (one.performs.step h).kept;
      goes_on = λ h begun. (one.performs.step h).goes_on (i.goes_on (one.performs.clean h) begun);
      put = λ h had holds begun.
          let so_far = i.put (one.performs.clean h) had holds begun in
          let next = (one.performs.step h).put so_far.0 so_far.1.holds so_far.1.begun in
          let bytes : c.deref.result.now ≡ c.index-recs-i.result.items = c.deref.ensures.value in
          let more = one_more so_far.0.receipts c.args.first c.loop-i.i c.args.recs.now c.index-recs-i.result (c.loop-i-test.true, cc) in (
            _,
            record { holds = next.holds; begun = next.begun; committed = next.committed ∙ so_far.1.committed },
            so_far.2,
            ap (λ b. with_all (finite.insert so_far.0.receipts (c.args.first + c.loop-i.i) b) (c.args.first + (c.loop-i.i + 1)) (bytes_of (drop (c.loop-i.i + 1) c.args.recs.now))) bytes ∙ more ∙ so_far.3,
          );
    }
