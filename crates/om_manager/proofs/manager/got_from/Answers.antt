use Rattle.std.proofs.Common.{◌≡◌, ◌≢◌, ℕ, ◌<◌, ◌∙◌, ap, sym, subst, arith, length, slice_index, slice_set, length-set, get_or-set_same, get_or-set_other, below_more}
use Rattle.om_recover.specs.Cutting.{IsGotFrom}
use Rattle.om_manager.proofs.manager.got_from.Goals as goal

pub loop-q-preserved : goal.loop-q-preserved
loop-q-preserved c =
    let tells = λ (q x : ℕ). IsGotFrom c.args.records.now.rows q (slice_index c.args.records.now.state q) c.args.pid x in
    let count = c.got_from.result in
    let set_is : c.set.new.self ≡ slice_set c.loop-q.by_receiver c.loop-q.q count =
    c.set.ensures ∙ ap (λ q. slice_set c.loop-q.by_receiver q count) c.at-receiver.ensures in
    let within : c.loop-q.q < length c.loop-q.by_receiver = omega (arith, c.loop-q.invariant.places) in
    let here : tells c.loop-q.q count = subst (λ q. tells q count) c.at-receiver.ensures c.got_from.ensures in
    record {
      places = ap length set_is ∙ length-set _ _ _ ∙ c.loop-q.invariant.places;
      got = below_more (λ q. tells q (slice_index c.set.new.self q)) c.loop-q.q
          (λ q below. let other : q ≢ c.loop-q.q = omega arith in
          subst (tells q) (sym (ap (λ v. slice_index v q) set_is ∙ get_or-set_other c.loop-q.by_receiver c.loop-q.q q count 0 other)) (c.loop-q.invariant.got q below))
          (subst (tells c.loop-q.q) (sym (ap (λ v. slice_index v c.loop-q.q) set_is ∙ get_or-set_same c.loop-q.by_receiver c.loop-q.q count 0 within)) here);
    }
