use Rattle.std.proofs.Common.{◌≡◌, ◌≢◌, ℕ, ◌<◌, ◌∙◌, ap, sym, subst, arith, length, slice_index, slice_set, length-set, get_or-set_same, get_or-set_other, below_more, rules}
use Rattle.om_recover.specs.steps.Held.{held}
use Rattle.om_recover.specs.Cutting.{IsEffective}
use Rattle.om_recover.proofs.rows.cutting.effective_of_all.Goals as goal

pub loop-p-preserved : goal.loop-p-preserved
loop-p-preserved c =
    let used = λ (q : ℕ). IsEffective (held c.args.trees.now) q (slice_index c.args.state.now q) in
    let set_is : c.set.new.self ≡ slice_set c.loop-p.checkpoints c.loop-p.p c.effective_of.result =
    c.set.ensures ∙ ap (λ p. slice_set c.loop-p.checkpoints p c.effective_of.result) c.at-pid.ensures in
    let within : c.loop-p.p < length c.loop-p.checkpoints = omega (arith, c.loop-p.invariant.places) in
    record {
      places = ap length set_is ∙ length-set _ _ _ ∙ c.loop-p.invariant.places;
      each = below_more (λ q. used q (slice_index c.set.new.self q)) c.loop-p.p
          (λ q below. let other : q ≢ c.loop-p.p = omega arith in
          subst (used q) (sym (ap (λ v. slice_index v q) set_is ∙ get_or-set_other c.loop-p.checkpoints c.loop-p.p q c.effective_of.result 0 other)) (c.loop-p.invariant.each q below))
          (subst (used c.loop-p.p) (sym (ap (λ v. slice_index v c.loop-p.p) set_is ∙ get_or-set_same c.loop-p.checkpoints c.loop-p.p c.effective_of.result 0 within))
          (search rules));
    }
