use Rattle.std.proofs.Common.{◌≡◌, ℕ, ◌+◌, ◌<◌, List, sym, subst, arith, length, slice_index}
use Rattle.om_interval.proofs.VectorLemmas.{below_itself}
use Rattle.om_recover.specs.Recoverable.{IsRecoverable}
use Rattle.om_recover.specs.steps.Memory.{AreRemembered}
use Rattle.om_recover.specs.steps.Climbing.{ArePassed, EndsBy, IsOutOfReach}
use Rattle.om_recover.specs.declared.search.failed_climbs.FailedClimbs.{FailedClimbs}
use Rattle.om_recover.specs.declared.work.Work.{Work}
use Rattle.om_recover.proofs.SearchLemmas.{IsPassedTo, passed_by, passed_nothing, passed_over}
use Rattle.om_recover.proofs.search.passes.pass.Goals as goal
use Rattle.om_recover.proofs.search.passes.pass.Goals.{then-not-ends_by, else-not-ends_by}

pub loop-p-init : goal.loop-p-init
loop-p-init g c = record {
  so_far = record {
    recoverable = c.requires.state;
    above = below_itself c.args.state.now;
    at_rest = λ same q before. absurd (omega (arith, before));
    counted = passed_nothing _ _ _ _ _;
  };
  remembered = c.requires.remembered;
}

pub loop-p-preserved : goal.loop-p-preserved
loop-p-preserved g c =
    let rows = g.S.Shelf.rows c.args.shelf.now in
    let state = c.args.state.now in
    let higher = c.loop-p.higher in
    let begun = c.args.work.now.attempts in
    let places : length higher ≡ length state = c.loop-p.invariant.so_far.recoverable.places in
    elim c.if-not-ends_by.branch [
      | then-not-ends_by w ↦
          let raised = w.raised_at-higher.result in
          let new = w.raised_at-higher.new in
          let found = w.raised_at-higher.ensures in
          let so_far : IsPassedTo (length state) rows state raised (c.loop-p.p + 1) begun new.work.attempts =
          passed_by _ _ _ _ _ _ _ _ _ (subst (λ n. IsRecoverable n rows raised) places found.recoverable) found.above
          (λ stays. subst (λ r. IsOutOfReach (length state) rows r (slice_index higher r + 1)) c.at-pid.ensures
          (subst (λ n. IsOutOfReach n rows c.at-pid.result (slice_index higher c.at-pid.result + 1)) places (found.at_rest stays)))
          (subst (λ n. ArePassed n rows higher raised 1 c.loop-p.work.attempts new.work.attempts) places found.counted) c.loop-p.invariant.so_far in
          let remembered : AreRemembered (length state) rows raised new.memories.places =
          subst (λ n. AreRemembered n rows raised new.memories.places) places found.remembered in
          record {
            so_far = subst (λ (v : List ℕ). IsPassedTo (length state) rows state v (c.loop-p.p + 1) begun c.if-not-ends_by.work.attempts) (sym w.higher-is)
                (subst (λ (work : Work). IsPassedTo (length state) rows state raised (c.loop-p.p + 1) begun work.attempts) (sym w.work-is) so_far);
            remembered = subst (λ (v : List ℕ). AreRemembered (length state) rows v c.if-not-ends_by.memories.places) (sym w.higher-is)
                (subst (λ (memories : FailedClimbs). AreRemembered (length state) rows raised memories.places) (sym w.memories-is) remembered);
          }
      | else-not-ends_by w ↦
          let process : c.loop-p.p < length state = omega (arith, c.loop-p-test.true, c.n-p-end.ensures.places) in
          let ends : EndsBy rows c.loop-p.p (slice_index higher c.loop-p.p) =
          subst (λ r. EndsBy rows r (slice_index higher r)) c.at-pid.ensures
          (subst (λ x. EndsBy rows c.at-pid.result x) c.get.ensures (c.ends_by.ensures w.if-not-ends_by.false)) in
          let so_far = passed_over _ _ _ _ _ _ _ process ends c.loop-p.invariant.so_far in
          record {
            so_far = subst (λ (v : List ℕ). IsPassedTo (length state) rows state v (c.loop-p.p + 1) begun c.if-not-ends_by.work.attempts) (sym w.higher-is)
                (subst (λ (work : Work). IsPassedTo (length state) rows state higher (c.loop-p.p + 1) begun work.attempts) (sym w.work-is) so_far);
            remembered = subst (λ (v : List ℕ). AreRemembered (length state) rows v c.if-not-ends_by.memories.places) (sym w.higher-is)
                (subst (λ (memories : FailedClimbs). AreRemembered (length state) rows higher memories.places) (sym w.memories-is) c.loop-p.invariant.remembered);
          }
    ]
