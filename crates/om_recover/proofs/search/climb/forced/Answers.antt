use Rattle.std.proofs.Common.{◌≡◌, ℕ, ◌+◌, ◌∙◌, List, refl, sym, ap, subst, arith, slice_index, slice_set}
use Rattle.om_recover.specs.Climb.{IsLeastStable}
use Rattle.om_recover.proofs.ClimbLemmas.{IsForcedTo, forced_raise, forced_skip, forced_whole}
use Rattle.om_recover.proofs.search.climb.forced.Goals as goal
use Rattle.om_recover.proofs.search.climb.forced.Goals.{then-get-number_of+in-Some, else-get-number_of}

pub loop-p-init : goal.loop-p-init
loop-p-init g c = record { places = refl; kept = λ j within at_most. refl; untouched = λ j past. refl; raised = λ j before more. absurd (omega (arith, before)) }

pub loop-p-preserved : goal.loop-p-preserved
loop-p-preserved g c =
    let state_place : c.get.result ≡ slice_index c.args.state.now c.loop-p.p = c.get.ensures ∙ ap (slice_index c.args.state.now) c.at-q.ensures in
    let vec_place : c.number_of.result ≡ slice_index c.args.vec.now c.loop-p.p = c.number_of.ensures ∙ ap (slice_index c.args.vec.now) c.at-q.ensures in
    elim c.if-get-number_of.branch [
      | then-get-number_of+in-Some w ↦
          let from : w.number_of-then-get-number_of.result ≡ slice_index c.args.vec.now c.loop-p.p = w.number_of-then-get-number_of.ensures ∙ ap (slice_index c.args.vec.now) c.at-q.ensures in
          let least : IsLeastStable (g.S.Shelf.rows c.args.shelf.now) c.loop-p.p (slice_index c.args.vec.now c.loop-p.p) w.in-Some.y =
          subst (λ p. IsLeastStable (g.S.Shelf.rows c.args.shelf.now) p (slice_index c.args.vec.now c.loop-p.p) w.in-Some.y) c.at-q.ensures
          (subst (λ v. IsLeastStable (g.S.Shelf.rows c.args.shelf.now) c.at-q.result v w.in-Some.y) from w.in-Some.ensures) in
          subst (λ (higher : List ℕ). IsForcedTo (g.S.Shelf.rows c.args.shelf.now) c.args.state.now c.args.vec.now higher (c.loop-p.p + 1))
          (sym (w.higher-is ∙ w.set.ensures ∙ ap (λ p. slice_set c.loop-p.higher p w.in-Some.y) c.at-q.ensures))
          (forced_raise _ _ _ _ _ _ (omega (arith, c.loop-p-test.true, c.n-p-end.ensures.places)) (omega (arith, w.if-get-number_of.true, state_place, vec_place)) least c.loop-p.invariant)
      | else-get-number_of w ↦
          subst (λ (higher : List ℕ). IsForcedTo (g.S.Shelf.rows c.args.shelf.now) c.args.state.now c.args.vec.now higher (c.loop-p.p + 1))
          (sym w.higher-is) (forced_skip _ _ _ _ _ (omega (arith, w.if-get-number_of.false, state_place, vec_place)) c.loop-p.invariant)
    ]

pub returns : goal.returns
returns g c = forced_whole _ _ _ _ _ (omega (arith, c.loop-p-test.false, c.n-p-end.ensures.places)) c.loop-p.invariant

pub returns-in-None : goal.returns-in-None
returns-in-None g c =
    let at : c.at-q.result ≡ c.loop-p.p = c.at-q.ensures in
    record {
      within = omega (arith, at, c.loop-p-test.true, c.n-p-end.ensures.places);
      beyond = omega (arith, at, c.if-get-number_of.true, c.get.ensures, c.number_of.ensures);
      none = λ z stable above. c.in-None.ensures z stable (omega (arith, above, c.number_of-then-get-number_of.ensures));
    }
