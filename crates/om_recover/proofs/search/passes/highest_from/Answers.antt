use Rattle.std.proofs.Common.{◌≡◌, ℕ, ◌+◌, List, sym, ◌∙◌, subst, arith, length, slice_index, true≢false}
use Rattle.om_interval.specs.Vectors.{IsBelow}
use Rattle.om_recover.specs.Recoverable.{IsRecoverable}
use Rattle.om_recover.specs.steps.Memory.{AreRemembered}
use Rattle.om_recover.specs.steps.Climbing.{ArePassed, IsOutOfReach}
use Rattle.om_interval.proofs.VectorLemmas.{below_each_other, below_itself, below_through}
use Rattle.om_recover.proofs.SearchLemmas.{raised_step, raised_ends, state_rises, greatest_at_rest, all_out_of_reach, passed_nothing}
use Rattle.om_recover.proofs.search.passes.highest_from.Goals as goal

pub loop-raised-init : goal.loop-raised-init
loop-raised-init g c = record {
  recoverable = c.requires.state;
  above = below_itself c.args.state.now;
  counted = passed_nothing _ _ _ _ _;
  remembered = c.requires.remembered;
}

pub returns-then-leq-clause-greatest : goal.returns-then-leq-clause-greatest
returns-then-leq-clause-greatest g c =
    let places : length c.loop-raised.raised ≡ length c.args.state.now = c.loop-raised.invariant.recoverable.places in
    let rest : c.pass-higher.result ≡ c.loop-raised.raised = below_each_other _ _ (c.leq.ensures.0 c.if-leq.true) c.pass-higher.ensures.above in
    greatest_at_rest _ _ _ c.loop-raised.invariant.recoverable (λ p within.
    subst (λ n. IsOutOfReach n (g.S.Shelf.rows c.args.shelf.now) p (slice_index c.loop-raised.raised p + 1)) places
    (c.pass-higher.ensures.at_rest rest p (omega (arith, within, places))))

pub returns-then-leq-clause-counted : goal.returns-then-leq-clause-counted
returns-then-leq-clause-counted g c =
    let places : length c.loop-raised.raised ≡ length c.args.state.now = c.loop-raised.invariant.recoverable.places in
    let rest : c.pass-higher.result ≡ c.loop-raised.raised = below_each_other _ _ (c.leq.ensures.0 c.if-leq.true) c.pass-higher.ensures.above in
    raised_ends _ _ _ _ _ _ _ c.loop-raised.invariant.above c.loop-raised.invariant.counted
    (subst (λ n. ArePassed n (g.S.Shelf.rows c.args.shelf.now) c.loop-raised.raised c.loop-raised.raised n c.loop-raised.work.attempts c.pass-higher.new.work.attempts) places
    (subst (λ (higher : List ℕ). ArePassed (length c.loop-raised.raised) (g.S.Shelf.rows c.args.shelf.now) c.loop-raised.raised higher (length c.loop-raised.raised) c.loop-raised.work.attempts c.pass-higher.new.work.attempts) rest c.pass-higher.ensures.counted))

pub loop-raised-smaller : goal.loop-raised-smaller
loop-raised-smaller g c =
    let places : length c.loop-raised.raised ≡ length c.args.state.now = c.loop-raised.invariant.recoverable.places in
    state_rises _ _ _ _ c.requires.lawful (subst (λ n. IsRecoverable n (g.S.Shelf.rows c.args.shelf.now) c.pass-higher.result) places c.pass-higher.ensures.recoverable) c.pass-higher.ensures.above
    (λ same. true≢false (sym (c.leq.ensures.1 (subst (λ (v : List ℕ). IsBelow v c.loop-raised.raised) (sym same) (below_itself c.loop-raised.raised))) ∙ c.if-leq.false))

pub loop-raised-preserved : goal.loop-raised-preserved
loop-raised-preserved g c =
    let places : length c.loop-raised.raised ≡ length c.args.state.now = c.loop-raised.invariant.recoverable.places in
    record {
      recoverable = subst (λ n. IsRecoverable n (g.S.Shelf.rows c.args.shelf.now) c.pass-higher.result) places c.pass-higher.ensures.recoverable;
      above = below_through _ _ _ c.loop-raised.invariant.above c.pass-higher.ensures.above;
      counted = raised_step _ _ _ _ _ _ _ _ c.loop-raised.invariant.above c.pass-higher.ensures.above
          (λ same. true≢false (sym (c.leq.ensures.1 (subst (λ (v : List ℕ). IsBelow v c.loop-raised.raised) (sym same) (below_itself c.loop-raised.raised))) ∙ c.if-leq.false))
          c.loop-raised.invariant.counted
          (subst (λ n. ArePassed n (g.S.Shelf.rows c.args.shelf.now) c.loop-raised.raised c.pass-higher.result n c.loop-raised.work.attempts c.pass-higher.new.work.attempts) places c.pass-higher.ensures.counted);
      remembered = subst (λ n. AreRemembered n (g.S.Shelf.rows c.args.shelf.now) c.pass-higher.result c.pass-higher.new.memories.places) places c.pass-higher.ensures.remembered;
    }

pub pass-higher-requires-clause-remembered : goal.pass-higher-requires-clause-remembered
pass-higher-requires-clause-remembered g c =
    subst (λ n. AreRemembered n (g.S.Shelf.rows c.args.shelf.now) c.loop-raised.raised c.loop-raised.memories.places) (sym c.loop-raised.invariant.recoverable.places) c.loop-raised.invariant.remembered

pub returns-then-leq-clause-remembered : goal.returns-then-leq-clause-remembered
returns-then-leq-clause-remembered g c =
    let places : length c.loop-raised.raised ≡ length c.args.state.now = c.loop-raised.invariant.recoverable.places in
    let rest : c.pass-higher.result ≡ c.loop-raised.raised = below_each_other _ _ (c.leq.ensures.0 c.if-leq.true) c.pass-higher.ensures.above in
    subst (λ (higher : List ℕ). AreRemembered (length c.args.state.now) (g.S.Shelf.rows c.args.shelf.now) higher c.pass-higher.new.memories.places) rest
    (subst (λ n. AreRemembered n (g.S.Shelf.rows c.args.shelf.now) c.pass-higher.result c.pass-higher.new.memories.places) places c.pass-higher.ensures.remembered)

pub returns-then-all_end_by-clause-greatest : goal.returns-then-all_end_by-clause-greatest
returns-then-all_end_by-clause-greatest g c =
    let recoverable = c.loop-raised.invariant.recoverable in
    greatest_at_rest _ _ _ recoverable (all_out_of_reach _ _ _ recoverable (c.all_end_by.ensures c.if-all_end_by.true))

pub returns-then-all_end_by-clause-counted : goal.returns-then-all_end_by-clause-counted
returns-then-all_end_by-clause-counted g c =
    raised_ends _ _ _ _ _ _ _ c.loop-raised.invariant.above c.loop-raised.invariant.counted (passed_nothing _ _ _ _ _)
