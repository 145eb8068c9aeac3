use Rattle.std.proofs.Common.{arith, subst, refl}
use Rattle.om_recover.specs.Recoverable.{IsStable}
use Rattle.om_recover.proofs.NewLemmas.{nothing_new_again, nothing_new_unstable, unstable_log, stable_by_checkpoint, stable_by_new_log, log_is_none}
use Rattle.om_recover.proofs.rows.index.Index.makes_stable.Goals as goal

pub returns-then-is_stable-clause-none : goal.returns-then-is_stable-clause-none
returns-then-is_stable-clause-none c = λ _. nothing_new_again _ _ (c.if-is_stable.ensures.yes refl)

pub returns-then-is_checkpoint-clause-yes : goal.returns-then-is_checkpoint-clause-yes
returns-then-is_checkpoint-clause-yes c = λ _. record { before = c.if-is_stable.ensures.none refl; after = stable_by_checkpoint _ _ (c.if-is_checkpoint.ensures.yes refl) }

pub returns-in-None-clause-none : goal.returns-in-None-clause-none
returns-in-None-clause-none c = λ _.
    nothing_new_unstable _ _ (unstable_log _ _ (log_is_none _ (c.if-is_checkpoint.ensures.otherwise refl)) (c.if-is_stable.ensures.none refl) (λ before is _. c.in-None.ensures (omega (arith, is))))

pub returns-in-Some-clause-yes : goal.returns-in-Some-clause-yes
returns-in-Some-clause-yes c = λ yes. record {
  before = c.if-is_stable.ensures.none refl;
  after = stable_by_new_log _ _ c.in-Some.before (c.if-is_checkpoint.ensures.otherwise refl) (omega (arith, c.in-Some.ensures.0, c.in-Some.ensures.1)) (c.is_stable-in-Some.ensures.yes yes);
}

pub returns-in-Some-clause-none : goal.returns-in-Some-clause-none
returns-in-Some-clause-none c = λ none.
    nothing_new_unstable _ _ (unstable_log _ _ (log_is_none _ (c.if-is_checkpoint.ensures.otherwise refl)) (c.if-is_stable.ensures.none refl)
    (λ before is stable. c.is_stable-in-Some.ensures.none none (subst (IsStable c.args.self.now c.args.row.now.pid) (omega (arith, is, c.in-Some.ensures.0, c.in-Some.ensures.1)) stable)))
