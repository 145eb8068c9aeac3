use Rattle.std.proofs.Common.{rules, subst, sym}
use Rattle.om_check.specs.steps.Walks.{IsAhead, IsLeft}
use Rattle.om_check.proofs.Walking.{is_none, popped_declined, popped_taken}
use Rattle.om_check.proofs.Orders.{none_left}
use Rattle.om_check.proofs.walk.turn_back.Goals as goal

pub returns-then-choice-clause-turned : goal.returns-then-choice-clause-turned
returns-then-choice-clause-turned c holds programs run left =
    subst (IsAhead programs run) (sym c.push_reserved.ensures.items)
    (popped_taken programs run c.pop.new.self.items c.in-Some.choice c.if-choice.true
    (subst (IsLeft programs run) c.in-Some.ensures.items (c.loop.invariant.left programs run left)))

pub loop-preserved : goal.loop-preserved
loop-preserved c = record {
  left = λ programs run left. popped_declined programs run c.pop.new.self.items c.in-Some.choice c.if-choice.false
      (subst (IsLeft programs run) c.in-Some.ensures.items (c.loop.invariant.left programs run left));
  many = search rules;
}

pub returns-in_default-clause-none : goal.returns-in_default-clause-none
returns-in_default-clause-none c same programs run left =
    none_left programs run (subst (IsLeft programs run) (is_none c.loop.choices.items (search rules)) (c.loop.invariant.left programs run left))

pub returns-clause-none : goal.returns-clause-none
returns-clause-none c same programs run left =
    none_left programs run (subst (IsLeft programs run) (is_none c.loop.choices.items (search rules)) (c.loop.invariant.left programs run left))
