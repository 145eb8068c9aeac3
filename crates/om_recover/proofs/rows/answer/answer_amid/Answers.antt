use Rattle.std.proofs.Common.{inl, inr, refl, sym, true≢false}
use Rattle.om_recover.proofs.AnswerLemmas.{breaks_below, breaks_above}
use Rattle.om_recover.proofs.rows.answer.answer_amid.Goals as goal

pub returns-then-has_different-clause-answer : goal.returns-then-has_different-clause-answer
returns-then-has_different-clause-answer c =
    let found = c.if-has_different.ensures.yes refl in
    (c.requires.offer, found.other, found.there, found.pid, found.interval, found.differs, refl)

pub returns-then-has_row-clause-answer : goal.returns-then-has_row-clause-answer
returns-then-has_row-clause-answer c =
    (c.requires.offer, c.if-has_different.ensures.none refl, c.if-has_row.ensures.0 refl, refl)

pub returns-in-Some-clause-answer : goal.returns-in-Some-clause-answer
returns-in-Some-clause-answer c = (
  record {
    offer = c.requires.offer;
    agrees = c.if-has_different.ensures.none refl;
    absent = λ there. true≢false (sym (c.if-has_row.ensures.1 there));
    other = c.in-Some.ensures.low;
    there = c.in-Some.ensures.nearest.there;
    stands_at = c.in-Some.ensures.stands_at;
    breaks = inl (breaks_below _ _ _ c.in-Some.ensures);
  },
  refl,
)

pub returns-in-Some-fault_above-clause-answer : goal.returns-in-Some-fault_above-clause-answer
returns-in-Some-fault_above-clause-answer c = (
  record {
    offer = c.requires.offer;
    agrees = c.if-has_different.ensures.none refl;
    absent = λ there. true≢false (sym (c.if-has_row.ensures.1 there));
    other = c.in-Some-fault_above.ensures.high;
    there = c.in-Some-fault_above.ensures.nearest.there;
    stands_at = c.in-Some-fault_above.ensures.stands_at;
    breaks = inr (c.in_default.ensures, breaks_above _ _ _ c.in-Some-fault_above.ensures);
  },
  refl,
)

pub returns-clause-answer : goal.returns-clause-answer
returns-clause-answer c = record {
  offer = c.requires.offer;
  agrees = c.if-has_different.ensures.none refl;
  absent = λ there. true≢false (sym (c.if-has_row.ensures.1 there));
  below = c.in_default.ensures;
  above = c.in_default-fault_above.ensures;
}
