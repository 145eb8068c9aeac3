use Rattle.std.proofs.Common.{inl, refl}
use Rattle.om_recover.proofs.AnswerLemmas.{breaks_below, agrees_beyond, absent_beyond, in_order_beyond}
use Rattle.om_recover.proofs.rows.answer.answer_beyond.Goals as goal

pub returns-in-None-clause-answer : goal.returns-in-None-clause-answer
returns-in-None-clause-answer c = record {
  offer = c.requires.offer;
  agrees = agrees_beyond _ _ c.requires.beyond;
  absent = absent_beyond _ _ c.requires.beyond;
  below = c.in-None.ensures;
  above = in_order_beyond _ _ c.requires.beyond;
}

pub returns-in-Some-clause-answer : goal.returns-in-Some-clause-answer
returns-in-Some-clause-answer c = (
  record {
    offer = c.requires.offer;
    agrees = agrees_beyond _ _ c.requires.beyond;
    absent = absent_beyond _ _ c.requires.beyond;
    other = c.in-Some.ensures.low;
    there = c.in-Some.ensures.nearest.there;
    stands_at = c.in-Some.ensures.stands_at;
    breaks = inl (breaks_below _ _ _ c.in-Some.ensures);
  },
  refl,
)
