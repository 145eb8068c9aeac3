use Rattle.std.proofs.Common.{refl, arith}
use Rattle.om_recover.proofs.rows.answer.answer_without_change.Goals as goal

pub answer_beyond-requires-clause-offer : goal.answer_beyond-requires-clause-offer
answer_beyond-requires-clause-offer c = record { known = omega (arith, c.index.ensures.place); fair = c.if-not-is_fair.ensures.0 refl }

pub answer_amid-requires-clause-offer : goal.answer_amid-requires-clause-offer
answer_amid-requires-clause-offer c = record { known = omega (arith, c.index.ensures.place); fair = c.if-not-is_fair.ensures.0 refl }
