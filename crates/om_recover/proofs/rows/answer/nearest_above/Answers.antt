use Rattle.std.proofs.Common.{arith}
use Rattle.om_recover.proofs.AnswerLemmas.{above_by_log, above_by_checkpoint, above_without_log}
use Rattle.om_recover.proofs.rows.answer.nearest_above.Goals as goal

pub returns-in_default : goal.returns-in_default
returns-in_default c = above_without_log _ _ c.in_ok-from.from _ (omega (arith, c.in_ok-from.ensures)) c.in_default.ensures c.record_from-in_default.ensures

pub returns-in_default-record_from : goal.returns-in_default-record_from
returns-in_default-record_from c = above_by_log _ _ _ c.in_ok-from.from (omega (arith, c.in_ok-from.ensures)) c.in-Some.ensures (λ x has above. absurd (c.in_default-record_from.ensures x has above))

pub returns-then-checkpoint-log : goal.returns-then-checkpoint-log
returns-then-checkpoint-log c =
    above_by_checkpoint _ _ _ c.in_ok-from.from (omega (arith, c.in_ok-from.ensures)) c.in-Some-record_from.ensures (λ x has above. omega (arith, c.in-Some.ensures.nearest x has above, c.if-checkpoint-log.true))

pub returns-else-checkpoint-log : goal.returns-else-checkpoint-log
returns-else-checkpoint-log c =
    above_by_log _ _ _ c.in_ok-from.from (omega (arith, c.in_ok-from.ensures)) c.in-Some.ensures (λ x has above. omega (arith, c.in-Some-record_from.ensures.nearest x has above, c.if-checkpoint-log.false))
