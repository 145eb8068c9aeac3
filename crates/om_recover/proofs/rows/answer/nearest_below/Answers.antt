use Rattle.std.proofs.Common.{arith}
use Rattle.om_recover.proofs.AnswerLemmas.{below_by_log, below_by_checkpoint, below_without_log}
use Rattle.om_recover.proofs.rows.answer.nearest_below.Goals as goal

pub returns-in_default : goal.returns-in_default
returns-in_default c = below_without_log _ _ c.in_ok-to.to _ (omega (arith, c.in_ok-to.ensures)) c.in_default.ensures c.record_to-in_default.ensures

pub returns-in_default-record_to : goal.returns-in_default-record_to
returns-in_default-record_to c = below_by_log _ _ _ c.in_ok-to.to (omega (arith, c.in_ok-to.ensures)) c.in-Some.ensures (λ x has below. absurd (c.in_default-record_to.ensures x has below))

pub returns-then-log-checkpoint : goal.returns-then-log-checkpoint
returns-then-log-checkpoint c =
    below_by_checkpoint _ _ _ c.in_ok-to.to (omega (arith, c.in_ok-to.ensures)) c.in-Some-record_to.ensures (λ x has below. omega (arith, c.in-Some.ensures.nearest x has below, c.if-log-checkpoint.true))

pub returns-else-log-checkpoint : goal.returns-else-log-checkpoint
returns-else-log-checkpoint c =
    below_by_log _ _ _ c.in_ok-to.to (omega (arith, c.in_ok-to.ensures)) c.in-Some.ensures (λ x has below. omega (arith, c.in-Some-record_to.ensures.nearest x has below, c.if-log-checkpoint.false))
