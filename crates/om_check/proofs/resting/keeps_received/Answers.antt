use Rattle.std.proofs.Common.{◌<◌, ◌≤◌, subst, sym}
use Rattle.std.specs.Prelude.{slice_index}
use Rattle.om_process.specs.Claims.{HasEntry}
use Rattle.om_check.proofs.Numbers.{all_below, less_so, more_so, none_kept}
use Rattle.om_check.proofs.resting.keeps_received.Goals as goal

pub returns-in-Some-clause-received : goal.returns-in-Some-clause-received
returns-in-Some-clause-received c below number e has =
    subst (λ k. number < slice_index c.args.to.now.now.got k) (sym c.requires.sender)
    (all_below c.args.from.now.now.queues c.args.p number (slice_index c.args.to.now.now.got c.args.q) e c.outbox.result.now c.in-Some.last.now
    c.outbox.ensures.kept (sym c.in-Some.ensures.value) (less_so _ _ _ below c.got_from-got.ensures)
    (subst (λ k. HasEntry c.args.from.now.now.queues k number e) c.requires.receiver has))

pub returns-in-Some-clause-more : goal.returns-in-Some-clause-more
returns-in-Some-clause-more c above = (
  c.in-Some.last.now.ssn,
  record { interval = c.in-Some.last.now.interval; body = c.in-Some.last.now.body },
  subst (λ k. HasEntry c.args.from.now.now.queues k c.in-Some.last.now.ssn (record { interval = c.in-Some.last.now.interval; body = c.in-Some.last.now.body }))
      (sym c.requires.receiver) (c.outbox.ensures.sent _ c.in-Some.last.now (sym c.in-Some.ensures.value)),
  subst (λ k. slice_index c.args.to.now.now.got k ≤ c.in-Some.last.now.ssn) (sym c.requires.sender) (more_so _ _ _ above c.got_from-got.ensures),
)

pub returns-in-None-clause-received : goal.returns-in-None-clause-received
returns-in-None-clause-received c all number e has =
    absurd (none_kept c.args.from.now.now.queues c.args.p number e c.outbox.result.now c.outbox.ensures.kept (sym c.in-None.ensures.value)
    (subst (λ k. HasEntry c.args.from.now.now.queues k number e) c.requires.receiver has))
