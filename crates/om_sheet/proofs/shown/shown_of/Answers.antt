use Rattle.std.proofs.Common.{inl, inr}
use Rattle.om_sheet.proofs.shown.shown_of.Goals as goal

pub returns-in-Give : goal.returns-in-Give
returns-in-Give c = rw c.in-Give.is (c.give_shown.ensures c.args.ended c.in-Give.process)

pub returns-in-Flush : goal.returns-in-Flush
returns-in-Flush c = rw c.in-Flush.is (c.flush_shown.ensures c.args.ended c.in-Flush.process)

pub returns-in-FlushFirst : goal.returns-in-FlushFirst
returns-in-FlushFirst c = rw c.in-FlushFirst.is (c.first_shown.ensures c.args.ended c.in-FlushFirst.process)

pub returns-in-Checkpoint : goal.returns-in-Checkpoint
returns-in-Checkpoint c = elim c.in-Checkpoint.is [
  | inl one ↦ rw one.1 (c.checkpoint_shown.ensures.checkpoint c.args.ended one.0)
  | inr one ↦ rw one.1 (c.checkpoint_shown.ensures.spell c.args.ended one.0)
]

pub returns-in-Resend : goal.returns-in-Resend
returns-in-Resend c = rw c.in-Resend.is (c.resend_shown.ensures c.args.ended c.in-Resend.process)

pub returns-in-Fail : goal.returns-in-Fail
returns-in-Fail c = rw c.in-Fail.is (c.failure_shown.ensures c.args.ended c.in-Fail.process)

pub returns-in-Join : goal.returns-in-Join
returns-in-Join c = rw c.in-Join.is (c.join_shown.ensures c.args.ended c.in-Join.process)

pub returns-in-Resume : goal.returns-in-Resume
returns-in-Resume c = rw c.in-Resume.is (c.resume_shown.ensures c.args.ended c.in-Resume.process)
