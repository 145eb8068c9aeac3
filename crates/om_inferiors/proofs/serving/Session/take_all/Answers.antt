use Rattle.std.proofs.Common.{◌+◌, true, false, arith, ◌∙◌}
use Rattle.om_inferiors.specs.steps.Serving.{session_of}
use Rattle.om_inferiors.proofs.Taking.{taken_all, taken_next}
use Rattle.om_inferiors.proofs.serving.Session.take_all.Goals as goal

pub returns-then-branch-clause-taken : goal.returns-then-branch-clause-taken
returns-then-branch-clause-taken g c =
    taken_all _ _ c.args.bytes.now (c.loop-byte.byte-index + 1) _ _
    (taken_next (session_of c.args.self.now) (session_of c.loop-byte.self) (session_of c.take.new.self) c.args.bytes.now c.loop-byte.byte-index _ _ _ true c.in_ok-take.field-0
    (omega arith) c.loop-byte.invariant.taken c.in_ok-take.ensures.taken c.if-branch.true)

pub loop-byte-preserved : goal.loop-byte-preserved
loop-byte-preserved g c = record {
  taken = taken_next (session_of c.args.self.now) (session_of c.loop-byte.self) (session_of c.take.new.self) c.args.bytes.now c.loop-byte.byte-index _ _ _ false c.in_ok-take.field-0
      (omega arith) c.loop-byte.invariant.taken c.in_ok-take.ensures.taken c.if-branch.false;
  unread = c.take.ensures.unread ∙ c.loop-byte.invariant.unread;
}
