use Rattle.std.proofs.Common.{◌∙◌}
use Rattle.om_debug.proofs.Moved.{moved_then, same_then}
use Rattle.om_debug.proofs.Quiet.{passed_then}
use Rattle.om_debug.proofs.debugger.Debugger.forward.Goals as goal

pub returns-in-Some-clause-passed : goal.returns-in-Some-clause-passed
returns-in-Some-clause-passed g c =
    passed_then c.args.self.now c.pieces.self c.advance.new.self c.advance.ensures.same c.advance.ensures.within c.advance.ensures.moved c.pieces.invariant.passed c.in_ok-stop.ensures.passed

pub returns-then-is_paused-clause-passed : goal.returns-then-is_paused-clause-passed
returns-then-is_paused-clause-passed g c =
    passed_then c.args.self.now c.pieces.self c.advance.new.self c.advance.ensures.same c.advance.ensures.within c.advance.ensures.moved c.pieces.invariant.passed c.in_ok-stop.ensures.passed

pub pieces-preserved : goal.pieces-preserved
pieces-preserved g c = record {
  moved = moved_then c.args.self.now.timeline c.pieces.self.timeline c.advance.new.self.timeline c.pieces.invariant.moved c.advance.ensures.moved;
  same = same_then c.args.self.now c.pieces.self c.advance.new.self c.pieces.invariant.same c.advance.ensures.same;
  passed = passed_then c.args.self.now c.pieces.self c.advance.new.self c.advance.ensures.same c.advance.ensures.within c.advance.ensures.moved c.pieces.invariant.passed c.in_ok-stop.ensures.passed;
  unread = c.is_paused.ensures ∙ c.pieces.invariant.unread;
}
