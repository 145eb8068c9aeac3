use Rattle.std.proofs.Common.{None, subst, ◌∙◌}
use Rattle.om_debug.specs.Stops.{DebugState, IsPartBack}
use Rattle.om_debug.proofs.Backwards.{from_then, run_more, stands_then}
use Rattle.om_debug.proofs.Looking.{looked_none}
use Rattle.om_debug.proofs.debugger.Debugger.look_back.Goals as goal

pub parts-preserved : goal.parts-preserved
parts-preserved g c =
    let old : DebugState = c.args.self.now in
    let mid : DebugState = c.parts.self in
    let new : DebugState = c.part_behind.new.self in
    let back : IsPartBack mid new None = subst (IsPartBack mid new) c.in-None.is c.in_ok-stop.ensures.back in
    record {
      stands = stands_then old mid new c.parts.invariant.stands c.part_behind.ensures.stands;
      order = from_then new.timeline.event new.timeline.turns mid.timeline.event mid.timeline.turns old.timeline.event old.timeline.turns back.0 c.parts.invariant.order;
      quiet = run_more old mid new c.parts.invariant.stands c.part_behind.ensures.stands c.parts.invariant.quiet back.1;
      unread = c.part_behind.ensures.unread ∙ c.parts.invariant.unread;
    }

pub returns-in_default-clause-back : goal.returns-in_default-clause-back
returns-in_default-clause-back g c =
    looked_none c.args.self.now c.parts.self c.args.event c.parts.invariant.stands c.parts.invariant.quiet c.in_default.ensures
