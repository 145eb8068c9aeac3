use Rattle.std.proofs.Common.{◌≡◌, map}
use Rattle.om_manager.specs.Outputs.{held_of}
use Rattle.om_following.specs.steps.Lanes.{IsMore}
use Rattle.om_following.proofs.following.add_new.Given as goal

abbrev pub invariant-loop-i : goal.invariant-loop-i
invariant-loop-i l = record {
  at : l.lane.copied ≡ l.i;
  more : IsMore (map held_of l.released) l.fn.lane l.lane;
}
