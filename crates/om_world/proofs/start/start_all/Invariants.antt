use Rattle.std.proofs.Common.{length, map}
use Rattle.om_world.specs.World.{program_of}
use Rattle.om_world.specs.steps.Starting.{AreSeated}
use Rattle.om_world.proofs.start.start_all.Given as goal

abbrev pub invariant-loop-p : goal.invariant-loop-p
invariant-loop-p g l = AreSeated g.S.Stable.content g.S.Stable.is_clean g.S.Stable.IsSound (map program_of l.images) (length l.images) (length l.yielded) l.fn.stores.items l.members.items
