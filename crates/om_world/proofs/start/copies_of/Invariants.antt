use Rattle.std.proofs.Common.{◌≡◌, map, take}
use Rattle.om_world.specs.World.{program_of}
use Rattle.om_world.proofs.start.copies_of.Given as goal

abbrev pub invariant-loop-image : goal.invariant-loop-image
invariant-loop-image l = map program_of l.copies.items ≡ map program_of (take l.image-index l.images)
