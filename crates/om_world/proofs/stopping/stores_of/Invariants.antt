use Rattle.std.proofs.Common.{◌≡◌, ◌++◌, map}
use Rattle.om_world.specs.steps.Members.{store_in}
use Rattle.om_world.proofs.stopping.stores_of.Given as goal

abbrev pub invariant-loop-member : goal.invariant-loop-member
invariant-loop-member g l = l.stores.items ++ map store_in l.member-iterator.rest.items ≡ map store_in l.fn.members.items
