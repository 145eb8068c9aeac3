use Rattle.std.proofs.Common.{◌≡◌, length}
use Rattle.om_links.specs.Dropping.{AreAllOrNone}
use Rattle.om_links.proofs.links.Links.bounds_of_ended.Given as goal

abbrev pub invariant-loop-to : goal.invariant-loop-to
invariant-loop-to l = record { places : length l.got ≡ l.self.ends.n; whole : AreAllOrNone l.got }
