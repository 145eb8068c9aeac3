use Rattle.std.proofs.Common.{◌≡◌}
use Rattle.om_links.proofs.links.Links.take.Given as goal

abbrev pub invariant-loop : goal.invariant-loop
invariant-loop g l = l.self ≡ l.fn.self
