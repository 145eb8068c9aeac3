use Rattle.std.proofs.Common.{◌≡◌}
use Rattle.om_links.proofs.links.Links.drain.Given as goal

abbrev pub invariant-loop : goal.invariant-loop
invariant-loop g l = record {
  ends : l.self.ends ≡ l.fn.self.ends;
  put : l.self.put ≡ l.fn.self.put;
  all : l.self.has_put_all ≡ l.fn.self.has_put_all;
  behind : l.self.is_behind ≡ l.fn.self.is_behind;
}
