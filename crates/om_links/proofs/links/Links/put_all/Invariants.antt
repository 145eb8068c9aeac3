use Rattle.std.proofs.Common.{◌≡◌}
use Rattle.std.specs.Prelude.{not}
use Rattle.om_links.proofs.links.Links.put_all.Given as goal

abbrev pub invariant-loop-to : goal.invariant-loop-to
invariant-loop-to g l = record {
  ends : l.self.ends ≡ l.fn.self.ends;
  taken : l.self.taken ≡ l.fn.self.taken;
  behind : l.self.is_behind ≡ not l.self.has_put_all;
}
