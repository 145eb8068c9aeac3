use Rattle.std.proofs.Common.{◌≡◌}
use Rattle.std.specs.Prelude.{not}
use Rattle.om_links.proofs.links.Links.put_to.Given as goal

abbrev pub invariant-loop-k : goal.invariant-loop-k
invariant-loop-k g l = record {
  ends : l.self.ends ≡ l.fn.self.ends;
  taken : l.self.taken ≡ l.fn.self.taken;
  behind : l.self.is_behind ≡ not l.self.has_put_all;
}
