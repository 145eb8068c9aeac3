use Rattle.std.proofs.Common.{◌≡◌, map}
use Rattle.om_process.specs.Images.{program_of}
use Rattle.om_check.specs.steps.Walks.{AreSeenOrAhead}
use Rattle.om_check.proofs.all.explore_all.Given as goal

abbrev pub invariant-loop : goal.invariant-loop
invariant-loop g l = record {
  seen : AreSeenOrAhead (g.V.Visitor.has_seen l.visitor) (map program_of l.images) l.choices.items;
  programs : g.V.Visitor.programs l.visitor ≡ g.V.Visitor.programs l.fn.visitor;
}
