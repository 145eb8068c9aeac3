use Rattle.std.proofs.Common.{subst}
use Rattle.std.specs.Prelude.{slice_index}
use Rattle.om_board.specs.Fronts.{front_of}
use Rattle.om_report.specs.Released.{AreMade, AreReleased}
use Rattle.om_report.specs.Harvests.{HarvestState}
use Rattle.om_report.proofs.harvest.Harvest.met.Goals as goal

pub returns-clause-released : goal.returns-clause-released
returns-clause-released g c =
    let board = c.args.board.now in
    let outputs = c.self.inside.outputs.items in
    subst (λ (h : HarvestState). AreReleased (slice_index board.manager.recovery h.own) outputs) c.self.view_is
    (c.self.invariant.stay board.posted (front_of board.manager) c.meet.ensures.behind c.requires.posted c.requires.last)

pub returns-clause-made : goal.returns-clause-made
returns-clause-made g c = λ clean.
    let outputs = c.self.inside.outputs.items in
    subst (λ (h : HarvestState). AreMade g.K.Naming.programs g.K.Naming.cell.n h.own outputs) c.self.view_is (c.self.invariant.made clean)
