use Rattle.om_board.specs.Fronts.{front_of}
use Rattle.om_report.proofs.HarvestLemmas.{stay_released}
use Rattle.om_report.proofs.ReleasedLemmas.{released_at, released_made}
use Rattle.om_report.proofs.harvest.Harvest.of.Goals as goal

pub invariant_of-result : goal.invariant_of-result
invariant_of-result g c =
    let m = c.args.manager.now in
    let p = c.args.pid in
    let outputs = c.in_ok-outputs.outputs.items in
    let e = c.in_ok-outputs.ensures in
    record {
      stay = stay_released c.args.pass (front_of m) p outputs c.requires.seen (released_at m p outputs e.held e.numbered);
      made = λ clean. released_made g.K.Naming.programs g.K.Naming.cell.n m p outputs c.recovery.ensures.sound c.requires.known e.held e.numbered (c.requires.made clean);
    }
