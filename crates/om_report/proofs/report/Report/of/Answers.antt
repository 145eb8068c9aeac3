use Rattle.std.proofs.Common.{sym, subst}
use Rattle.om_report.specs.Released.{AreAllReleased}
use Rattle.om_board.specs.declared.front.Front.{Front}
use Rattle.om_report.proofs.ReleasedLemmas.{all_made, all_released}
use Rattle.om_report.proofs.report.Report.of.Goals as goal

pub returns-clause-released : goal.returns-clause-released
returns-clause-released c =
    subst (λ (f : Front). AreAllReleased f.vec c.in_ok-released_by.field-0.items) (sym c.of.ensures.front)
    (all_released c.args.manager.now c.in_ok-released_by.field-0.items c.in_ok-released_by.ensures.released)

pub returns-clause-made : goal.returns-clause-made
returns-clause-made c = λ programs n made.
    let e = c.in_ok-released_by.ensures in
    all_made programs n c.args.manager.now c.in_ok-released_by.field-0.items c.of.ensures.sound e.long e.released made
