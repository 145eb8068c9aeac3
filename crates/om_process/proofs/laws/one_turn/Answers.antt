use Rattle.std.proofs.Common.{ap}
use Rattle.om_process.specs.Process.{Process, made}
use Rattle.om_process.specs.Turns.{next_move}
use Rattle.om_process.proofs.Runs.{moved_grows, no_turn}
use Rattle.om_process.proofs.Going.{counts_turn, stays_moved}
use Rattle.om_process.proofs.Parts.{keeps_turn}
use Rattle.om_process.proofs.laws.one_turn.Goals as goal

pub returns-clause-no_turn : goal.returns-clause-no_turn
returns-clause-no_turn c = no_turn

pub returns-clause-counts : goal.returns-clause-counts
returns-clause-counts c = counts_turn

pub returns-clause-stays : goal.returns-clause-stays
returns-clause-stays c = λ own n s t turn.
    let stays = stays_moved s t (next_move own n s.machine (made s.queues)) turn in
    (ap (λ (p : Process). p.interval) stays, ap (λ (p : Process). p.vec) stays, ap (λ (p : Process). p.got) stays)

pub returns-clause-grows : goal.returns-clause-grows
returns-clause-grows c = λ own n s t turn. (moved_grows s t (next_move own n s.machine (made s.queues)) turn).1

pub returns-clause-part : goal.returns-clause-part
returns-clause-part c = keeps_turn
