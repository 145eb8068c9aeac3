use Rattle.std.proofs.Common.{subst}
use Rattle.om_member.proofs.OutputLemmas.{map_same}
use Rattle.om_take_up.specs.TakenUp.{HasTakenUp}
use Rattle.om_worker_parts.proofs.manager_link.ManagerLink.take_up_at.Goals as goal

pub returns-in-Ok-clause-taken_up : goal.returns-in-Ok-clause-taken_up
returns-in-Ok-clause-taken_up g c =
    subst (λ made. HasTakenUp c.args.locked.now.board.now.manager c.args.self.now.round c.args.self.now.pid c.args.rows.now made c.take_up.new.access.board.now.manager)
    (map_same c.args.outputs.now) c.in-Ok.ensures
