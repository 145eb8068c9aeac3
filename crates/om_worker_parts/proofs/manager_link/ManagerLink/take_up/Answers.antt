use Rattle.om_worker_parts.proofs.manager_link.ManagerLink.take_up.Goals as goal

pub returns : goal.returns
returns g c = (_, c.take_up_at.new.locked.board.now, c.in_ok-take_up_at.ensures.sound, c.in_ok-take_up_at.ensures.taken_up)
