use Rattle.om_worker_parts.proofs.manager_link.ManagerLink.join.Goals as goal

pub returns-clause-joined : goal.returns-clause-joined
returns-clause-joined g c = (_, c.join_at.new.locked.board.now, c.in_ok-joined.ensures.sound, c.in_ok-joined.ensures.joined)
