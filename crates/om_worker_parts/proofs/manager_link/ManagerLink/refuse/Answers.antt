use Rattle.om_worker_parts.proofs.manager_link.ManagerLink.refuse.Goals as goal

pub returns : goal.returns
returns g c = (_, c.refuse_at.new.board, c.refuse_at.ensures.sound, c.refuse_at.ensures.refused)
