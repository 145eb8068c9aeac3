use Rattle.om_worker_parts.proofs.manager_link.ManagerLink.wait.Goals as goal

pub returns : goal.returns
returns g c = (_, c.wait_at.new.board, c.wait_at.ensures.sound, c.wait_at.ensures.waited)
