use Rattle.om_worker_parts.proofs.manager_link.ManagerLink.withdraw.Goals as goal

pub returns : goal.returns
returns g c = (_, c.withdraw_at.new.board, c.withdraw_at.ensures.sound, c.withdraw_at.ensures.withdrawn)
