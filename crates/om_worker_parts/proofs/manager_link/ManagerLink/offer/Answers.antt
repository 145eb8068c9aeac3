use Rattle.om_worker_parts.proofs.manager_link.ManagerLink.offer.Goals as goal

pub returns : goal.returns
returns g c = (_, c.offer_at.new.board, c.offer_at.ensures.sound, c.offer_at.ensures.offered)
