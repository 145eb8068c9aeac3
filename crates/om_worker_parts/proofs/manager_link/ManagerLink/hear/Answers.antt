use Rattle.om_worker_parts.proofs.manager_link.ManagerLink.hear.Goals as goal

pub returns-clause-heard : goal.returns-clause-heard
returns-clause-heard g c = (_, _, c.in_ok-heard.ensures.sound, (c.in_ok-heard.ensures.heard, c.in_ok-heard.ensures.board))
