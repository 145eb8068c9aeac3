use Rattle.om_worker_parts.proofs.manager_link.ManagerLink.offer_at.Goals as goal

pub returns-clause-offered : goal.returns-clause-offered
returns-clause-offered g c = record { told = c.offer.ensures.told; passed_over = c.offer.ensures.passed_over }
