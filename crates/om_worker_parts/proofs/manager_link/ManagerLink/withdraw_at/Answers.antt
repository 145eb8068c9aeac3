use Rattle.om_worker_parts.proofs.manager_link.ManagerLink.withdraw_at.Goals as goal

pub returns-clause-withdrawn : goal.returns-clause-withdrawn
returns-clause-withdrawn g c = record { told = c.withdraw.ensures.told; passed_over = c.withdraw.ensures.passed_over }
