use Rattle.om_worker_parts.proofs.manager_link.ManagerLink.wait_at.Goals as goal

pub returns-clause-waited : goal.returns-clause-waited
returns-clause-waited g c = record { told = c.wait.ensures.told; passed_over = c.wait.ensures.passed_over; all = c.wait.ensures.all }
