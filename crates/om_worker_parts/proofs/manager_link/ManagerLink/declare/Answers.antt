use Rattle.om_worker_parts.proofs.manager_link.ManagerLink.declare.Goals as goal

pub returns-clause-declared : goal.returns-clause-declared
returns-clause-declared g c = (_, c.declare_at.new.board, c.in_ok-pass.ensures.sound, c.in_ok-pass.ensures.declared)
