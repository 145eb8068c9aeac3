use Rattle.om_worker_parts.proofs.ActLemmas.{found_where}
use Rattle.om_worker_parts.proofs.manager_link.ManagerLink.meet.Goals as goal

pub meet_at-requires-clause-checkpoint : goal.meet_at-requires-clause-checkpoint
meet_at-requires-clause-checkpoint g c = found_where _ _ _ _ c.core.ensures.core c.pending.ensures c.have_checkpoint-has_checkpoint.ensures

pub returns-clause-met : goal.returns-clause-met
returns-clause-met g c = (_, c.meet_at.new.locked.board.now, c.in_ok-met.ensures.sound, c.in_ok-met.ensures.met)
