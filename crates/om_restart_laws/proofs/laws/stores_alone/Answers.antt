use Rattle.om_restart_laws.proofs.Alone.{are_left, stands_over, starts_over}
use Rattle.om_restart_laws.proofs.laws.stores_alone.Goals as goal

pub returns-clause-stands : goal.returns-clause-stands
returns-clause-stands c = stands_over

pub returns-clause-left : goal.returns-clause-left
returns-clause-left c = are_left

pub returns-clause-event : goal.returns-clause-event
returns-clause-event c = starts_over
