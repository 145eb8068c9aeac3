use Rattle.om_check.proofs.AtRest.{stuck_over, whole_over}
use Rattle.om_check.proofs.laws.runs_end_over.Goals as goal

pub returns-clause-whole : goal.returns-clause-whole
returns-clause-whole c = whole_over

pub returns-clause-stuck : goal.returns-clause-stuck
returns-clause-stuck c = stuck_over
