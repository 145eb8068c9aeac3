use Rattle.om_check.proofs.OneRun.{rests, stuck_rests}
use Rattle.om_check.proofs.laws.runs_rest.Goals as goal

pub returns-clause-whole : goal.returns-clause-whole
returns-clause-whole c = rests

pub returns-clause-stuck : goal.returns-clause-stuck
returns-clause-stuck c = stuck_rests
