use Rattle.std.proofs.Common.{refl}
use Rattle.om_process.specs.Process.{delivered, started}
use Rattle.om_process.proofs.Runs.{leads_apart, leads_more, leads_then}
use Rattle.om_process.proofs.laws.runs_join_and_part.Goals as goal

pub returns-clause-joined : goal.returns-clause-joined
returns-clause-joined c = leads_then

pub returns-clause-apart : goal.returns-clause-apart
returns-clause-apart c = leads_apart

pub returns-clause-one_more : goal.returns-clause-one_more
returns-clause-one_more c = λ program own n h r w reaches waits.
    (delivered own w r, leads_more own n h reaches.0 (started program n) w r reaches.1 waits, refl)
