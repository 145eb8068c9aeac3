use Rattle.om_process.specs.steps.Pieces.{receipts_of}
use Rattle.om_process.proofs.Runs.{leads_grow, replay_leads}
use Rattle.om_process.proofs.laws.replayed_grows.Goals as goal

pub returns : goal.returns
returns c = λ own n checkpoint t rs replayed. (leads_grow own n (receipts_of rs) checkpoint t (replay_leads own n rs checkpoint t replayed)).1
