use Rattle.om_packets.proofs.ReadsBack.{reads_back}
use Rattle.om_packets.proofs.laws.reads_back.Goals as goal

pub returns : goal.returns
returns c = reads_back
