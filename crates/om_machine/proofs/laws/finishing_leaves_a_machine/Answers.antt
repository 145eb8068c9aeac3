use Rattle.om_machine.proofs.Lasting.{word_lasts, who_lasts, receive_lasts}
use Rattle.om_machine.proofs.laws.finishing_leaves_a_machine.Goals as goal

pub returns : goal.returns
returns c = record { word = word_lasts; who = who_lasts; receive = receive_lasts }
