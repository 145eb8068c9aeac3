use Rattle.om_board.proofs.FrontLemmas.{one_front, stands_in}
use Rattle.om_board.proofs.laws.each_version_has_one_front.Goals as goal

pub returns : goal.returns
returns c board one other a b posted begins begins' here there same =
    one_front board a b posted (stands_in one board a begins here) (stands_in other board b begins' there) same
