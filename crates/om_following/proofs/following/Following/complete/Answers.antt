use Rattle.om_following.proofs.FollowLemmas.{all_copied_same}
use Rattle.om_report.specs.Harvests.{harvested}
use Rattle.om_following.proofs.following.Following.complete.Goals as goal

pub returns-clause-followed : goal.returns-clause-followed
returns-clause-followed g c = λ start was. c.tell.ensures.followed start (c.take_back-following.ensures.followed start was)

pub returns-clause-brought : goal.returns-clause-brought
returns-clause-brought g c = λ none.
    all_copied_same (harvested c.args.harvests.items) c.take_back-following.result.0.lanes.items c.tell.result.lanes.items c.tell.ensures.copied (c.take_back-following.ensures.all (c.tell.ensures.fault none))
