use Rattle.om_following.proofs.following.Following.look.Goals as goal

pub returns-clause-followed : goal.returns-clause-followed
returns-clause-followed g c = λ start was. c.tell.ensures.followed start (c.take_in-following.ensures.followed start was)
