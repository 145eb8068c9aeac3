use Rattle.om_stored_timeline.proofs.Resting.{rest_more}
use Rattle.om_stored_timeline.proofs.following.Follower.go_on.Goals as goal

pub returns-clause-rest : goal.returns-clause-rest
returns-clause-rest c = λ m gone has.
    rest_more c.args.self.now.alone.own c.args.self.now.alone.n m c.args.self.now.alone.machine c.go_while.new.self.machine c.args.self.now.done c.go_while.result gone has
    c.go_while.ensures.turns c.go_while.ensures.taken c.go_while.ensures.no_more
