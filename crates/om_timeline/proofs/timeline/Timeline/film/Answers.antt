use Rattle.om_timeline.proofs.Keeping.{kept_filmed}
use Rattle.om_timeline.proofs.timeline.Timeline.film.Goals as goal

pub invariant_of-self : goal.invariant_of-self
invariant_of-self c =
    kept_filmed c.film.result c.self.inside.tape c.film.new.self c.self.inside.here.machine c.self.inside.here.own c.self.inside.here.n c.self.inside.at.event c.self.inside.at.turns c.self.inside.stages.items
    c.film.ensures.next c.film.ensures.not_yet c.film.ensures.end c.film.ensures.refused c.self.invariant
