use Rattle.std.proofs.Common.{rules, inl, inr, ◌≡◌, ◌++◌, ◌∷◌, [], subst}
use Rattle.om_world.specs.World.{WorldState}
use Rattle.om_check.proofs.Shown.{explored_so}
use Rattle.om_check.proofs.all.show.Goals as goal

pub visit-requires : goal.visit-requires
visit-requires g c =
    explored_so (g.V.Visitor.programs c.args.visitor.now) c.args.trail.events c.args.trail.stage.world c.in-Some.run' c.args.n
    c.requires.way c.requires.led c.requires.all (search rules) (search rules) (search rules)

pub returns-in_ok-visit-in-Some-clause-shown : goal.returns-in_ok-visit-in-Some-clause-shown
returns-in_ok-visit-in-Some-clause-shown g c runs seen =
    let same : c.in-Some.run'.world ≡ c.args.trail.stage.world = search rules in
    inl (subst (λ (w : WorldState). g.V.Visitor.has_seen c.visit.new.self (runs ++ w.live ∷ [])) same (c.in_ok-visit-in-Some.ensures.seen runs seen))

pub returns-in-None-clause-shown : goal.returns-in-None-clause-shown
returns-in-None-clause-shown g c runs seen = inr (seen, search rules)
