use Rattle.std.proofs.Common.{◌≡◌, ◌∙◌, ap, false, refl, sym}
use Rattle.om_world.specs.Stopped.{IsLeft}
use Rattle.om_world.specs.World.{WorldState}
use Rattle.om_world.proofs.world.World.settled.Goals as goal

pub returns-then-is_current-clause-left : goal.returns-then-is_current-clause-left
returns-then-is_current-clause-left g c = IsLeft.current (c.is_current.ensures.current c.if-is_current.true) refl

pub returns-clause-left : goal.returns-clause-left
returns-clause-left g c =
    let news = c.is_current.ensures.news c.if-is_current.false in
    let free : c.args.self.now.since.stored ≡ false = sym (ap (λ (w : WorldState). w.since.stored) c.self.view_is) ∙ sym c.has_stored.ensures ∙ c.if-has_stored.false in
    IsLeft.between news.0 news.1 news.2 free refl
