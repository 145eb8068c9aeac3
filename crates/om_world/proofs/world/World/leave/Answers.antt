use Rattle.std.proofs.Common.{◌∙◌, Some, ap, refl, sym}
use Rattle.om_world.proofs.Declared.{in_undeclared}
use Rattle.om_world.proofs.Lists.{once}
use Rattle.om_world.proofs.world.World.leave.Goals as goal

pub place-requires : goal.place-requires
place-requires g c = c.requires

pub take_down-requires-clause-there : goal.take_down-requires-clause-there
take_down-requires-clause-there g c = c.requires

pub take_down-requires-clause-undeclared : goal.take_down-requires-clause-undeclared
take_down-requires-clause-undeclared g c = in_undeclared _ (c.place.ensures ∙ ap Some c.in-In.is)

pub returns-in-In : goal.returns-in-In
returns-in-In g c = (λ joined. c.take_down.ensures, λ other. absurd (other (c.place.ensures ∙ ap Some c.in-In.is)))

pub returns-in_default : goal.returns-in_default
returns-in_default g c = (λ joined. absurd (c.in_default.not-In (once _ _ (sym c.place.ensures ∙ joined))), λ other. refl)
