use Rattle.std.proofs.Common.{subst}
use Rattle.om_timeline.specs.steps.Filmed.{IsFilmed}
use Rattle.om_timeline.proofs.tape.Tape.told.Goals as goal

pub returns-clause-filmed : goal.returns-clause-filmed
returns-clause-filmed c = (c.self.invariant.last, subst (λ t. IsFilmed t c.self.invariant.last) c.self.view_is c.self.invariant.filmed)
