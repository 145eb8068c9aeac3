use Rattle.std.proofs.Common.{◌≡◌, ap, ◌∙◌, subst, map}
use Rattle.om_manager.specs.Outputs.{held_of}
use Rattle.om_manager.specs.steps.OutputLog.{LogState, log_within}
use Rattle.om_manager.proofs.LogLemmas.{log_cut, released_is}
use Rattle.om_manager.proofs.output_log.OutputLog.cut.Goals as goal

pub invariant_of-self : goal.invariant_of-self
invariant_of-self c = log_cut _ _ _ _ c.self.invariant c.truncate.ensures.items

pub returns : goal.returns
returns c = subst (λ (log : LogState). record { held = map held_of c.truncate.new.self.items; limit = c.self.inside.limit } ≡ log_within log) c.self.view_is
    (ap (λ held. record { held = held; limit = c.self.inside.limit }) (ap (map held_of) c.truncate.ensures.items ∙ released_is _ _ _ c.self.invariant))
