use Rattle.std.proofs.Common.{◌≡◌, ap, ◌∙◌, subst, map, take}
use Rattle.om_manager.specs.Outputs.{held_of, within}
use Rattle.om_manager.specs.steps.OutputLog.{LogState}
use Rattle.om_manager.proofs.LogLemmas.{released_is}
use Rattle.om_manager.proofs.output_log.OutputLog.released.Goals as goal

pub returns-clause-outputs : goal.returns-clause-outputs
returns-clause-outputs c = subst (λ (log : LogState). map held_of (take c.self.inside.released c.deref.result.now) ≡ within log.held log.limit) c.self.view_is
    (ap (λ items. map held_of (take c.self.inside.released items)) c.deref.ensures.value ∙ released_is _ _ _ c.self.invariant)
