use Rattle.std.proofs.Common.{◌∙◌, ap, [], map}
use Rattle.om_manager.specs.steps.OutputLog.{LogState}
use Rattle.om_manager.proofs.ManagerLemmas.{first_parts, map-replicate}
use Rattle.om_manager.proofs.manager.Manager.new.Goals as goal

pub invariant_of-result : goal.invariant_of-result
invariant_of-result c = first_parts _ _ _ _ _ c.requires.some c.requires.within c.recovery-last.ensures.sound c.in_ok-records.ensures.state c.in_ok-logs.ensures c.in_ok-starts.ensures c.recovery-last.ensures.state

pub returns-clause-outputs : goal.returns-clause-outputs
returns-clause-outputs c = ap (map (λ (log : LogState). log.held)) c.in_ok-logs.ensures ∙ map-replicate (λ (log : LogState). log.held) c.args.n (record { held = []; limit = 0 })
