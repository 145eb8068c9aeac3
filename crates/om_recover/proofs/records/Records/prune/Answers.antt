use Rattle.om_recover.proofs.CuttingLemmas.{kept_after_prune}
use Rattle.om_recover.proofs.records.Records.prune.Goals as goal

pub invariant_of-self : goal.invariant_of-self
invariant_of-self c = kept_after_prune _ _ _ _ c.self.invariant c.prune.ensures

pub returns-clause-sound : goal.returns-clause-sound
returns-clause-sound c =
    let kept = kept_after_prune _ _ _ _ c.self.invariant c.prune.ensures in
    record { lawful = kept.lawful; greatest = kept.greatest }
