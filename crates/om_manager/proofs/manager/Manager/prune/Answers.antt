use Rattle.std.proofs.Common.{rules}
use Rattle.om_manager.specs.steps.Parts.{AreParts}
use Rattle.om_manager.proofs.ManagerLemmas.{whole}
use Rattle.om_manager.proofs.manager.Manager.prune.Goals as goal

pub returns-clause-sound : goal.returns-clause-sound
returns-clause-sound c =
    let i = c.self.inside in
    let parts : AreParts c.prune.new.self i.logs.items i.starts i.round i.gathering i.last i.backs i.version = search rules in
    whole _ _ _ _ _ _ _ _ parts
