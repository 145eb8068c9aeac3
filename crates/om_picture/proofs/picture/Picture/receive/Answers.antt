use Rattle.om_picture.proofs.LaneLemmas.{turned}
use Rattle.om_picture.specs.steps.Adding.{Receives}
use Rattle.om_picture.proofs.picture.Picture.receive.Goals as goal

pub returns-clause-turn : goal.returns-clause-turn
returns-clause-turn c =
    turned (Receives c.args.interval) _ _ _ c.args.self.now.histories.items c.args.p c.index_mut-history.result.now c.receive.new.self
    c.requires c.index_mut-history.ensures.value c.receive.ensures
