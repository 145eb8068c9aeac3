use Rattle.om_picture.proofs.LaneLemmas.{turned}
use Rattle.om_picture.specs.steps.Adding.{Raises}
use Rattle.om_picture.proofs.picture.Picture.learn.Goals as goal

pub returns : goal.returns
returns c =
    turned (Raises c.args.place) _ _ _ c.args.self.now.histories.items c.args.p c.index_mut-history.result.now c.reach.new.self c.requires
    c.index_mut-history.ensures.value c.reach.ensures
