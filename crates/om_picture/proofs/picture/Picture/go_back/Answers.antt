use Rattle.om_picture.proofs.LaneLemmas.{turned}
use Rattle.om_picture.specs.steps.Adding.{GoesBack}
use Rattle.om_picture.proofs.picture.Picture.go_back.Goals as goal

pub returns : goal.returns
returns c =
    turned (GoesBack c.args.interval) _ _ _ c.args.self.now.histories.items c.args.p c.index_mut-history.result.now c.go_back.new.self
    c.requires c.index_mut-history.ensures.value c.go_back.ensures
