use Rattle.std.proofs.Common.{refl}
use Rattle.om_picture.proofs.LaneLemmas.{wait_turned}
use Rattle.om_picture.proofs.picture.Picture.wait.Goals as goal

pub returns : goal.returns
returns c =
    wait_turned c.add.result _ _ _ c.args.self.now.histories.items c.args.p c.index_mut-history.result.now c.add.new.self _ _ _ _ _
    c.requires c.index_mut-history.ensures.value refl refl refl refl (c.title_of-title.ensures c.args.at) c.add.ensures
