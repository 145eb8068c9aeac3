use Rattle.std.proofs.Common.{◌∙◌, ap, sym}
use Rattle.om_picture.specs.Drawing.{LaneState}
use Rattle.om_picture.specs.Fates.{has_loose}
use Rattle.om_picture.proofs.LaneLemmas.{lane_at, turned}
use Rattle.om_picture.specs.steps.Adding.{Stores}
use Rattle.om_picture.proofs.picture.Picture.store.Goals as goal

pub returns-clause-turn : goal.returns-clause-turn
returns-clause-turn c =
    turned (Stores c.args.many) _ _ _ c.args.self.now.histories.items c.args.p c.index_mut-history.result.now c.store.new.self c.requires
    c.index_mut-history.ensures.value c.store.ensures.stores

pub returns-clause-loose : goal.returns-clause-loose
returns-clause-loose c =
    c.store.ensures.loose
    ∙ sym (ap (λ (l : LaneState). has_loose l.progress)
    (lane_at c.args.self.now.histories.items c.args.p c.index_mut-history.result.now c.requires c.index_mut-history.ensures.value))
