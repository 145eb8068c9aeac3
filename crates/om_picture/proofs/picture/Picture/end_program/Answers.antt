use Rattle.om_picture.proofs.LaneLemmas.{turned}
use Rattle.om_picture.specs.steps.Adding.{Ends}
use Rattle.om_picture.proofs.picture.Picture.end_program.Goals as goal

pub returns-clause-turn : goal.returns-clause-turn
returns-clause-turn c =
    turned (Ends c.args.ended) _ _ _ c.args.self.now.histories.items c.args.p c.index_mut-history.result.now c.end.new.self c.requires
    c.index_mut-history.ensures.value c.end.ensures
