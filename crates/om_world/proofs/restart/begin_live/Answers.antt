use Rattle.std.proofs.Common.{◌∙◌, ap}
use Rattle.om_world.specs.Live.{cut_list}
use Rattle.om_world.proofs.restart.begin_live.Goals as goal

pub returns-clause-live : goal.returns-clause-live
returns-clause-live c =
    c.cut.ensures ∙ ap (cut_list c.args.state.now) (c.before-2.ensures ∙ ap (λ s. s.before) c.restart.ensures)
