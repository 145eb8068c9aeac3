use Rattle.std.proofs.Common.{◌∙◌, ap}
use Rattle.om_world.specs.Live.{cut_list}
use Rattle.om_world.specs.steps.Members.{health_of}
use Rattle.om_world.proofs.Restarted.{after_anew, was_anew}
use Rattle.om_world.proofs.TakingUp.{left_chosen}
use Rattle.om_world.proofs.stopped.Stopped.into_world.Goals as goal

pub invariant_of-result : goal.invariant_of-result
invariant_of-result g c =
    let s = g.S.Stable in let m = c.args.manager in let run = c.run_of-run.result.entries in
    let left = left_chosen _ c.args.self c.self.inside.current run c.self.view_is c.self.invariant.current c.self.invariant.news c.requires.whole c.run_of-run.ensures in
    after_anew s.content (health_of s.is_clean s.failed) s.IsSound _ _ _ c.self.inside.members.items _ _ c.args.self c.self.invariant.world c.self.view_is run m c.cut.result.entries
    (c.cut.ensures ∙ ap (λ r. cut_list r run) c.recovery.ensures.recovery) c.at.result c.at.ensures
    c.new.result.items c.new.ensures.items c.put_down.new.members.items c.put_down.ensures left c.requires.anew

pub returns : goal.returns
returns g c =
    let s = g.S.Stable in let m = c.args.manager in let run = c.run_of-run.result.entries in
    let left = left_chosen _ c.args.self c.self.inside.current run c.self.view_is c.self.invariant.current c.self.invariant.news c.requires.whole c.run_of-run.ensures in (
      run,
      left,
      was_anew s.content (health_of s.is_clean s.failed) s.IsSound _ _ _ c.self.inside.members.items _ _ c.args.self c.self.invariant.world c.self.view_is run m c.cut.result.entries
          (c.cut.ensures ∙ ap (λ r. cut_list r run) c.recovery.ensures.recovery) c.at.result c.at.ensures
          c.new.result.items c.new.ensures.items c.put_down.new.members.items c.put_down.ensures,
    )
