use Rattle.std.proofs.Common.{◌∙◌, ap, subst, sym}
use Rattle.std.specs.Prelude.{cond}
use Rattle.om_world.specs.Live.{cut_list}
use Rattle.om_world.specs.Restarted.{anew}
use Rattle.om_world.specs.Stopped.{IsLeft, along}
use Rattle.om_world.specs.steps.Members.{health_of}
use Rattle.om_world.specs.steps.Restarting.{left_run}
use Rattle.om_world.proofs.Restarted.{after_anew, was_anew}
use Rattle.om_world.proofs.world.World.begin_anew.Goals as goal

pub invariant_of-self : goal.invariant_of-self
invariant_of-self g c =
    let s = g.S.Stable in let m = c.args.manager in
    let run = cond c.args.current c.self.inside.live.entries c.self.inside.since.before in
    after_anew s.content (health_of s.is_clean s.failed) s.IsSound _ _ _ c.self.inside.members.items _ _ c.args.self.now c.self.invariant c.self.view_is run m c.begin_live.new.live.entries
    (c.begin_live.ensures.live ∙ ap (λ r. cut_list r run) c.recovery.ensures.recovery) c.begin_live.new.since c.begin_live.ensures.since
    c.clear.new.self.items c.clear.ensures.items c.put_down.new.members.items c.put_down.ensures (subst (IsLeft c.args.self.now) (sym (ap (left_run c.args.current) c.self.view_is)) c.requires.left) c.requires.anew

pub returns : goal.returns
returns g c =
    let s = g.S.Stable in let m = c.args.manager in
    let run = cond c.args.current c.self.inside.live.entries c.self.inside.since.before in
    was_anew s.content (health_of s.is_clean s.failed) s.IsSound _ _ _ c.self.inside.members.items _ _ c.args.self.now c.self.invariant c.self.view_is run m c.begin_live.new.live.entries
    (c.begin_live.ensures.live ∙ ap (λ r. cut_list r run) c.recovery.ensures.recovery) c.begin_live.new.since c.begin_live.ensures.since
    c.clear.new.self.items c.clear.ensures.items c.put_down.new.members.items c.put_down.ensures
    ∙ ap (λ run. anew (along c.args.self.now run) m) (ap (left_run c.args.current) c.self.view_is)
