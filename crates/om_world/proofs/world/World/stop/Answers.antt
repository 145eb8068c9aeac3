use Rattle.std.proofs.Common.{◌∙◌, refl, subst, sym}
use Rattle.om_world.specs.Disk.{IsOnDisk}
use Rattle.om_world.specs.Stopped.{AreCurrent, IsLeft, along}
use Rattle.om_world.specs.World.{IsKnown, WorldState}
use Rattle.om_world.specs.steps.Members.{health_of, sound_in}
use Rattle.om_world.specs.steps.Stopping.{AreReleasedBy}
use Rattle.om_world.proofs.StoppingLemmas.{after_stopped, left_stopped, run_disk, still_current, still_news, stopped_disk, was_stopped}
use Rattle.om_world.proofs.world.World.stop.Goals as goal

pub invariant_of-result : goal.invariant_of-result
invariant_of-result g c =
    let s = g.S.Stable in
    let is = was_stopped s.content (health_of s.is_clean s.failed) s.IsSound _ _ _ c.self.inside.members.items _ _ c.args.self c.self.invariant c.self.view_is
    c.end_all.new.members.items c.end_all.ensures c.self.inside.live.entries refl c.of-manager.result.value c.of-manager.ensures in
    record {
      world = after_stopped s.content (health_of s.is_clean s.failed) s.IsSound _ _ _ c.self.inside.members.items _ _ c.args.self c.self.invariant c.self.view_is
          c.end_all.new.members.items c.end_all.ensures c.self.inside.live.entries refl c.of-manager.result.value c.of-manager.ensures;
      many = c.in_ok-released.ensures.long ∙ c.self.invariant.shape.size;
      released = subst (λ m. AreReleasedBy m c.in_ok-released.released.items) (sym c.of-manager.ensures) c.in_ok-released.ensures.released;
      current = λ yes. still_current c.args.self _ is (c.is_current-current.ensures.current yes);
      news = λ no. still_news c.args.self _ is (c.is_current-current.ensures.news no);
    }

pub returns-clause-left : goal.returns-clause-left
returns-clause-left g c =
    let s = g.S.Stable in
    was_stopped s.content (health_of s.is_clean s.failed) s.IsSound _ _ _ c.self.inside.members.items _ _ c.args.self c.self.invariant c.self.view_is
    c.end_all.new.members.items c.end_all.ensures c.self.inside.live.entries refl c.of-manager.result.value c.of-manager.ensures

pub returns-clause-current : goal.returns-clause-current
returns-clause-current g c = λ current.
    let s = g.S.Stable in
    subst AreCurrent
    (sym (was_stopped s.content (health_of s.is_clean s.failed) s.IsSound _ _ _ c.self.inside.members.items _ _ c.args.self c.self.invariant c.self.view_is
    c.end_all.new.members.items c.end_all.ensures c.self.inside.live.entries refl c.of-manager.result.value c.of-manager.ensures)) current

pub returns-clause-whole : goal.returns-clause-whole
returns-clause-whole g c = λ run left.
    let s = g.S.Stable in
    subst (λ (w : WorldState). IsLeft w run)
    (sym (was_stopped s.content (health_of s.is_clean s.failed) s.IsSound _ _ _ c.self.inside.members.items _ _ c.args.self c.self.invariant c.self.view_is
    c.end_all.new.members.items c.end_all.ensures c.self.inside.live.entries refl c.of-manager.result.value c.of-manager.ensures)) (left_stopped c.args.self run left)

pub returns-clause-disk : goal.returns-clause-disk
returns-clause-disk g c = λ known settled.
    let s = g.S.Stable in
    let is = was_stopped s.content (health_of s.is_clean s.failed) s.IsSound _ _ _ c.self.inside.members.items _ _ c.args.self c.self.invariant c.self.view_is
    c.end_all.new.members.items c.end_all.ensures c.self.inside.live.entries refl c.of-manager.result.value c.of-manager.ensures in
    subst IsOnDisk (sym is) (stopped_disk (sound_in s.IsSound) _ _ c.args.self c.self.invariant c.self.view_is (subst IsKnown is known) settled)

pub returns-clause-between : goal.returns-clause-between
returns-clause-between g c = λ known run left.
    let s = g.S.Stable in
    let is = was_stopped s.content (health_of s.is_clean s.failed) s.IsSound _ _ _ c.self.inside.members.items _ _ c.args.self c.self.invariant c.self.view_is
    c.end_all.new.members.items c.end_all.ensures c.self.inside.live.entries refl c.of-manager.result.value c.of-manager.ensures in
    subst (λ (w : WorldState). IsOnDisk (along w run)) (sym is) (run_disk (sound_in s.IsSound) _ _ c.args.self run c.self.invariant c.self.view_is (subst IsKnown is known) (subst (λ (w : WorldState). IsLeft w run) is left))
