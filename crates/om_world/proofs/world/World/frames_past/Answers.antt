use Rattle.std.proofs.Common.{◌<◌, ◌≤◌, ◌∙◌, ℕ, length, subst, sym}
use Rattle.std.specs.Prelude.{slice_index}
use Rattle.om_process.specs.Core.{CoreState, cluster_size}
use Rattle.om_process.specs.Frames.{messages_to}
use Rattle.om_world.specs.steps.Members.{health_of}
use Rattle.om_world.proofs.Lists.{lent_at, once}
use Rattle.om_world.proofs.Framing.{frames_here}
use Rattle.om_world.proofs.Seats.{core_at, core_here, no_core_at}
use Rattle.om_world.proofs.world.World.frames_past.Goals as goal

pub index-member-requires : goal.index-member-requires
index-member-requires g c = subst (λ n. c.args.p < n) (sym c.self.inside.members.ok.0) (core_here g.S.Stable.content (health_of g.S.Stable.is_clean g.S.Stable.failed) g.S.Stable.IsSound _ _ _ _ _ _ c.args.p _ _ c.self.view_is c.requires.1)

pub frames_behind-requires : goal.frames_behind-requires
frames_behind-requires g c =
    let at = lent_at _ c.args.p _ (core_here g.S.Stable.content (health_of g.S.Stable.is_clean g.S.Stable.failed) g.S.Stable.IsSound _ _ _ _ _ _ c.args.p _ _ c.self.view_is c.requires.1) c.index-member.ensures in
    let there = core_at g.S.Stable.content (health_of g.S.Stable.is_clean g.S.Stable.failed) g.S.Stable.IsSound _ _ _ _ _ _ c.args.p _ at _ c.in-Some.core.now c.self.view_is c.in-Some.ensures.some in
    subst (λ (core : CoreState). (to : ℕ) → to < cluster_size core.now → slice_index c.args.few.now to ≤ length (messages_to core to).entries) (once _ _ (once _ _ (sym c.requires.1 ∙ there))) c.requires.2

pub returns-in-Some : goal.returns-in-Some
returns-in-Some g c =
    let at = lent_at _ c.args.p _ (core_here g.S.Stable.content (health_of g.S.Stable.is_clean g.S.Stable.failed) g.S.Stable.IsSound _ _ _ _ _ _ c.args.p _ _ c.self.view_is c.requires.1) c.index-member.ensures in
    let there = core_at g.S.Stable.content (health_of g.S.Stable.is_clean g.S.Stable.failed) g.S.Stable.IsSound _ _ _ _ _ _ c.args.p _ at _ c.in-Some.core.now c.self.view_is c.in-Some.ensures.some in
    frames_here _ c.args.p c.in-Some.core.now c.args.few.now c.frames_behind.result there c.frames_behind.ensures

pub returns-in-None : goal.returns-in-None
returns-in-None g c =
    let at = lent_at _ c.args.p _ (core_here g.S.Stable.content (health_of g.S.Stable.is_clean g.S.Stable.failed) g.S.Stable.IsSound _ _ _ _ _ _ c.args.p _ _ c.self.view_is c.requires.1) c.index-member.ensures in
    absurd (no_core_at g.S.Stable.content (health_of g.S.Stable.is_clean g.S.Stable.failed) g.S.Stable.IsSound _ _ _ _ _ _ c.args.p _ at _ c.requires.0 c.self.view_is c.in-None.ensures.none c.requires.1)
