use Rattle.std.proofs.Common.{◌++◌, ◌∙◌, List, Some, ap, arith, length, replicate, subst, sym, ◌≡◌, Err, refl, rules}
use Rattle.std.specs.Prelude.{slice_get, slice_index}
use Rattle.om_format.specs.declared.message.Message.{Message}
use Rattle.om_process.specs.Core.{cluster_size}
use Rattle.om_world.specs.Changes.{IsUp}
use Rattle.om_world.specs.World.{WorldState}
use Rattle.om_world.proofs.Resending.{after_frames, frames_stay, resent}
use Rattle.om_world.specs.declared.event.Event.{Event}
use Rattle.om_world.specs.declared.event.Refusal.TheVariants as refusals
use Rattle.om_world.specs.Happened.{Happened}
use Rattle.om_world.specs.steps.Moves.{answered}
use Rattle.om_world.proofs.Framing.{messages_same, zero_at}
use Rattle.om_world.proofs.Keeping.{keeps_by, keeps_seen}
use Rattle.om_world.proofs.NotRunning.{told_not_running}
use Rattle.om_world.proofs.Standing.{core_up}
use Rattle.om_world.proofs.world.World.resend.Goals as goal

pub invariant_of-self : goal.invariant_of-self
invariant_of-self g c = frames_stay _ _ _ _ c.self.invariant c.in_err-append.ensures.items

pub invariant_of-self-2 : goal.invariant_of-self-2
invariant_of-self-2 g c =
    let core = c.in_ok-frames.ensures in
    after_frames _ _ _ c.args.p core.0 (λ to. slice_index (replicate 16 0) to) (cluster_size core.0.now) c.append.new.self.items c.self.invariant (subst (λ (v : WorldState). IsUp v c.args.p) (sym c.self.view_is) c.in_ok-is_up.ensures.up) (subst (λ (v : WorldState). slice_get v.cores c.args.p ≡ Some (Some core.0)) (sym c.self.view_is) core.1)
    (c.in_ok-append.ensures.items ∙ ap (λ (l : List Message). c.self.inside.frames.items ++ l) core.2)

pub returns-in_err-is_up-clause-happened : goal.returns-in_err-is_up-clause-happened
returns-in_err-is_up-clause-happened g c =
    let is : c.from_residual.result ≡ Err c.in_err-is_up.field-0.0 = search rules in
    told_not_running _ _ c.args.p (Event.Resend c.args.p) _ _ (λ n. n) (λ n. n) is c.in_err-is_up.ensures.not_running

pub returns-in_err-is_up-clause-keeps : goal.returns-in_err-is_up-clause-keeps
returns-in_err-is_up-clause-keeps g c = keeps_by _ _ refl refl refl

pub frames_past-requires : goal.frames_past-requires
frames_past-requires g c =
    let core = core_up _ _ _ _ c.args.p c.self.invariant c.self.view_is c.in_ok-is_up.ensures.up in
    (core.0, subst (λ (v : WorldState). slice_get v.cores c.args.p ≡ Some (Some core.0)) c.self.view_is core.1, λ to lt. let none = zero_at 16 to in omega arith)

pub returns-in_err-frames-clause-happened : goal.returns-in_err-frames-clause-happened
returns-in_err-frames-clause-happened g c =
    let is : c.from_residual-in_err-frames.result ≡ Err refusals.Memory = search rules in
    subst (λ r. Happened c.args.self.now (Event.Resend c.args.p) (answered r) c.args.self.now) (sym is) (c.in_ok-is_up.ensures.up, (refl, refl))

pub returns-in_err-frames-clause-keeps : goal.returns-in_err-frames-clause-keeps
returns-in_err-frames-clause-keeps g c = keeps_by _ _ refl refl refl

pub returns-in_err-append-clause-keeps : goal.returns-in_err-append-clause-keeps
returns-in_err-append-clause-keeps g c = keeps_seen _ _ _ c.self.view_is refl refl refl

pub returns-clause-keeps : goal.returns-clause-keeps
returns-clause-keeps g c = keeps_seen _ _ _ c.self.view_is refl refl refl

pub returns-clause-happened : goal.returns-clause-happened
returns-clause-happened g c =
    let f = c.in_ok-frames.ensures in
    let is = f.2 ∙ messages_same f.0 (λ to. slice_index (replicate 16 0) to) (λ to. 0) (cluster_size f.0.now) (zero_at 16) in
    (c.in_ok-is_up.ensures.up, f.0, f.1, c.len-count.ensures ∙ c.in_ok-frames.frames.ok.0 ∙ ap length is, resent _ _ _ _ _ c.self.view_is c.in_ok-append.ensures.items is)
