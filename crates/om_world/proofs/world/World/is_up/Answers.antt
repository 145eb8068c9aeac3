use Rattle.std.proofs.Common.{◌∙◌, ◌<◌, ◌≤◌, refl, subst}
use Rattle.om_world.proofs.Standing.{size_seen}
use Rattle.om_world.proofs.world.World.is_up.Goals as goal

pub returns-then-p-len-clause-not_running : goal.returns-then-p-len-clause-not_running
returns-then-p-len-clause-not_running g c = (subst (λ n. n ≤ c.args.p) (size_seen _ _ _ _ c.self.view_is refl (c.len.ensures ∙ c.self.inside.images.ok.0)) c.if-p-len.true, refl)

pub place-requires : goal.place-requires
place-requires g c = subst (λ n. c.args.p < n) (size_seen _ _ _ _ c.self.view_is refl (c.len.ensures ∙ c.self.inside.images.ok.0)) c.if-p-len.false

pub returns-clause-there : goal.returns-clause-there
returns-clause-there g c = subst (λ n. c.args.p < n) (size_seen _ _ _ _ c.self.view_is refl (c.len.ensures ∙ c.self.inside.images.ok.0)) c.if-p-len.false
