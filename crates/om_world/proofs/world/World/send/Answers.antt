use Rattle.std.proofs.Common.{◌≡◌, ◌++◌, ◌∙◌, List, Some, ap, subst, sym}
use Rattle.std.specs.Prelude.{slice_get, slice_index}
use Rattle.om_format.specs.declared.message.Message.{Message}
use Rattle.om_process.specs.Core.{cluster_size}
use Rattle.om_world.specs.Changes.{IsUp}
use Rattle.om_world.specs.World.{WorldState}
use Rattle.om_world.proofs.Resending.{after_frames}
use Rattle.om_world.proofs.world.World.send.Goals as goal

pub invariant_of-self-2 : goal.invariant_of-self-2
invariant_of-self-2 g c =
    let core = c.in_ok-frames.ensures in
    after_frames _ _ _ c.args.p core.0 (λ to. slice_index c.args.few.now to) (cluster_size core.0.now) c.append.new.self.items c.self.invariant (subst (λ (v : WorldState). IsUp v c.args.p) (sym c.self.view_is) c.requires.up) (subst (λ (v : WorldState). slice_get v.cores c.args.p ≡ Some (Some core.0)) (sym c.self.view_is) core.1)
    (c.in_ok-append.ensures.items ∙ ap (λ (l : List Message). c.self.inside.frames.items ++ l) core.2)

pub frames_past-requires : goal.frames_past-requires
frames_past-requires g c = c.requires.more
