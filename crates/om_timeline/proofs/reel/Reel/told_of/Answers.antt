use Rattle.std.proofs.Common.{IfSome, subst, sym}
use Rattle.om_world.specs.World.{WorldState}
use Rattle.om_timeline.specs.steps.Filmed.{IsFilmed}
use Rattle.om_timeline.specs.steps.Reels.{ReelState, reel_of, tape_from}
use Rattle.om_timeline.proofs.reel.Reel.told_of.Goals as goal

abbrev IsOfWorld : ReelState → Type 0
IsOfWorld r = IfSome r.begun (λ begun. (last : WorldState) × IsFilmed (tape_from r begun) last)

pub returns-in-Played : goal.returns-in-Played
returns-in-Played c =
    subst IsOfWorld c.self.view_is (subst (λ s. IsOfWorld (reel_of s)) (sym c.in-Played.is) c.told.ensures.filmed)
