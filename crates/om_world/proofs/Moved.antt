-- What each move of the world keeps.
use Rattle.std.proofs.Common.{ℕ, List, Option, Some, refl, sym, ap, ◌∙◌, subst, set}
use Rattle.om_process.specs.Core.{CoreState, with_now}
use Rattle.om_world.specs.World.{WorldState}
use Rattle.om_world.specs.steps.Moves.{TakesTurnsAt}
use Rattle.om_world.specs.steps.Sound.{IsWorld}
use Rattle.om_world.proofs.Kept.{remade, shape_core, sound_turns}

pub after_turns : {S : Type 0} (IsSound : S → Type 0) (xs : List S) (w : WorldState) (p fuel : ℕ) (cs : List (Option CoreState)) → IsWorld IsSound xs w → TakesTurnsAt w.cores p fuel cs
    → IsWorld IsSound xs (remade w w.live w.frames cs w.manager w.contents w.health)
after_turns IsSound xs w p fuel cs i g = subst (λ x. IsWorld IsSound xs (remade w w.live w.frames x w.manager w.contents w.health)) (sym (g.cores ∙ ap (λ (d : CoreState). set w.cores p (Some d)) g.rest)) (record {
  shape = shape_core w p g.before (with_now g.before g.after.now) w.live w.frames w.manager w.contents w.health i.shape g.there refl g.size refl i.shape.manager refl;
  clean = λ all. let s = i.clean all in (s.0, sound_turns w p g.turns.0 g.before g.after.now i.shape s.1 g.there g.turns.2);
  between = i.between;
})
