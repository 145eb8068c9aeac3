-- Where a process stands: its number, and its core where it is up.
use Rattle.std.proofs.Common.{◌≡◌, ℕ, ◌<◌, List, length, map, Some, sym, ap, subst, arith, ◌∙◌}
use Rattle.std.specs.Prelude.{slice_get}
use Rattle.om_interval.specs.declared.pid.TheConstants.{MAX_PROCESSES}
use Rattle.om_manager.specs.State.{process_count}
use Rattle.om_world.specs.declared.process_state.ProcessState.{ProcessState}
use Rattle.om_world.specs.Changes.{IsUp}
use Rattle.om_process.specs.Core.{CoreState}
use Rattle.om_process.specs.declared.image.Image.{Image}
use Rattle.om_world.specs.World.{WorldState, program_of}
use Rattle.om_world.specs.steps.Moves.{HasCore}
use Rattle.om_world.specs.steps.Sound.{HasShape, IsCoreOf, IsWorld}
use Rattle.om_world.proofs.Lists.{inside, length-map}

-- a core that is seen is the core of its process
pub core_of : {S : Type 0} (IsSound : S → Type 0) (stores : List S) (w v : WorldState) (p : ℕ) (core : CoreState) → IsWorld IsSound stores w → w ≡ v
    → slice_get v.cores p ≡ Some (Some core) → IsCoreOf (length v.programs) p core
core_of IsSound stores w v p core is e at = (subst (λ (x : WorldState). HasShape x) e is.shape).own p core at

-- how many processes are seen is how many images there are
pub size_seen : (images : List Image) (w v : WorldState) (n : ℕ) → w ≡ v → w.programs ≡ map program_of images → n ≡ length images → n ≡ length v.programs
size_seen images w v n e is long = long ∙ sym (length-map program_of images) ∙ ap length (sym is ∙ ap (λ (x : WorldState). x.programs) e)

-- what is seen of a world is what its parts are
module _ {S : Type 0} (IsSound : S → Type 0) (xs : List S) (w v : WorldState) (p : ℕ) (i : IsWorld IsSound xs w) (e : w ≡ v) where
  -- there is such a process
  module _ (within : p < length v.programs) where
    here : p < length w.programs
    here = subst (λ (x : WorldState). p < length x.programs) (sym e) within

    pub few : p < MAX_PROCESSES
    few = let lt = here in let le = i.shape.few in omega arith

    pub known : p < process_count w.manager
    known = subst (λ n. p < n) (sym i.shape.size) here

  -- who has a place is there
  pub there_at : (place : ProcessState) → slice_get v.places p ≡ Some place → p < length v.programs
  there_at place at =
      let lt = inside w.places p place (subst (λ (x : WorldState). slice_get x.places p ≡ Some place) (sym e) at) in
      subst (λ (x : WorldState). p < length x.programs) e (subst (λ n. p < n) i.shape.places lt)

  -- the process is up
  pub core_up : IsUp v p → HasCore w.cores p
  core_up up = i.shape.there p (subst (λ (x : WorldState). IsUp x p) (sym e) up)
