-- A world whose process came back, or did not, over its stores.
use Rattle.std.proofs.Common.{◌≡◌, ℕ, ◌<◌, List, length, map, set, Option, Some, true, Result, Ok, Err, refl, sym, ap, ◌∙◌, subst, length-set}
use Rattle.std.specs.List.{AllByRecursion}
use Rattle.std.specs.Prelude.{slice_get, slice_index}
use Rattle.om_stable.specs.Content.{Content}
use Rattle.om_process.specs.declared.replay.ReplayFault.{ReplayFault}
use Rattle.om_process.specs.declared.replay.ReplayFault.TheVariants.{Fault}
use Rattle.om_process.specs.Core.{CoreState}
use Rattle.om_process.specs.Resumes.{resumed}
use Rattle.om_process.specs.Stored.{CanReplay, the_process}
use Rattle.om_world.specs.declared.process_state.ProcessState.{ProcessState}
use Rattle.om_world.specs.Failures.{HasNews, IsToGoOn}
use Rattle.om_world.specs.World.{Health, WorldState, IsKnown, all_clean}
use Rattle.om_world.specs.steps.Moves.{IsCalled}
use Rattle.om_world.specs.steps.Returning.{IsBackIn, IsRolledBack, KnowsRound, Returns}
use Rattle.om_world.specs.steps.Sound.{IsBetween, IsWorld, Sound, before_of}
use Rattle.om_world.proofs.Between.{between_cut}
use Rattle.om_world.proofs.FailureCounts.{called_counts, counted}
use Rattle.om_world.proofs.Gaining.{sound_clean}
use Rattle.om_world.proofs.Kept.{remade, shape_same}
use Rattle.om_world.proofs.Lists.{clean_before, length-map, map_at, map_set, sound_at, sound_set}
use Rattle.om_world.proofs.Noting.{over}
use Rattle.om_world.proofs.Recording.{set_back}
use Rattle.om_world.proofs.Returning.{back_interval, can_replay, come_back, shape_back, sound_back, sound_on}

-- the world in which a process is up, and knows this round
abbrev pub up_as : WorldState → ℕ → List (Option CoreState) → ℕ → List Content → List Health → WorldState
up_as w p cores round contents health = record {
  programs = w.programs;
  live = w.live;
  frames = w.frames;
  cores = cores;
  places = set w.places p ProcessState.Up;
  rounds = set w.rounds p round;
  manager = w.manager;
  contents = contents;
  health = health;
  origins = w.origins;
  since = w.since;
}

-- ---- it went on as it was
pub after_on : {S : Type 0} (IsSound : S → Type 0) (xs : List S) (w : WorldState) (p round : ℕ) (cores : List (Option CoreState)) → IsWorld IsSound xs w → p < length w.programs → IsToGoOn w p → KnowsRound w.cores p w.manager cores → round ≡ w.manager.round
    → IsWorld IsSound xs (up_as w p cores round w.contents w.health)
after_on IsSound xs w p round cores i lt due knows is =
    let c = knows.0 in
    let o = i.shape.own p c knows.1 in
    let d = resumed c w.manager.round w.manager.starts in
    subst (λ r. IsWorld IsSound xs (up_as w p cores r w.contents w.health)) (sym is)
    (subst (λ l. IsWorld IsSound xs (up_as w p l w.manager.round w.contents w.health)) (sym knows.2) (record {
      shape = shape_back w p d w.contents w.health i.shape lt o.own o.size refl;
      clean = λ known. let s = i.clean known in (s.0, sound_on w p c i.shape s.1 lt due knows.1);
      between = i.between;
    }))

-- ---- its store was called
-- a replay failed with its store
abbrev pub IsFault : Result CoreState ReplayFault → Type 0
IsFault answer = answer ≡ Err Fault

-- what is known where all stores are clean after the call
record Called {S : Type 0} (content : S → Content) (health : S → Health) (IsSound : S → Type 0) (w : WorldState) (p : ℕ) (xs ys : List S) (before after : S) (Did : Content → Content → Type 0) : Type 0 where
  known : IsKnown (over content health w xs w.cores)
  sound : Sound (over content health w xs w.cores)
  stores : AllByRecursion IsSound ys
  there : slice_get (map content xs) p ≡ Some (content before)
  contents : map content ys ≡ set (map content xs) p (content after)
  did : Did (content before) (content after)

called : {S Failed : Type 0} (content : S → Content) (health : S → Health) (IsSound : S → Type 0) (w : WorldState) (p : ℕ) (xs ys : List S) (Did : Content → Content → Type 0) → IsWorld IsSound xs (over content health w xs w.cores) → (k : IsCalled content health IsSound Failed xs ys p Did) → IsKnown (over content health w ys w.cores)
    → Called content health IsSound w p xs ys k.before k.after Did
called content health IsSound w p xs ys Did i k all =
    let before = clean_before health xs p k.before k.after k.there k.clean (subst (λ zs. all_clean (map health zs) ≡ true) k.stores all.1) in
    let s = i.clean (all.0, before.0) in
    let was = sound_at IsSound xs p k.before s.0 k.there in
    record {
      known = (all.0, before.0);
      sound = s.1;
      stores = subst (AllByRecursion IsSound) (sym k.stores) (sound_set IsSound xs p k.after s.0 (k.sound before.1 was));
      there = map_at content xs p k.before k.there;
      contents = ap (map content) k.stores ∙ sym (map_set content xs p k.after);
      did = k.did before.1 was;
    }

was_clean : {S Failed : Type 0} (content : S → Content) (health : S → Health) (IsSound : S → Type 0) (p : ℕ) (xs ys : List S) (Did : Content → Content → Type 0) → IsCalled content health IsSound Failed xs ys p Did → all_clean (map health ys) ≡ true → all_clean (map health xs) ≡ true
was_clean content health IsSound p xs ys Did k all = (clean_before health xs p k.before k.after k.there k.clean (subst (λ zs. all_clean (map health zs) ≡ true) k.stores all)).0

as_long : {S Failed : Type 0} (content : S → Content) (health : S → Health) (IsSound : S → Type 0) (p : ℕ) (xs ys : List S) (Did : Content → Content → Type 0) → IsCalled content health IsSound Failed xs ys p Did → length (map content ys) ≡ length (map content xs)
as_long content health IsSound p xs ys Did k = length-map content ys ∙ ap length k.stores ∙ length-set xs p k.after ∙ sym (length-map content xs)

-- ---- it came back
pub after_back : {S : Type 0} (content : S → Content) (health : S → Health) (IsSound : S → Type 0) (w : WorldState) (p round : ℕ) (core : CoreState) (xs ys : List S) → IsWorld IsSound xs (over content health w xs w.cores) → p < length w.programs → HasNews w p → IsBackIn w.manager p core
    → IsCalled content health IsSound (IsFault (Ok core)) xs ys p (IsRolledBack w.manager p (Ok core)) → round ≡ w.manager.round → IsWorld IsSound ys (up_as w p (set w.cores p (Some core)) round (map content ys) (map health ys))
after_back content health IsSound w p round core xs ys i lt news b k is = subst (λ r. IsWorld IsSound ys (up_as w p (set w.cores p (Some core)) r (map content ys) (map health ys))) (sym is) (record {
  shape = shape_back (over content health w xs w.cores) p core (map content ys) (map health ys) i.shape lt b.own (b.size ∙ i.shape.size) (as_long content health IsSound p xs ys (IsRolledBack w.manager p (Ok core)) k);
  clean = λ all.
      let c = called content health IsSound w p xs ys (IsRolledBack w.manager p (Ok core)) i k all in (
        c.stores,
        subst (λ l. Sound (come_back w p core l (map health ys))) (sym (c.contents ∙ ap (set (map content xs) p) c.did.1))
            (sound_back (over content health w xs w.cores) p (content k.before) core (map health ys) i.shape c.sound lt news c.there b c.did.0),
      );
  between = λ all free.
      let c = called content health IsSound w p xs ys (IsRolledBack w.manager p (Ok core)) i k all in
      subst (IsBetween (before_of w) w.live) (sym (c.contents ∙ ap (set (map content xs) p) c.did.1))
      (between_cut (before_of w) w.live (map content xs) p (slice_index w.manager.last p) (content k.before) c.there (i.between c.known free));
})

pub has_come_back : {S : Type 0} (content : S → Content) (health : S → Health) (IsSound : S → Type 0) (w : WorldState) (p round interval inc : ℕ) (core : CoreState) (xs ys : List S) → IsWorld IsSound xs (over content health w xs w.cores) → p < length w.programs → HasNews w p → IsBackIn w.manager p core
    → IsCalled content health IsSound (IsFault (Ok core)) xs ys p (IsRolledBack w.manager p (Ok core)) → round ≡ w.manager.round → interval ≡ core.now.interval → inc ≡ core.inc → Returns (over content health w xs w.cores) p (Ok (interval, inc)) (up_as w p (set w.cores p (Some core)) round (map content ys) (map health ys))
has_come_back content health IsSound w p round interval inc core xs ys i lt news b k is at begun = (
  core,
  record {
    back = b;
    others = ap (λ r. up_as w p (set w.cores p (Some core)) r (map content ys) (map health ys)) is;
    was_clean = was_clean content health IsSound p xs ys (IsRolledBack w.manager p (Ok core)) k;
    counts = called_counts content health IsSound p xs ys (IsRolledBack w.manager p (Ok core)) k;
    did = λ all. let c = called content health IsSound w p xs ys (IsRolledBack w.manager p (Ok core)) i k all in (
      content k.before,
      c.there,
      c.did.0,
      back_interval (over content health w xs w.cores) p (content k.before) core i.shape c.sound lt news c.there b c.did.0,
      c.contents ∙ ap (set (map content xs) p) c.did.1,
    );
  },
  at,
  begun,
)

-- ---- it did not
same_contents : {S : Type 0} (content : S → Content) (health : S → Health) (IsSound : S → Type 0) (w : WorldState) (p : ℕ) (fault : ReplayFault) (xs ys : List S) → IsWorld IsSound xs (over content health w xs w.cores) → IsCalled content health IsSound (IsFault (Err fault)) xs ys p (IsRolledBack w.manager p (Err fault))
    → IsKnown (over content health w ys w.cores) → map content ys ≡ map content xs
same_contents content health IsSound w p fault xs ys i k all =
    let c = called content health IsSound w p xs ys (IsRolledBack w.manager p (Err fault)) i k all in
    c.contents ∙ ap (set (map content xs) p) c.did.0 ∙ set_back (map content xs) p (content k.before) c.there

pub after_fault : {S : Type 0} (content : S → Content) (health : S → Health) (IsSound : S → Type 0) (w : WorldState) (p : ℕ) (fault : ReplayFault) (xs ys : List S) → IsWorld IsSound xs (over content health w xs w.cores) → IsCalled content health IsSound (IsFault (Err fault)) xs ys p (IsRolledBack w.manager p (Err fault))
    → IsWorld IsSound ys (over content health w ys w.cores)
after_fault content health IsSound w p fault xs ys i k = record {
  shape = shape_same (over content health w xs w.cores) w.live w.frames w.manager (map content ys) (map health ys) i.shape (as_long content health IsSound p xs ys (IsRolledBack w.manager p (Err fault)) k) i.shape.manager refl;
  clean = λ all.
      let c = called content health IsSound w p xs ys (IsRolledBack w.manager p (Err fault)) i k all in (
        c.stores,
        subst (λ l. Sound (remade w w.live w.frames w.cores w.manager l (map health ys))) (sym (same_contents content health IsSound w p fault xs ys i k all))
            (sound_clean (over content health w xs w.cores) (map content xs) (map health xs) (map health ys) c.sound),
      );
  between = λ all free.
      let c = called content health IsSound w p xs ys (IsRolledBack w.manager p (Err fault)) i k all in
      subst (IsBetween (before_of w) w.live) (sym (same_contents content health IsSound w p fault xs ys i k all)) (i.between c.known free);
}

pub stays_down : {S : Type 0} (content : S → Content) (health : S → Health) (IsSound : S → Type 0) (w : WorldState) (p : ℕ) (fault : ReplayFault) (xs ys : List S) → IsWorld IsSound xs (over content health w xs w.cores) → p < length w.programs → HasNews w p
    → IsCalled content health IsSound (IsFault (Err fault)) xs ys p (IsRolledBack w.manager p (Err fault)) → Returns (over content health w xs w.cores) p (Err fault) (over content health w ys w.cores)
stays_down content health IsSound w p fault xs ys i lt news k = record {
  others = refl;
  was_clean = was_clean content health IsSound p xs ys (IsRolledBack w.manager p (Err fault)) k;
  same = same_contents content health IsSound w p fault xs ys i k;
  counted = λ is. counted content health IsSound p xs ys (IsRolledBack w.manager p (Err fault)) k (ap Err is);
  counts = called_counts content health IsSound p xs ys (IsRolledBack w.manager p (Err fault)) k;
  why = λ all.
      let c = called content health IsSound w p xs ys (IsRolledBack w.manager p (Err fault)) i k all in
      c.did.1 (subst (λ n. CanReplay (the_process p n) (content k.before) (slice_index w.manager.last p)) (sym i.shape.size) (can_replay (over content health w xs w.cores) p (content k.before) i.shape c.sound lt news c.there));
}
