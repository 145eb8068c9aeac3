-- A world over its members, of which one changes.
use Rattle.std.proofs.Common.{◌≡◌, ◌≢◌, ℕ, zero, suc, ◌<◌, List, [], ◌∷◌, length, map, set, Option, None, Some, Result, Ok, Err, refl, sym, ap, ◌∙◌, subst}
use Rattle.std.specs.Prelude.{slice_get, slice_index, Bool, IfOk, OnErr}
use Rattle.om_format.specs.declared.message.Message.{Message}
use Rattle.om_stable.specs.Content.{Content}
use Rattle.om_stable.specs.declared.error.StoreError.{StoreError}
use Rattle.om_stable.specs.declared.error.StoreError.TheVariants as store_errors
use Rattle.om_process.specs.Core.{CoreState}
use Rattle.om_process.specs.Process.{Program}
use Rattle.om_manager.specs.State.{ManagerState}
use Rattle.om_manager.specs.declared.answers.RecordError.{RecordError}
use Rattle.om_member.specs.Members.{IsNotUp, WasCalled, core_of}
use Rattle.om_member.specs.declared.member.Member.{Member}
use Rattle.om_member.specs.declared.member.NotUp.{NotUp}
use Rattle.om_member.specs.declared.member.MemberState.{MemberState}
use Rattle.om_member.specs.declared.member.MemberState.TheVariants as stands
use Rattle.om_world.specs.declared.entry.Entry.{Entry}
use Rattle.om_world.specs.declared.event.Refusal.{Refusal}
use Rattle.om_world.specs.declared.event.Refusal.TheVariants as why
use Rattle.om_world.specs.declared.process_state.ProcessState.{ProcessState}
use Rattle.om_world.specs.Changes.{IsUp}
use Rattle.om_world.specs.World.{Health, WorldState}
use Rattle.om_world.specs.steps.Members.{Besides, content_in, core_in, health_in, place_in, place_of, round_in, seen, sound_in, health_of}
use Rattle.om_world.specs.steps.Moves.{IsCalled, count_of, refusal_of_record, refusal_of_store, told_of}
use Rattle.om_world.specs.steps.Sound.{IsWorld}
use Rattle.om_world.proofs.Kept.{remade}
use Rattle.om_world.proofs.Lists.{inside, length-map, map_at, map_set, none_in, once, once_err, once_ok, same_map, sound_at, sound_set}
use Rattle.om_world.proofs.Recording.{set_back}

-- worlds of the same parts are one
pub world_is : (v w : WorldState) → v.programs ≡ w.programs → v.live ≡ w.live → v.frames ≡ w.frames → v.cores ≡ w.cores → v.places ≡ w.places → v.rounds ≡ w.rounds → v.manager ≡ w.manager → v.contents ≡ w.contents → v.health ≡ w.health → v.origins ≡ w.origins → v.since ≡ w.since → v ≡ w
world_is v w programs live frames cores places rounds manager contents health origins since =
    ap (λ x. record v { programs = x }) programs
    ∙ ap (λ x. record v { programs = w.programs; live = x }) live
    ∙ ap (λ x. record v { programs = w.programs; live = w.live; frames = x }) frames
    ∙ ap (λ x. record v { programs = w.programs; live = w.live; frames = w.frames; cores = x }) cores
    ∙ ap (λ x. record v { programs = w.programs; live = w.live; frames = w.frames; cores = w.cores; places = x }) places
    ∙ ap (λ x. record w { rounds = x; manager = v.manager; contents = v.contents; health = v.health; origins = v.origins; since = v.since }) rounds
    ∙ ap (λ x. record w { manager = x; contents = v.contents; health = v.health; origins = v.origins; since = v.since }) manager
    ∙ ap (λ x. record w { contents = x; health = v.health; origins = v.origins; since = v.since }) contents
    ∙ ap (λ x. record w { health = x; origins = v.origins; since = v.since }) health
    ∙ ap (λ x. record w { origins = x; since = v.since }) origins
    ∙ ap (λ x. record w { since = x }) since

-- ---- who is up
pub stands_up : (s : MemberState) → place_of s ≡ ProcessState.Up → IsNotUp s → ⊥
stands_up (stands.Up core) up not = not core refl
stands_up (stands.In core) up not = cc
stands_up (stands.Down declared) up not = cc

pub up_core : (s : MemberState) → place_of s ≡ ProcessState.Up → core_of s ≡ None → ⊥
up_core (stands.Up core) up none = cc
up_core (stands.In core) up none = cc
up_core (stands.Down declared) up none = cc

-- what a process that is up was asked it did
pub was_up : {T : Type 0} (r : Result T NotUp) (Did : T → Type 0) (s : MemberState) → place_of s ≡ ProcessState.Up → IfOk r Did → OnErr r (IsNotUp s) → (a : T) × (r ≡ Ok a) × Did a
was_up (Ok a) Did s up did not = (a, refl, did)
was_up (Err e) Did s up did not = absurd (stands_up s up not)

-- ---- what is told of an act
pub told_ok : {T E : Type 0} (refusal : E → Refusal) (answer : Result T E) (r : Result T Refusal) (value : T) → r ≡ told_of refusal (Ok answer) → r ≡ Ok value → answer ≡ Ok value
told_ok refusal (Ok a) r value is was = ap Ok (once_ok r a value is was)
told_ok refusal (Err fault) r value is was = absurd (apart (refusal fault) value (sym is ∙ was))
  where
    apart : {T E : Type 0} (e : E) (a : T) → Err e ≡ Ok a → ⊥
    apart e a is = cc

pub told_err : {T E : Type 0} (refusal : E → Refusal) (answer : Result T E) (r : Result T Refusal) (why : Refusal) → r ≡ told_of refusal (Ok answer) → r ≡ Err why → (fault : E) × (answer ≡ Err fault) × (why ≡ refusal fault)
told_err refusal (Ok a) r why is was = absurd (apart a why (sym is ∙ was))
  where
    apart : {T E : Type 0} (a : T) (e : E) → Ok a ≡ Err e → ⊥
    apart a e is = cc
told_err refusal (Err fault) r why is was = (fault, refl, once_err r why (refusal fault) was is)

-- the same of rows that were noted
pub noted_ok : (count : ℕ) (end : Result (Unit {0}) RecordError) (r : Result ℕ Refusal) (value : ℕ) → r ≡ told_of refusal_of_record (Ok (count_of count end)) → r ≡ Ok value → (count ≡ value) × (end ≡ Ok tt)
noted_ok count (Ok done) r value is was = (once_ok r count value is was, refl)
noted_ok count (Err fault) r value is was = absurd (apart (refusal_of_record fault) value (sym is ∙ was))
  where
    apart : (e : Refusal) (a : ℕ) → Err e ≡ Ok a → ⊥
    apart e a is = cc

pub noted_err : (count : ℕ) (end : Result (Unit {0}) RecordError) (r : Result ℕ Refusal) (reason : Refusal) → r ≡ told_of refusal_of_record (Ok (count_of count end)) → r ≡ Err reason → (fault : RecordError) × (end ≡ Err fault) × (reason ≡ refusal_of_record fault)
noted_err count (Ok done) r reason is was = absurd (apart count reason (sym is ∙ was))
  where
    apart : (a : ℕ) (e : Refusal) → Ok a ≡ Err e → ⊥
    apart a e is = cc
noted_err count (Err fault) r reason is was = (fault, refl, once_err r reason (refusal_of_record fault) was is)

pub faultless_stored : (r : Result (Result (Unit {0}) StoreError) NotUp) (told : Result (Unit {0}) Refusal) → told ≡ told_of refusal_of_store r → r ≢ Ok (Err store_errors.Fault) → told ≢ Err why.Fault
faultless_stored r told is apart = λ fault. by r apart (sym is ∙ fault)
  where
    by : (r : Result (Result (Unit {0}) StoreError) NotUp) → r ≢ Ok (Err store_errors.Fault) → told_of refusal_of_store r ≡ Err why.Fault → ⊥
    by (Ok (Ok done)) apart e = cc
    by (Ok (Err store_errors.Present)) apart e = cc
    by (Ok (Err store_errors.Fault)) apart e = apart refl
    by (Ok (Err store_errors.Memory)) apart e = cc
    by (Err not_up) apart e = cc

-- ---- numbers by place
pub index_at : (xs : List ℕ) (i x : ℕ) → slice_get xs i ≡ Some x → x ≡ slice_index xs i
index_at [] i x e = absurd (none_in i x e)
index_at (y ∷ xs) zero x e = sym (once y x e)
index_at (y ∷ xs) (suc i) x e = index_at xs i x e

module _ {S : Type 0} (content : S → Content) (health : S → Health) (IsSound : S → Type 0) (P : List Program) (L : List Entry) (F : List Message) (ms : List (Member S)) (M : ManagerState) (O : Besides) (p : ℕ) where
  pub here : (v : WorldState) → IsWorld (sound_in IsSound) ms (seen content health P L F ms M O) → seen content health P L F ms M O ≡ v → p < length v.programs → p < length ms
  here v i e lt = subst (λ n. p < n) (length-map core_in ms) (subst (λ n. p < n) (sym i.shape.cores) (subst (λ (x : WorldState). p < length x.programs) (sym e) lt))

  pub up_here : (v : WorldState) → seen content health P L F ms M O ≡ v → IsUp v p → p < length ms
  up_here v e up = subst (λ n. p < n) (length-map place_in ms) (inside (map place_in ms) p ProcessState.Up (subst (λ (x : WorldState). IsUp x p) (sym e) up))

  pub core_here : (v : WorldState) (core : Option CoreState) → seen content health P L F ms M O ≡ v → slice_get v.cores p ≡ Some core → p < length ms
  core_here v core e there = subst (λ n. p < n) (length-map core_in ms) (inside (map core_in ms) p core (subst (λ (x : WorldState). slice_get x.cores p ≡ Some core) (sym e) there))

  -- a member that was read
  module _ (m : Member S) (at : slice_get ms p ≡ Some m) where
    pub place_at : (v : WorldState) → seen content health P L F ms M O ≡ v → slice_get v.places p ≡ Some (place_in m)
    place_at v e = subst (λ (x : WorldState). slice_get x.places p ≡ Some (place_in m)) e (map_at place_in ms p m at)

    pub is_up : (v : WorldState) → seen content health P L F ms M O ≡ v → IsUp v p → place_of m.standing ≡ ProcessState.Up
    is_up v e up = once (place_in m) ProcessState.Up (sym (place_at v e) ∙ up)

    pub core_at : (v : WorldState) (core : CoreState) → seen content health P L F ms M O ≡ v → core_of m.standing ≡ Some core → slice_get v.cores p ≡ Some (Some core)
    core_at v core e is = subst (λ (x : WorldState). slice_get x.cores p ≡ Some (Some core)) e (map_at core_in ms p m at ∙ ap Some is)

    pub no_core_at : (v : WorldState) (core : CoreState) → seen content health P L F ms M O ≡ v → core_of m.standing ≡ None → slice_get v.cores p ≡ Some (Some core) → ⊥
    no_core_at v core e is there = apart (once (core_in m) (Some core) (sym (map_at core_in ms p m at) ∙ subst (λ (x : WorldState). slice_get x.cores p ≡ Some (Some core)) (sym e) there))
      where
        apart : core_in m ≡ Some core → ⊥
        apart f = none (sym is ∙ f)
          where
            none : None ≡ Some core → ⊥
            none g = cc

    pub round_is : m.round ≡ slice_index (map round_in ms) p
    round_is = index_at (map round_in ms) p m.round (map_at round_in ms p m at)

    -- the member that came of it
    module _ (n : Member S) where
      -- one that changed, and stands where it stood
      pub seated : place_in n ≡ place_in m → round_in n ≡ round_in m → (live : List Entry) (frames : List Message) (k : ManagerState)
          → remade (seen content health P L F ms M O) live frames (map core_in (set ms p n)) k (map (content_in content) (set ms p n)) (map (health_in health) (set ms p n)) ≡ seen content health P live frames (set ms p n) k O
      seated place round live frames k = world_is (remade (seen content health P L F ms M O) live frames (map core_in (set ms p n)) k (map (content_in content) (set ms p n)) (map (health_in health) (set ms p n))) (seen content health P live frames (set ms p n) k O)
          refl refl refl refl (same_map place_in ms p m n at place) (same_map round_in ms p m n at round) refl refl refl refl refl

      -- and whose store did not change
      pub kept : place_in n ≡ place_in m → round_in n ≡ round_in m → n.store ≡ m.store → (live : List Entry) (frames : List Message) (k : ManagerState)
          → remade (seen content health P L F ms M O) live frames (map core_in (set ms p n)) k (map (content_in content) ms) (map (health_in health) ms) ≡ seen content health P live frames (set ms p n) k O
      kept place round store live frames k = world_is (remade (seen content health P L F ms M O) live frames (map core_in (set ms p n)) k (map (content_in content) ms) (map (health_in health) ms)) (seen content health P live frames (set ms p n) k O)
          refl refl refl refl (same_map place_in ms p m n at place) (same_map round_in ms p m n at round) refl (same_map (content_in content) ms p m n at (ap content store)) (same_map (health_in health) ms p m n at (ap health store)) refl refl

      -- one whose store alone changed
      pub restored : core_in n ≡ core_in m → place_in n ≡ place_in m → round_in n ≡ round_in m
          → remade (seen content health P L F ms M O) L F (map core_in ms) M (map (content_in content) (set ms p n)) (map (health_in health) (set ms p n)) ≡ seen content health P L F (set ms p n) M O
      restored core place round = world_is (remade (seen content health P L F ms M O) L F (map core_in ms) M (map (content_in content) (set ms p n)) (map (health_in health) (set ms p n))) (seen content health P L F (set ms p n) M O)
          refl refl refl (same_map core_in ms p m n at core) (same_map place_in ms p m n at place) (same_map round_in ms p m n at round) refl refl refl refl refl

      -- one that stands elsewhere, over the same store
      pub placed_as : (core : Option CoreState) (place : ProcessState) (round : ℕ) → core_in n ≡ core → place_in n ≡ place → round_in n ≡ round → n.store ≡ m.store → (live : List Entry) (k : ManagerState)
          → record { programs = P; live = live; frames = F; cores = set (map core_in ms) p core; places = set (map place_in ms) p place; rounds = set (map round_in ms) p round; manager = k; contents = map (content_in content) ms; health = map (health_in health) ms; origins = O.origins; since = O.since }
          ≡ seen content health P live F (set ms p n) k O
      placed_as core place round c pl r store live k = world_is (record { programs = P; live = live; frames = F; cores = set (map core_in ms) p core; places = set (map place_in ms) p place; rounds = set (map round_in ms) p round; manager = k; contents = map (content_in content) ms; health = map (health_in health) ms; origins = O.origins; since = O.since }) (seen content health P live F (set ms p n) k O)
          refl refl refl (ap (set (map core_in ms) p) (sym c) ∙ map_set core_in ms p n) (ap (set (map place_in ms) p) (sym pl) ∙ map_set place_in ms p n) (ap (set (map round_in ms) p) (sym r) ∙ map_set round_in ms p n) refl
          (same_map (content_in content) ms p m n at (ap content store)) (same_map (health_in health) ms p m n at (ap health store)) refl refl

      -- one that is placed anew, over its store as it was called
      pub risen : (core : Option CoreState) (place : ProcessState) (round : ℕ) → core_in n ≡ core → place_in n ≡ place → round_in n ≡ round
          → record { programs = P; live = L; frames = F; cores = set (map core_in ms) p core; places = set (map place_in ms) p place; rounds = set (map round_in ms) p round; manager = M; contents = map (content_in content) (set ms p n); health = map (health_in health) (set ms p n); origins = O.origins; since = O.since }
          ≡ seen content health P L F (set ms p n) M O
      risen core place round c pl r = world_is (record { programs = P; live = L; frames = F; cores = set (map core_in ms) p core; places = set (map place_in ms) p place; rounds = set (map round_in ms) p round; manager = M; contents = map (content_in content) (set ms p n); health = map (health_in health) (set ms p n); origins = O.origins; since = O.since }) (seen content health P L F (set ms p n) M O)
          refl refl refl (ap (set (map core_in ms) p) (sym c) ∙ map_set core_in ms p n) (ap (set (map place_in ms) p) (sym pl) ∙ map_set place_in ms p n) (ap (set (map round_in ms) p) (sym r) ∙ map_set round_in ms p n) refl refl refl refl refl

      -- what is put back where it was
      pub set_round : set (map round_in ms) p m.round ≡ map round_in ms
      set_round = set_back (map round_in ms) p m.round (map_at round_in ms p m at)

      pub set_core : map core_in ms ≡ set (map core_in ms) p (core_in m)
      set_core = sym (set_back (map core_in ms) p (core_in m) (map_at core_in ms p m at))

      -- its store is as sound as it was
      pub still : n.store ≡ m.store → (v : WorldState) → IsWorld (sound_in IsSound) ms v → IsWorld (sound_in IsSound) (set ms p n) v
      still store v i = record {
        shape = i.shape;
        clean = λ known. let s = i.clean known in (sound_set (sound_in IsSound) ms p n s.0 (subst IsSound (sym store) (sound_at (sound_in IsSound) ms p m s.0 at)), s.1);
        between = i.between;
      }

      -- it did not change
      pub unchanged : n ≡ m → (k : ManagerState) → seen content health P L F ms k O ≡ seen content health P L F (set ms p n) k O
      unchanged same k = ap (λ l. seen content health P L F l k O) (sym (ap (set ms p) same ∙ set_back ms p m at))

      pub unmoved : n ≡ m → IsWorld (sound_in IsSound) ms (seen content health P L F ms M O) → IsWorld (sound_in IsSound) (set ms p n) (seen content health P L F (set ms p n) M O)
      unmoved same i = still (ap (λ (x : Member S). x.store) same) (seen content health P L F (set ms p n) M O) (subst (IsWorld (sound_in IsSound) ms) (unchanged same M) i)

      -- its core
      pub cores_set : (core : Option CoreState) → core_in n ≡ core → map core_in (set ms p n) ≡ set (map core_in ms) p core
      cores_set core is = sym (map_set core_in ms p n) ∙ ap (set (map core_in ms) p) is

      pub core_was : (core : CoreState) → m.standing ≡ stands.Up core → slice_get (map core_in ms) p ≡ Some (Some core)
      core_was core up = map_at core_in ms p m at ∙ ap (λ s. Some (core_of s)) up

-- its store took a call
pub called_in : {S : Type 0} (content : S → Content) (is_clean : S → Bool) (failed : S → ℕ) (IsSound : S → Type 0) (HasFailed : Type 0) (Did : Content → Content → Type 0) (ms : List (Member S)) (p : ℕ) (m n : Member S) → slice_get ms p ≡ Some m
    → WasCalled content failed is_clean IsSound HasFailed m.store n.store Did → IsCalled (content_in content) (health_in (health_of is_clean failed)) (sound_in IsSound) HasFailed ms (set ms p n) p Did
called_in content is_clean failed IsSound HasFailed Did ms p m n at c = record {
  before = m;
  after = n;
  there = at;
  stores = refl;
  counted = c.used.fault;
  count = c.used.count;
  clean = c.used.clean;
  sound = c.used.sound;
  did = c.did;
}
