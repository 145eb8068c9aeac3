-- What an event that stores does, by its answer.
use Rattle.std.proofs.Common.{◌≡◌, inl, inr, ℕ, zero, suc, List, [], ◌∷◌, take, drop, set, Some, Result, Ok, Err, refl, sym, ap, ◌∙◌, subst}
use Rattle.std.specs.Prelude.{All, slice_get}
use Rattle.om_stable.specs.Content.{Content}
use Rattle.om_stable.specs.declared.error.StoreError.{StoreError}
use Rattle.om_stable.specs.declared.error.StoreError.TheVariants as store_errors
use Rattle.om_process.specs.Core.{CoreState, with_pending}
use Rattle.om_member.specs.declared.batch.Batch.{Batch}
use Rattle.om_member.specs.declared.batch.Batch.TheVariants.{Checkpoint, First, Log}
use Rattle.om_manager.specs.declared.answers.RecordError.{RecordError}
use Rattle.om_world.specs.declared.event.Answer.TheVariants as answers
use Rattle.om_world.specs.declared.event.Event.{Event}
use Rattle.om_world.specs.declared.event.Refusal.TheVariants as why
use Rattle.om_world.specs.Changes.{HasNoted, HasStored, IsSame, IsUp, StoreStopped, stored}
use Rattle.om_world.specs.Happened.{Happened, StoreHappened}
use Rattle.om_world.specs.Played.{IsCounted}
use Rattle.om_world.specs.World.{WorldState, IsEmpty, IsKnown, all_clean}
use Rattle.om_world.specs.steps.Moves.{AreTold, HasCalled, HasTold, IsToldUpTo, Gained, event_of, refusal_of_record, refusal_of_store}
use Rattle.om_world.proofs.FailureCounts.{memory_apart, present_apart}
use Rattle.om_world.proofs.Giving.{given_at}
use Rattle.om_world.proofs.Lists.{inside, once, set_there}
use Rattle.om_world.proofs.Telling.{told_notes}
use Rattle.om_world.proofs.Staying.{all_stay}

-- ---- lists
pub set_back : {A : Type 0} (xs : List A) (p : ℕ) (x : A) → slice_get xs p ≡ Some x → set xs p x ≡ xs
set_back [] p x at = refl
set_back (y ∷ xs) zero x at = ap (λ z. z ∷ xs) (sym (once y x at))
set_back (y ∷ xs) (suc p) x at = ap (λ l. y ∷ l) (set_back xs p x at)

pub set_twice : {A : Type 0} (xs : List A) (p : ℕ) (x y : A) → set (set xs p x) p y ≡ set xs p y
set_twice [] p x y = refl
set_twice (z ∷ xs) zero x y = refl
set_twice (z ∷ xs) (suc p) x y = ap (λ l. z ∷ l) (set_twice xs p x y)

-- ---- the store refused
same_content : (kind : Batch) (c : CoreState) (error : StoreError) (a b : Content) → Gained kind c (Err error) a b → b ≡ a
same_content Log c error a b g = g.0
same_content (First k) c error a b g = g.0
same_content Checkpoint c error a b g = g.0

is_same : (kind : Batch) (w v : WorldState) (p : ℕ) (fault : StoreError) → HasCalled kind w p (Err fault) v → IsKnown v → IsSame w v
is_same kind w v p fault h all =
    let d = h.did all in
    let contents : v.contents ≡ w.contents = d.3 ∙ ap (set w.contents p) (same_content kind h.core fault d.0 d.1 d.4) ∙ set_back w.contents p d.0 d.2 in
    h.others ∙ ap (λ cs. record w { cores = cs; contents = v.contents; health = v.health; since = v.since }) (given_at w.cores p h.core h.there) ∙ ap (λ l. record w { contents = l; health = v.health; since = v.since }) contents
    ∙ ap (λ z. record w { health = v.health; since = z }) h.since

pub store_refused : (kind : Batch) (w v : WorldState) (p : ℕ) (fault : StoreError) → IsUp w p → HasCalled kind w p (Err fault) v → IsKnown v → Happened w (event_of kind p) (answers.Refused (refusal_of_store fault)) v
store_refused Log w v p store_errors.Present up h all = absurd (h.free all tt refl)
store_refused Log w v p store_errors.Fault up h all = (up, (h.counted refl, is_same Log w v p store_errors.Fault h all))
store_refused Log w v p store_errors.Memory up h all = (up, inl (is_same Log w v p store_errors.Memory h all))
store_refused (First k) w v p store_errors.Present up h all = absurd (h.free all tt refl)
store_refused (First k) w v p store_errors.Fault up h all = (up, (h.counted refl, is_same (First k) w v p store_errors.Fault h all))
store_refused (First k) w v p store_errors.Memory up h all = (up, inl (is_same (First k) w v p store_errors.Memory h all))
store_refused Checkpoint w v p store_errors.Present up h all =
    let d = h.did all in
    (up, (record { core = h.core; is_core = h.there; held = d.0; is_held = d.2; there = d.4.1 refl }, is_same Checkpoint w v p store_errors.Present h all))
store_refused Checkpoint w v p store_errors.Fault up h all = (up, (h.counted refl, is_same Checkpoint w v p store_errors.Fault h all))
store_refused Checkpoint w v p store_errors.Memory up h all = (up, inl (is_same Checkpoint w v p store_errors.Memory h all))

-- a fault is that of a store which counts it
pub store_counted : (kind : Batch) (w v : WorldState) (p : ℕ) (fault : StoreError) → HasCalled kind w p (Err fault) v → IsCounted w v (answers.Refused (refusal_of_store fault))
store_counted kind w v p store_errors.Present h = λ is. absurd (present_apart is)
store_counted kind w v p store_errors.Fault h = λ is. (p, h.counted refl)
store_counted kind w v p store_errors.Memory h = λ is. absurd (memory_apart is)

-- ---- stored, and some rows noted
clean_mid : (mid v : WorldState) (p count : ℕ) (end : Result (Unit {0}) RecordError) → HasTold mid p count end v → v.health ≡ mid.health
clean_mid mid v p count end t = ap (λ (x : WorldState). x.health) t.others

pub known_mid : (mid v : WorldState) (p count : ℕ) (end : Result (Unit {0}) RecordError) → HasTold mid p count end v → IsKnown v → IsKnown mid
known_mid mid v p count end t all = (subst (All IsEmpty) (ap (λ (x : WorldState). x.origins) t.others) all.0, ap all_clean (sym (clean_mid mid v p count end t)) ∙ all.1)

pub has_stored : (kind : Batch) (w mid v : WorldState) (p count : ℕ) (end : Result (Unit {0}) RecordError) → HasCalled kind w p (Ok tt) mid → HasTold mid p count end v → (h : HasCalled kind w p (Ok tt) mid) → IsKnown mid → HasStored kind w p h.core v
has_stored kind w mid v p count end _ t h all = let d = h.did all in (d.0, d.1, d.2, d.4, ap (λ (x : WorldState). x.contents) t.others ∙ d.3, ap (λ (x : WorldState). x.since) t.others ∙ h.since)

pub has_noted : (kind : Batch) (w mid v : WorldState) (p count : ℕ) (end : Result (Unit {0}) RecordError) → IsUp w p → (h : HasCalled kind w p (Ok tt) mid) → HasTold mid p count end v
    → HasNoted w p h.core (stored kind h.core) count v × IsToldUpTo mid.manager (stored kind h.core).round p (stored kind h.core).pending count end v.manager
has_noted kind w mid v p count end up h t =
    let d = stored kind h.core in
    let cores : mid.cores ≡ set w.cores p (Some d) = ap (λ (x : WorldState). x.cores) h.others in
    let manager : mid.manager ≡ w.manager = ap (λ (x : WorldState). x.manager) h.others in
    let same : t.core ≡ d = once_some t.core d (once (Some t.core) (Some d) (sym t.there ∙ ap (λ l. slice_get l p) cores ∙ set_there w.cores p (Some h.core) (Some d) h.there)) in
    let told : IsToldUpTo mid.manager d.round p d.pending count end v.manager = subst (λ (e : CoreState). IsToldUpTo mid.manager e.round p e.pending count end v.manager) same t.told in (
      record {
        changes = record {
          up = up;
          before = h.there;
          cores = ap (λ (x : WorldState). x.cores) t.others ∙ ap (λ (e : CoreState). set mid.cores p (Some (with_pending e (drop count e.pending)))) same ∙ ap (λ l. set l p (Some (with_pending d (drop count d.pending)))) cores ∙ set_twice w.cores p (Some d) (Some (with_pending d (drop count d.pending)));
          stays = all_stay w v
              (ap (λ (x : WorldState). x.programs) t.others ∙ ap (λ (x : WorldState). x.programs) h.others)
              (ap (λ (x : WorldState). x.live) t.others ∙ ap (λ (x : WorldState). x.live) h.others)
              (ap (λ (x : WorldState). x.places) t.others ∙ ap (λ (x : WorldState). x.places) h.others)
              (ap (λ (x : WorldState). x.rounds) t.others ∙ ap (λ (x : WorldState). x.rounds) h.others)
              (ap (λ (x : WorldState). x.origins) t.others ∙ ap (λ (x : WorldState). x.origins) h.others);
        };
        within = told.within;
        manager = told_notes w.manager v.manager d.round p (take count d.pending) (subst (λ m. AreTold m d.round p (take count d.pending) v.manager) manager told.done);
        frames = ap (λ (x : WorldState). x.frames) t.others ∙ ap (λ (x : WorldState). x.frames) h.others;
      },
      told,
    )
  where
    once_some : (a b : CoreState) → Some a ≡ Some b → a ≡ b
    once_some a b e = cc

pub all_noted : (kind : Batch) (w mid v : WorldState) (p count : ℕ) → IsUp w p → HasCalled kind w p (Ok tt) mid → HasTold mid p count (Ok tt) v → IsKnown v → Happened w (event_of kind p) (answers.Noted count) v
all_noted kind w mid v p count up h t all =
    let clean = known_mid mid v p count (Ok tt) t all in
    let s = has_stored kind w mid v p count (Ok tt) h t h clean in
    let n = has_noted kind w mid v p count (Ok tt) up h t in
    by kind (h.core, s, n.0, n.1.all)
  where
    by : (kind : Batch) → StoreHappened kind w p count v → Happened w (event_of kind p) (answers.Noted count) v
    by Log x = x
    by (First k) x = x
    by Checkpoint x = x

pub some_noted : (kind : Batch) (w mid v : WorldState) (p count : ℕ) (fault : RecordError) → IsUp w p → HasCalled kind w p (Ok tt) mid → HasTold mid p count (Err fault) v → IsKnown v → Happened w (event_of kind p) (answers.Refused (refusal_of_record fault)) v
some_noted kind w mid v p count fault up h t all =
    let clean = known_mid mid v p count (Err fault) t all in
    let s = has_stored kind w mid v p count (Err fault) h t h clean in
    let n = has_noted kind w mid v p count (Err fault) up h t in
    let row = n.1.refused in
    subst (λ f. Happened w (event_of kind p) (answers.Refused (refusal_of_record f)) v) (sym (t.memory clean)) (by kind (up, inr (h.core, count, s, n.0, inside (stored kind h.core).pending count row.0 row.1)))
  where
    by : (kind : Batch) → IsUp w p × StoreStopped kind w p v → Happened w (event_of kind p) (answers.Refused why.Memory) v
    by Log x = x
    by (First k) x = x
    by Checkpoint x = x

-- ---- a checkpoint that is stored, and whose row stays pending
pub spell_refused : (w v : WorldState) (p : ℕ) (fault : StoreError) → IsUp w p → HasCalled Checkpoint w p (Err fault) v → IsKnown v → Happened w (Event.Spell p) (answers.Refused (refusal_of_store fault)) v
spell_refused w v p store_errors.Present up h all = store_refused Checkpoint w v p store_errors.Present up h all
spell_refused w v p store_errors.Fault up h all = store_refused Checkpoint w v p store_errors.Fault up h all
spell_refused w v p store_errors.Memory up h all = (up, is_same Checkpoint w v p store_errors.Memory h all)

pub only_spelled : (w v : WorldState) (p : ℕ) → IsUp w p → HasCalled Checkpoint w p (Ok tt) v → IsKnown v → Happened w (Event.Spell p) (answers.Noted 0) v
only_spelled w v p up h all =
    let d = h.did all in (
      refl,
      record {
        core = h.core;
        gained = (d.0, d.1, d.2, d.4, d.3, h.since);
        changes = record {
          up = up;
          before = h.there;
          cores = ap (λ (x : WorldState). x.cores) h.others;
          stays = all_stay w v
              (ap (λ (x : WorldState). x.programs) h.others)
              (ap (λ (x : WorldState). x.live) h.others)
              (ap (λ (x : WorldState). x.places) h.others)
              (ap (λ (x : WorldState). x.rounds) h.others)
              (ap (λ (x : WorldState). x.origins) h.others);
        };
        manager = ap (λ (x : WorldState). x.manager) h.others;
        frames = ap (λ (x : WorldState). x.frames) h.others;
      },
    )
