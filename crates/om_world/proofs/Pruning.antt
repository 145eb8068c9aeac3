-- What a prune keeps.
use Rattle.std.proofs.Common.{◌≡◌, ◌≢◌, ◌⊎◌, inl, inr, ℕ, ◌+◌, ◌≤◌, ◌<◌, List, length, map, set, cond, Some, None, Bool, true, false, Result, Ok, Err, refl, sym, ap, ◌∙◌, subst, arith, length-set}
use Rattle.std.specs.Prelude.{All, nat_le, nat_lt, slice_get, slice_index}
use Rattle.std.specs.FinMap.{get}
use Rattle.std.proofs.lemmas.Bool.Decides.{nat_tests}
use mathlib.Core.List.{IsPrefix}
use Rattle.om_stable.specs.Content.{Content, Records, kept_by_prune}
use Rattle.om_stable.specs.declared.error.StoreError.{StoreError}
use Rattle.om_stable.specs.declared.error.StoreError.TheVariants as store_errors
use Rattle.om_stable.proofs.RecordLemmas.{get-retained}
use Rattle.om_process.specs.Core.{CoreState}
use Rattle.om_recover.specs.Cutting.{IsEffective}
use Rattle.om_recover.specs.Rows.{Has, HasRow}
use Rattle.om_recover.specs.declared.row.RowKind.{RowKind}
use Rattle.om_recover.specs.declared.row.RowKind.TheVariants.{Checkpoint, Log}
use Rattle.om_recover.proofs.CuttingLemmas.{has_after_prune, of_pruned}
use Rattle.om_manager.specs.Sound.{IsManager}
use Rattle.om_manager.specs.State.{ManagerState, held_by, process_count, released_by}
use Rattle.om_world.specs.declared.event.Event.{Event}
use Rattle.om_world.specs.declared.event.Answer.TheVariants as answers
use Rattle.om_world.specs.Changes.{HasFailed, NoneFell, RoseAt}
use Rattle.om_world.specs.Happened.{Happened, PruneStopped, Prunes, StorePruned}
use Rattle.om_world.specs.Played.{IsCounted}
use Rattle.om_world.specs.World.{Health, WorldState, IsEmpty, IsKnown, recovered, all_clean}
use Rattle.om_world.specs.steps.Past.{Past, history, past_of}
use Rattle.om_world.specs.steps.Moves.{IsCalled, Keeps, refusal_of_store}
use Rattle.om_world.specs.steps.Pruning.{AllPruned, ArePruned, HasPruned, ManagerPruned, WasPruned}
use Rattle.om_world.specs.steps.Sound.{EndsAt, HasBytes, IsBefore, IsOld, IsRunning, IsStored, IsWorld, Runs, Sound, kind_of, IsBetween, before_of}
use Rattle.om_world.proofs.FailureCounts.{called_counts, counted, counts_stay, counts_then, failed_after, memory_apart, present_apart}
use Rattle.om_world.proofs.Gaining.{sound_clean}
use Rattle.om_world.proofs.Keeping.{keeps_same}
use Rattle.om_world.proofs.Kept.{remade, shape_same}
use Rattle.om_world.proofs.Lists.{at_change, clean_before, either, inside, length-map, map_at, map_set, once, set_apart, set_there, sound_at, sound_set}
use Rattle.om_world.proofs.Noting.{over}
use Rattle.om_world.proofs.Raising.{GoesOn, less, sound_manager}
use Rattle.om_world.proofs.Recording.{set_back}
use Rattle.om_world.proofs.Between.{between_more, between_pruned}
use Rattle.om_world.specs.declared.entry.Entry.{Entry}

-- ---- the manager
lower : (kind : RowKind) (x c e : ℕ) → c ≤ e → IsBefore kind x c → IsBefore kind x e
lower Checkpoint x c e le lt = omega arith
lower Log x c e le lt = omega arith

-- an old row stays old: the effective checkpoint is not below the one that made it so, and stays
old_pruned : (old new : ManagerState) (p : ℕ) (kind : RowKind) (x : ℕ) → IsManager old → ManagerPruned old new → IsOld old p kind x → IsOld new p kind x
old_pruned old new p kind x is m o =
    let small : p < process_count old = subst (λ q. q < process_count old) o.there.pid_is (is.lawful.known o.there.row o.there.there) in
    let cs = m.rows.0 in
    let e = m.rows.1.each p small in
    record {
      checkpoint = slice_index cs p;
      there = subst (λ rows. Has rows Checkpoint p (slice_index cs p)) (sym m.rows.2) (has_after_prune old.rows cs Checkpoint p (slice_index cs p) (omega arith) e.there);
      within = subst (λ state. slice_index cs p ≤ slice_index state p) (sym (ap (λ (k : ManagerState). k.recovery) m.others)) e.below;
      before = lower kind x o.checkpoint (slice_index cs p) (e.greatest o.checkpoint o.there o.within) o.before;
    }

same_released : (old new : ManagerState) (p : ℕ) → ManagerPruned old new → released_by new p ≡ released_by old p
same_released old new p m = ap (λ (k : ManagerState). released_by k p) m.others

goes_on : (old new : ManagerState) → IsManager old → ManagerPruned old new → GoesOn old new
goes_on old new is m = record {
  starts = ap (λ (k : ManagerState). k.starts) m.others;
  round = ap (λ (k : ManagerState). k.round) m.others;
  gathering = ap (λ (k : ManagerState). k.gathering) m.others;
  backs = ap (λ (k : ManagerState). k.backs) m.others;
  last = ap (λ (k : ManagerState). k.last) m.others;
  rises = λ q. same_le (recovered old q) (recovered new q) (sym (ap (λ (k : ManagerState). recovered k q) m.others));
  released = λ p. same_le (length (released_by old p)) (length (released_by new p)) (ap length (sym (same_released old new p m)));
  old = λ p kind x o. old_pruned old new p kind x is m o;
}
  where
    same_le : (a b : ℕ) → a ≡ b → a ≤ b
    same_le a b e = omega arith

pub after_pruned : {S : Type 0} (IsSound : S → Type 0) (xs : List S) (w : WorldState) (m : ManagerState) → IsWorld IsSound xs w → ManagerPruned w.manager m → IsManager m → IsWorld IsSound xs (remade w w.live w.frames w.cores m w.contents w.health)
after_pruned IsSound xs w m i pruned is = record {
  shape = shape_same w w.live w.frames m w.contents w.health i.shape refl is (ap process_count pruned.others);
  clean = λ all.
      let s = i.clean all in (
        s.0,
        sound_manager w m s.1 (goes_on w.manager m i.shape.manager pruned)
            (λ p k o at. s.1.outputs p k o (ap (λ (x : ManagerState). slice_get (held_by x p) k) (sym pruned.others) ∙ at))
            (λ row has. inl (of_pruned w.manager.rows pruned.rows.0 row (subst (λ rows. HasRow rows row) pruned.rows.2 has)).0),
      );
  between = λ all free. between_more (before_of w) m w.live w.contents (λ q. ap (λ (k : ManagerState). recovered k q) pruned.others) (λ q lt. (goes_on w.manager m i.shape.manager pruned).released q) (i.between all free);
}

-- ---- one store
-- what is left stood there
was_there : (m : Records) (test : ℕ → Bool) (x : ℕ) (bytes : List ℕ) → cond (test x) (get m x) None ≡ Some bytes → get m x ≡ Some bytes
was_there m test x bytes at = go (test x) at
  where
    none : None ≡ Some bytes → ⊥
    none e = cc

    go : (b : Bool) → cond b (get m x) None ≡ Some bytes → get m x ≡ Some bytes
    go true e = e
    go false e = absurd (none e)

still_none : (m : Records) (test : ℕ → Bool) (x : ℕ) → get m x ≡ None → cond (test x) (get m x) None ≡ None
still_none m test x none = go (test x)
  where
    go : (b : Bool) → cond b (get m x) None ≡ None
    go true = none
    go false = refl

receipt_was : (a : Content) (c x : ℕ) (bytes : List ℕ) → get (kept_by_prune a c).receipts x ≡ Some bytes → get a.receipts x ≡ Some bytes
receipt_was a c x bytes at = was_there a.receipts (λ y. nat_lt c y) x bytes (sym (get-retained a.receipts (λ y. nat_lt c y) x) ∙ at)

checkpoint_was : (a : Content) (c x : ℕ) (bytes : List ℕ) → get (kept_by_prune a c).checkpoints x ≡ Some bytes → get a.checkpoints x ≡ Some bytes
checkpoint_was a c x bytes at = was_there a.checkpoints (λ y. nat_le c y) x bytes (sym (get-retained a.checkpoints (λ y. nat_le c y) x) ∙ at)

stored_pruned : (v : Past) (p c : ℕ) (a : Content) → IsStored v p a → IsStored v p (kept_by_prune a c)
stored_pruned v p c a s = record {
  checkpoints = λ x bytes le at. s.checkpoints x bytes le (checkpoint_was a c x bytes at);
  receipts = λ x bytes some le at. s.receipts x bytes some le (receipt_was a c x bytes at);
}

-- a record is left, or it is before the checkpoint
record_left : (m : ManagerState) (p c : ℕ) (a : Content) (kind : RowKind) (x : ℕ) → IsEffective m.rows p (recovered m p) c → HasBytes a kind x → HasBytes (kept_by_prune a c) kind x ⊎ IsOld m p kind x
record_left m p c a Checkpoint x e has = go (nat_le c x) refl
  where
    go : (b : Bool) → nat_le c x ≡ b → HasBytes (kept_by_prune a c) Checkpoint x ⊎ IsOld m p Checkpoint x
    go true is = inl (has.0, get-retained a.checkpoints (λ y. nat_le c y) x ∙ ap (λ b. cond b (get a.checkpoints x) None) is ∙ has.1)
    go false is = inr (record { checkpoint = c; there = e.there; within = e.below; before = grind (arith, nat_tests) })
record_left m p c a Log x e has = go (nat_lt c x) refl
  where
    go : (b : Bool) → nat_lt c x ≡ b → HasBytes (kept_by_prune a c) Log x ⊎ IsOld m p Log x
    go true is = inl (has.0, get-retained a.receipts (λ y. nat_lt c y) x ∙ ap (λ b. cond b (get a.receipts x) None) is ∙ has.1)
    go false is = inr (record { checkpoint = c; there = e.there; within = e.below; before = grind (arith, nat_tests) })

running_pruned : (v : Past) (p c : ℕ) (a : Content) (core : CoreState) → IsEffective v.manager.rows p (recovered v.manager p) c → IsRunning v p a core → IsRunning v p (kept_by_prune a c) core
running_pruned v p c a core e r = record {
  state = r.state;
  kept = r.kept;
  log = r.log;
  pending = λ i row at. let k = r.pending i row at in record { row_of = k.row_of; begun = k.begun; backed = elim k.backed [ inl has ↦ record_left v.manager p c a (kind_of row) row.x e has | inr is ↦ inr is ] };
  above = record {
    receipts = λ y le. get-retained a.receipts (λ x. nat_lt c x) y ∙ still_none a.receipts (λ x. nat_lt c x) y (r.above.receipts y le);
    checkpoints = λ y lt. get-retained a.checkpoints (λ x. nat_le c x) y ∙ still_none a.checkpoints (λ x. nat_le c x) y (r.above.checkpoints y lt);
  };
}

ends_pruned : (c : ℕ) (a : Content) (x : ℕ) → EndsAt a x → EndsAt (kept_by_prune a c) x
ends_pruned c a x e = record {
  receipts = λ y lt. get-retained a.receipts (λ x. nat_lt c x) y ∙ still_none a.receipts (λ x. nat_lt c x) y (e.receipts y lt);
  checkpoints = λ y lt. get-retained a.checkpoints (λ x. nat_le c x) y ∙ still_none a.checkpoints (λ x. nat_le c x) y (e.checkpoints y lt);
}

sound_pruned : (w : WorldState) (p c : ℕ) (a b : Content) (health : List Health) → Sound w → slice_get w.contents p ≡ Some a → IsEffective w.manager.rows p (recovered w.manager p) c → b ≡ kept_by_prune a c → Sound (remade w w.live w.frames w.cores w.manager (set w.contents p b) health)
sound_pruned w p c a b health s at e is =
    let v = past_of w in
    record {
      legal = s.legal;
      frames = s.frames;
      outputs = s.outputs;
      rows = s.rows;
      stored = λ q held f. elim (at_change w.contents p q held b f) [
        | inl same ↦ subst (λ o. IsStored v o held) (sym same.0) (subst (IsStored v p) (sym (same.1 ∙ is)) (stored_pruned v p c a (s.stored p a at)))
        | inr other ↦ s.stored q held other.1
      ];
      backed = λ row held has f. elim (at_change w.contents p row.pid held b f) [
        | inl same ↦
            let left = record_left w.manager p c a row.kind row.interval e in
            elim (s.backed row a has (subst (λ o. slice_get w.contents o ≡ Some a) (sym same.0) at)) [
              | inl old ↦ subst (λ (d : Content). HasBytes d row.kind row.interval ⊎ IsOld w.manager row.pid row.kind row.interval) (sym (same.1 ∙ is)) (subst (λ o. HasBytes (kept_by_prune a c) row.kind row.interval ⊎ IsOld w.manager o row.kind row.interval) (sym same.0) (left old))
              | inr gone ↦ inr gone
            ]
        | inr other ↦ s.backed row held has other.1
      ];
      running = λ q d held f g stands. elim (at_change w.contents p q held b g) [
        | inl same ↦ subst (λ o. IsRunning v o held d) (sym same.0)
            (subst (λ (x : Content). IsRunning v p x d) (sym (same.1 ∙ is))
            (running_pruned v p c a d e (s.running p d a (subst (λ o. slice_get w.cores o ≡ Some (Some d)) same.0 f) at (subst (Runs w) same.0 stands))))
        | inr other ↦ s.running q d held f other.1 stands
      ];
      up = s.up;
      joined = s.joined;
      failed = s.failed;
      gathered = s.gathered;
      current = s.current;
      known = s.known;
      ends = λ q declared held place old f. elim (at_change w.contents p q held b f) [
        | inl same ↦
            let was = s.ends q declared a place old (subst (λ o. slice_get w.contents o ≡ Some a) (sym same.0) at) in
            subst (λ (d : Content). EndsAt d (length (history v q))) (sym (same.1 ∙ is)) (ends_pruned c a (length (history v q)) was)
        | inr other ↦ s.ends q declared held place old other.1
      ];
      behind = s.behind;
      inside = s.inside;
      beyond = s.beyond;
    }

-- the store at this place is pruned to its effective checkpoint, or refuses
abbrev pub IsPrunedIn : {S : Type 0} → (S → Content) → (S → Health) → (S → Type 0) → WorldState → ℕ → ℕ → Result (Unit {0}) StoreError → List S → List S → Type 0
IsPrunedIn content health IsSound w p c answer xs ys = IsEffective w.manager.rows p (recovered w.manager p) c × IsCalled content health IsSound (answer ≡ Err store_errors.Fault) xs ys p (WasPruned c answer)

sound_either : (w : WorldState) (p c : ℕ) (answer : Result (Unit {0}) StoreError) (a b : Content) (health : List Health) → Sound w → slice_get w.contents p ≡ Some a → IsEffective w.manager.rows p (recovered w.manager p) c → WasPruned c answer a b
    → Sound (remade w w.live w.frames w.cores w.manager (set w.contents p b) health)
sound_either w p c (Ok done) a b health s at e is = sound_pruned w p c a b health s at e is
sound_either w p c (Err why) a b health s at e is =
    subst (λ l. Sound (remade w w.live w.frames w.cores w.manager l health)) (sym (ap (set w.contents p) is ∙ set_back w.contents p a at)) (sound_clean w w.contents w.health health s)

between_either : (v : Past) (live : List Entry) (contents : List Content) (p c : ℕ) (answer : Result (Unit {0}) StoreError) (a b : Content) → slice_get contents p ≡ Some a → WasPruned c answer a b → IsBetween v live contents → IsBetween v live (set contents p b)
between_either v live contents p c (Ok done) a b at is old = subst (λ d. IsBetween v live (set contents p d)) (sym is) (between_pruned v live contents p c a at old)
between_either v live contents p c (Err why) a b at is old = subst (IsBetween v live) (sym (ap (set contents p) is ∙ set_back contents p a at)) old

pub after_pruned_store : {S : Type 0} (content : S → Content) (health : S → Health) (IsSound : S → Type 0) (w : WorldState) (p c : ℕ) (answer : Result (Unit {0}) StoreError) (xs ys : List S)
    → IsWorld IsSound xs (over content health w xs w.cores) → IsPrunedIn content health IsSound w p c answer xs ys → IsWorld IsSound ys (over content health w ys w.cores)
after_pruned_store content health IsSound w p c answer xs ys i n =
    let k = n.1 in
    subst (λ l. IsWorld IsSound l (over content health w l w.cores)) (sym k.stores) (record {
      shape = shape_same (over content health w xs w.cores) w.live w.frames w.manager (map content (set xs p k.after)) (map health (set xs p k.after)) i.shape
          (length-map content (set xs p k.after) ∙ length-set xs p k.after ∙ sym (length-map content xs)) i.shape.manager refl;
      clean = λ all.
          let before = clean_before health xs p k.before k.after k.there k.clean all.1 in
          let s = i.clean (all.0, before.0) in
          let was = sound_at IsSound xs p k.before s.0 k.there in (
            sound_set IsSound xs p k.after s.0 (k.sound before.1 was),
            subst (λ l. Sound (remade w w.live w.frames w.cores w.manager l (map health (set xs p k.after)))) (map_set content xs p k.after)
                (sound_either (over content health w xs w.cores) p c answer (content k.before) (content k.after) (map health (set xs p k.after)) s.1 (map_at content xs p k.before k.there) n.0 (k.did before.1 was)),
          );
      between = λ all free.
          let before = clean_before health xs p k.before k.after k.there k.clean all.1 in
          let s = i.clean (all.0, before.0) in
          let was = sound_at IsSound xs p k.before s.0 k.there in
          subst (IsBetween (before_of w) w.live) (map_set content xs p k.after)
          (between_either (before_of w) w.live (map content xs) p c answer (content k.before) (content k.after) (map_at content xs p k.before k.there) (k.did before.1 was) (i.between (all.0, before.0) free));
    })

pub has_pruned : {S : Type 0} (content : S → Content) (health : S → Health) (IsSound : S → Type 0) (w : WorldState) (p c : ℕ) (answer : Result (Unit {0}) StoreError) (xs ys : List S)
    → IsWorld IsSound xs (over content health w xs w.cores) → IsPrunedIn content health IsSound w p c answer xs ys → answer ≢ Err store_errors.Present → HasPruned (over content health w xs w.cores) p answer (over content health w ys w.cores)
has_pruned content health IsSound w p c answer xs ys i n never = record {
  checkpoint = c;
  effective = n.0;
  others = refl;
  did = λ all.
      let k = n.1 in
      let before = clean_before health xs p k.before k.after k.there k.clean (subst (λ zs. all_clean (map health zs) ≡ true) k.stores all.1) in
      let s = i.clean (all.0, before.0) in (
        content k.before,
        content k.after,
        map_at content xs p k.before k.there,
        ap (map content) k.stores ∙ sym (map_set content xs p k.after),
        k.did before.1 (sound_at IsSound xs p k.before s.0 k.there),
      );
  was_clean = λ all. let k = n.1 in (clean_before health xs p k.before k.after k.there k.clean (subst (λ zs. all_clean (map health zs) ≡ true) k.stores all)).0;
  never_present = never;
  counted = counted content health IsSound p xs ys (WasPruned c answer) n.1;
  counts = called_counts content health IsSound p xs ys (WasPruned c answer) n.1;
}

-- ---- the stores in order
pub none_pruned : (w : WorldState) → ArePruned w 0 w
none_pruned w = record {
  others = refl;
  was_clean = λ all. all;
  counts = counts_stay w.health;
  stores = λ known p before at. (before, at, λ lt. absurd (omega arith), λ _. refl);
}

known_before : (mid new : WorldState) (p : ℕ) (answer : Result (Unit {0}) StoreError) → HasPruned mid p answer new → IsKnown new → IsKnown mid
known_before mid new p answer h known = (subst (λ l. All IsEmpty l) (ap (λ (x : WorldState). x.origins) h.others) known.0, h.was_clean known.1)

after_both : (old mid new : WorldState) → mid ≡ record old { contents = mid.contents; health = mid.health } → new ≡ record mid { contents = new.contents; health = new.health } → new ≡ record old { contents = new.contents; health = new.health }
after_both old mid new a b = b ∙ ap (λ (x : WorldState). record x { contents = new.contents; health = new.health }) a

pub one_pruned : (old mid new : WorldState) (k : ℕ) → ArePruned old k mid → HasPruned mid k (Ok tt) new → ArePruned old (k + 1) new
one_pruned old mid new k a h = record {
  others = after_both old mid new a.others h.others;
  was_clean = λ all. a.was_clean (h.was_clean all);
  counts = counts_then old.health mid.health new.health a.counts h.counts;
  stores = λ known p before at.
      let m = a.stores (known_before mid new k (Ok tt) h known) p before at in
      let d = h.did known in
      elim (either p k) [
        | inl same ↦
            let here : slice_get mid.contents p ≡ Some d.0 = ap (slice_get mid.contents) same ∙ d.2 in
            let was : d.0 ≡ before = once d.0 m.0 (sym here ∙ m.1) ∙ m.3 (omega arith) in
            let manager = ap (λ (x : WorldState). x.manager) a.others in (
              d.1,
              ap (λ l. slice_get l p) d.3 ∙ ap (slice_get (set mid.contents k d.1)) same ∙ set_there mid.contents k d.0 d.1 d.2,
              λ lt. (
                h.checkpoint,
                subst (λ (x : ManagerState). IsEffective x.rows p (recovered x p) h.checkpoint) manager (subst (λ q. IsEffective mid.manager.rows q (recovered mid.manager q) h.checkpoint) (sym same) h.effective),
                d.4 ∙ ap (λ (x : Content). kept_by_prune x h.checkpoint) was,
              ),
              λ le. absurd (omega arith),
            )
        | inr other ↦ (
          m.0,
          ap (λ l. slice_get l p) d.3 ∙ set_apart mid.contents k p d.1 other ∙ m.1,
          λ lt. m.2 (omega arith),
          λ le. m.3 (omega arith),
        )
      ];
}

refused_pruned : (old mid new : WorldState) (k : ℕ) (fault : StoreError) → ArePruned old k mid → HasPruned mid k (Err fault) new → ArePruned old k new
refused_pruned old mid new k fault a h = record {
  others = after_both old mid new a.others h.others;
  was_clean = λ all. a.was_clean (h.was_clean all);
  counts = counts_then old.health mid.health new.health a.counts h.counts;
  stores = λ known p before at.
      let m = a.stores (known_before mid new k (Err fault) h known) p before at in
      let d = h.did known in
      let same : new.contents ≡ mid.contents = d.3 ∙ ap (set mid.contents k) d.4 ∙ set_back mid.contents k d.0 d.2 in
      (m.0, ap (λ l. slice_get l p) same ∙ m.1, m.2, m.3);
}

pub refused_all : (old mid new : WorldState) (k : ℕ) (fault : StoreError) → ArePruned old k mid → HasPruned mid k (Err fault) new → AllPruned old (Err fault) new
refused_all old mid new k fault a h = record {
  count = k;
  pruned = refused_pruned old mid new k fault a h;
  all = tt;
  refused = λ e. h.never_present (ap Err e);
  counted = λ e. (k, failed_after old.health mid.health new.health k a.counts (h.counted e));
}

-- ---- the whole of it
manager_then : (w v z : WorldState) → ManagerPruned w.manager v.manager → z ≡ record v { contents = z.contents; health = z.health } → ManagerPruned w.manager z.manager
manager_then w v z m e = subst (λ (k : ManagerState). ManagerPruned w.manager k) (sym (ap (λ (x : WorldState). x.manager) e)) m

others_then : (w v z : WorldState) → v ≡ record w { manager = v.manager } → z ≡ record v { contents = z.contents; health = z.health } → z ≡ record w { manager = z.manager; contents = z.contents; health = z.health }
others_then w v z a b =
    b ∙ ap (λ (x : WorldState). record x { contents = z.contents; health = z.health }) a
    ∙ ap (λ m. record w { manager = m; contents = z.contents; health = z.health }) (sym (ap (λ (x : WorldState). x.manager) b))

rows_then : (w z : WorldState) → ManagerPruned w.manager z.manager → z ≡ record w { manager = z.manager; contents = z.contents; health = z.health }
    → z ≡ record w { manager = record w.manager { rows = z.manager.rows }; contents = z.contents; health = z.health }
rows_then w z m e = e ∙ ap (λ k. record w { manager = k; contents = z.contents; health = z.health }) m.others

pruned_then : (v z : WorldState) (p : ℕ) (a b : Content) → z ≡ record v { contents = z.contents; health = z.health } → StorePruned v p a b → StorePruned z p a b
pruned_then v z p a b e s = subst (λ (m : ManagerState). (c : ℕ) × IsEffective m.rows p (recovered m p) c × (b ≡ kept_by_prune a c)) (sym (ap (λ (x : WorldState). x.manager) e)) s

pub prune_happened : (w v z : WorldState) → ManagerPruned w.manager v.manager → v ≡ record w { manager = v.manager } → AllPruned v (Ok tt) z → IsKnown z → Prunes (StorePruned z) w z
prune_happened w v z m e a known = record {
  rows = (manager_then w v z m a.pruned.others).rows;
  stores = λ p before at.
      let here : slice_get v.contents p ≡ Some before = ap (λ (x : WorldState). slice_get x.contents p) e ∙ at in
      let lt = inside v.contents p before here in let count = a.all in
      let s = a.pruned.stores known p before here in
      (s.0, s.1, pruned_then v z p before s.0 a.pruned.others (s.2 (omega arith)));
  others = rows_then w z (manager_then w v z m a.pruned.others) (others_then w v z e a.pruned.others);
}

prune_stopped : (w v z : WorldState) (fault : StoreError) → ManagerPruned w.manager v.manager → v ≡ record w { manager = v.manager } → AllPruned v (Err fault) z → IsKnown z → PruneStopped w z
prune_stopped w v z refusal m e a known = record {
  rows = (manager_then w v z m a.pruned.others).rows;
  stores = λ p before at.
      let s = a.pruned.stores known p before (ap (λ (x : WorldState). slice_get x.contents p) e ∙ at) in
      (s.0, s.1, elim (less p a.count) [ inl lt ↦ inr (pruned_then v z p before s.0 a.pruned.others (s.2 lt)) | inr ge ↦ inl (s.3 ge) ]);
  others = rows_then w z (manager_then w v z m a.pruned.others) (others_then w v z e a.pruned.others);
}

failed_in : (w v z : WorldState) → v ≡ record w { manager = v.manager } → AllPruned v (Err store_errors.Fault) z → (p : ℕ) × HasFailed w p z
failed_in w v z e a = let failed = a.counted refl in (failed.0, subst (λ l. RoseAt l failed.0 z.health) (ap (λ (x : WorldState). x.health) e) failed.1)

pub prune_refused : (w v z : WorldState) (fault : StoreError) → ManagerPruned w.manager v.manager → v ≡ record w { manager = v.manager } → AllPruned v (Err fault) z → IsKnown z → Happened w Event.Prune (answers.Refused (refusal_of_store fault)) z
prune_refused w v z store_errors.Present m e a known = absurd (a.refused refl)
prune_refused w v z store_errors.Fault m e a known =
    (failed_in w v z e a, prune_stopped w v z store_errors.Fault m e a known)
prune_refused w v z store_errors.Memory m e a known = prune_stopped w v z store_errors.Memory m e a known

-- the count of a store that refused
pub prune_counted : (w v z : WorldState) (fault : StoreError) → v ≡ record w { manager = v.manager } → AllPruned v (Err fault) z → IsCounted w z (answers.Refused (refusal_of_store fault))
prune_counted w v z store_errors.Present e a = λ is. absurd (present_apart is)
prune_counted w v z store_errors.Fault e a = λ is. failed_in w v z e a
prune_counted w v z store_errors.Memory e a = λ is. absurd (memory_apart is)

pub prune_keeps : (w v z : WorldState) (end : Result (Unit {0}) StoreError) → ManagerPruned w.manager v.manager → v ≡ record w { manager = v.manager } → AllPruned v end z → Keeps w z
prune_keeps w v z end m e a =
    let n = manager_then w v z m a.pruned.others in
    record {
      size = ap process_count n.others;
      released = λ p lt. subst (λ l. IsPrefix (released_by w.manager p) l) (sym (same_released w.manager z.manager p n)) (keeps_same w.manager p lt);
      clean = λ all. ap all_clean (sym (ap (λ (x : WorldState). x.health) e)) ∙ a.pruned.was_clean all;
      counts = subst (λ l. NoneFell l z.health) (ap (λ (x : WorldState). x.health) e) a.pruned.counts;
      origins = ap (λ (x : WorldState). x.origins) a.pruned.others ∙ ap (λ (x : WorldState). x.origins) e;
    }
