-- A world whose process stores, and whose manager is told.
use Rattle.std.proofs.Common.{◌≡◌, ◌⊎◌, inl, inr, ℕ, zero, suc, ◌+◌, ◌<◌, List, [], ◌∷◌, length, take, drop, map, set, Option, Some, None, Bool, true, false, Result, Ok, Err, refl, sym, ap, ◌∙◌, subst, arith, length-set}
use Rattle.std.specs.Prelude.{slice_get, slice_index_or, IfErr, IsSome, OnOk}
use Rattle.std.specs.FinMap.{get}
use Rattle.om_stable.specs.Content.{Content, IsTaken}
use Rattle.om_stable.specs.declared.error.StoreError.{StoreError}
use Rattle.om_stable.specs.declared.error.StoreError.TheVariants.{Fault, Present}
use Rattle.om_process.specs.declared.row.PendingRow.{PendingRow}
use Rattle.om_process.specs.Claims.{AtInterval, RowOf}
use Rattle.om_process.specs.Core.{CoreState, with_pending}
use Rattle.om_process.specs.Stores.{first_logged}
use Rattle.om_recover.specs.declared.note.Note.{Note}
use Rattle.om_recover.specs.declared.note.NoteError.TheVariants.{Memory}
use Rattle.om_recover.specs.declared.row.Row.{Row}
use Rattle.om_member.specs.declared.batch.Batch.{Batch}
use Rattle.om_member.specs.declared.batch.Batch.TheVariants as batches
use Rattle.om_recover.specs.declared.row.RowKind.TheVariants.{Checkpoint, Log}
use Rattle.om_manager.specs.State.{ManagerState}
use Rattle.om_manager.specs.declared.answers.RecordError.{RecordError}
use Rattle.om_manager.specs.declared.answers.RecordError.TheVariants.{Refused}
use Rattle.om_world.specs.Changes.{IsUp, row_for, stored, has_rows, has_stored}
use Rattle.om_world.specs.World.{Health, WorldState, IsKnown, all_clean, SinceState}
use Rattle.om_world.specs.steps.Past.{Past, past_of, history}
use Rattle.om_world.specs.steps.Moves.{AreTold, Gained, IsCalled, IsTold, IsToldUpTo, HasCalled, HasTold, IsOfLog, TellsStored, after_store, since_called}
use Rattle.om_world.specs.steps.Sound.{HasBytes, HasShape, IsOld, IsPending, IsWorld, Sound, kind_of, IsBetween, before_of}
use Rattle.om_world.proofs.FailureCounts.{called_counts, counted}
use Rattle.om_world.proofs.Gaining.{sound_store, sound_clean}
use Rattle.om_world.proofs.Giving.{given_at}
use Rattle.om_world.proofs.Kept.{remade, shape_core, shape_same, sound_core}
use Rattle.om_world.proofs.Lists.{clean_before, inside, length-map, map_at, map_set, none_in, once, same_map, sound_at, sound_set, there}
use Rattle.om_world.proofs.Ordered.{notes_refused}
use Rattle.om_world.proofs.Pending.{gained_nothing, not_so, same_manager, stored_if}
use Rattle.om_world.proofs.Raising.{GoesOn, sound_manager}
use Rattle.om_take_up.proofs.RowsLemmas.{told_rows}
use Rattle.om_world.proofs.Telling.{told_goes_on, told_outputs}
use Rattle.om_world.proofs.Between.{shape_since, sound_since, stored_apart}

-- ---- one row
-- what is true of a pending row, as the manager is told it
abbrev IsTrueRow : WorldState → Row → Type 0
IsTrueRow w row = (AtInterval (history (past_of w) row.pid) row.interval (RowOf row.pid (length w.programs) row.vec row.got))
    × ((held : Content) → slice_get w.contents row.pid ≡ Some held → HasBytes held row.kind row.interval ⊎ IsOld w.manager row.pid row.kind row.interval)

true_row : (w : WorldState) (p : ℕ) (a : Content) (row : PendingRow) → slice_get w.contents p ≡ Some a → IsPending (past_of w) p a row → IsTrueRow w (row_for p row)
true_row w p a row at k = go row.ckpt refl
  where
    go : (b : Bool) → row.ckpt ≡ b → IsTrueRow w (row_for p row)
    go true e = rw e (k.row_of, λ held f. subst (λ (h : Content). HasBytes h Checkpoint row.x ⊎ IsOld w.manager p Checkpoint row.x) (once a held (sym at ∙ f)) (rw e at k.backed))
    go false e = rw e (k.row_of, λ held f. subst (λ (h : Content). HasBytes h Log row.x ⊎ IsOld w.manager p Log row.x) (once a held (sym at ∙ f)) (rw e at k.backed))

row_pid : (p : ℕ) (row : PendingRow) → (row_for p row).pid ≡ p
row_pid p row = go row.ckpt refl
  where
    go : (b : Bool) → row.ckpt ≡ b → (row_for p row).pid ≡ p
    go true e = rw e refl
    go false e = rw e refl

row_begun : (v : Past) (p : ℕ) (a : Content) (row : PendingRow) → IsPending v p a row → (row_for p row).kind ≡ Log → 0 < (row_for p row).interval
row_begun v p a row k = go row.ckpt refl
  where
    apart : Checkpoint ≡ Log → ⊥
    apart e = cc

    go : (b : Bool) → row.ckpt ≡ b → (row_for p row).kind ≡ Log → 0 < (row_for p row).interval
    go true e = rw e (λ f. absurd (apart f))
    go false e = rw e (λ f. k.begun e)

abbrev with_m : WorldState → ManagerState → WorldState
with_m w m = remade w w.live w.frames w.cores m w.contents w.health

shape_told : (w : WorldState) (m : ManagerState) (round p : ℕ) (row : PendingRow) (note : Note) → HasShape w → IsTold w.manager round p row (Ok note) m → HasShape (with_m w m)
shape_told w m round p row note h t = shape_same w w.live w.frames m w.contents w.health h refl t.keeps.sound (sym t.keeps.below.same_places)

sound_told : (w : WorldState) (m : ManagerState) (round p : ℕ) (a : Content) (row : PendingRow) (note : Note) → HasShape w → Sound w → slice_get w.contents p ≡ Some a → IsPending (past_of w) p a row → IsTold w.manager round p row (Ok note) m → Sound (with_m w m)
sound_told w m round p a row note h s at k t = sound_manager w m s (told_goes_on w.manager m round p row note h.manager t)
    (λ q i o f. s.outputs q i o (ap (λ outputs. slice_get (slice_index_or outputs q []) i) (sym (told_outputs w.manager m round p row note t)) ∙ f))
    (λ other has. elim (told_rows w.manager m round p row note t other has) [ inl old ↦ inl old | inr new ↦ inr (subst (IsTrueRow w) (sym new) (true_row w p a row at k)) ])

pending_raised : (v : Past) (m : ManagerState) (p : ℕ) (a : Content) (row : PendingRow) → GoesOn v.manager m → IsPending v p a row → IsPending (record { programs = v.programs; live = v.live; manager = m }) p a row
pending_raised v m p a row g k = record { row_of = k.row_of; begun = k.begun; backed = elim k.backed [ inl has ↦ inl has | inr is ↦ inr (g.old p (kind_of row) row.x is) ] }

-- ---- rows in order
pub all_told : (w : WorldState) (m : ManagerState) (round p : ℕ) (a : Content) (rows : List PendingRow) → HasShape w → Sound w → slice_get w.contents p ≡ Some a → ((i : ℕ) (row : PendingRow) → slice_get rows i ≡ Some row → IsPending (past_of w) p a row) → AreTold w.manager round p rows m
    → HasShape (with_m w m) × Sound (with_m w m) × (m.round ≡ w.manager.round) × ((row : PendingRow) → IsPending (past_of w) p a row → IsPending (past_of (with_m w m)) p a row)
all_told w m round p a [] h s at all same = subst (λ k. HasShape (with_m w k) × Sound (with_m w k) × (k.round ≡ w.manager.round) × ((row : PendingRow) → IsPending (past_of w) p a row → IsPending (past_of (with_m w k)) p a row)) (sym same) (h, s, refl, λ row k. k)
all_told w m round p a (row ∷ rows) h s at all told =
    let mid = told.0 in let t = told.2 in
    let g = told_goes_on w.manager mid round p row told.1 h.manager t in
    let k = all 0 row refl in
    let rest = all_told (with_m w mid) m round p a rows (shape_told w mid round p row told.1 h t) (sound_told w mid round p a row told.1 h s at k t) at (λ i r f. pending_raised (past_of w) mid p a r g (all (suc i) r f)) told.3 in
    (rest.0, rest.1, rest.2 ∙ g.round, λ r q. rest.3 r (pending_raised (past_of w) mid p a r g q))

shape_all : (w : WorldState) (m : ManagerState) (round p : ℕ) (rows : List PendingRow) → HasShape w → AreTold w.manager round p rows m → HasShape (with_m w m)
shape_all w m round p [] h same = subst (λ k. HasShape (with_m w k)) (sym same) h
shape_all w m round p (row ∷ rows) h told = shape_all (with_m w told.0) m round p rows (shape_told w told.0 round p row told.1 h told.2) told.3

at_take : (rows : List PendingRow) (k i : ℕ) (row : PendingRow) → slice_get (take k rows) i ≡ Some row → slice_get rows i ≡ Some row
at_take [] zero i row at = at
at_take [] (suc k) i row at = at
at_take (r ∷ rows) zero i row at = absurd (none_in i row at)
at_take (r ∷ rows) (suc k) zero row at = at
at_take (r ∷ rows) (suc k) (suc i) row at = at_take rows k i row at

at_drop : (rows : List PendingRow) (k i : ℕ) (row : PendingRow) → slice_get (drop k rows) i ≡ Some row → slice_get rows (k + i) ≡ Some row
at_drop rows zero i row at = ap (slice_get rows) (plain i) ∙ at
  where
    plain : (i : ℕ) → 0 + i ≡ i
    plain i = omega arith
at_drop [] (suc k) i row at = absurd (none_in i row at)
at_drop (r ∷ rows) (suc k) i row at = ap (slice_get (r ∷ rows)) (next k i) ∙ at_drop rows k i row at
  where
    next : (k i : ℕ) → suc k + i ≡ suc (k + i)
    next k i = omega arith

-- a core whose first pending rows were noted
abbrev pub IsNotedIn : WorldState → ℕ → ℕ → Result (Unit {0}) RecordError → ManagerState → List (Option CoreState) → Type 0
IsNotedIn w p count end m cs = (c : CoreState) × (slice_get w.cores p ≡ Some (Some c)) × IsToldUpTo w.manager c.round p c.pending count end m
    × (cs ≡ set w.cores p (Some (with_pending c (drop count c.pending))))

-- what is known once rows were told
abbrev IsKnownAfter : WorldState → ℕ → ManagerState → CoreState → Type 0
IsKnownAfter w p m c = HasShape (with_m w m) × Sound (with_m w m) × (m.round ≡ w.manager.round) × ((i : ℕ) (row : PendingRow) → slice_get c.pending i ≡ Some row → (a : Content) × IsPending (past_of (with_m w m)) p a row)

known_after : (w : WorldState) (p count : ℕ) (end : Result (Unit {0}) RecordError) (m : ManagerState) (c : CoreState) → HasShape w → Sound w → IsUp w p → slice_get w.cores p ≡ Some (Some c) → IsToldUpTo w.manager c.round p c.pending count end m → IsKnownAfter w p m c
known_after w p count end m c h s up at t =
    let short = inside w.cores p (Some c) at in let long = h.cores in let stores = h.stores in
    let store = there w.contents p (omega arith) in
    let r = s.running p c store.0 at store.1 (inl up) in
    let all = all_told w m c.round p store.0 (take count c.pending) h s store.1 (λ i row f. r.pending i row (at_take c.pending count i row f)) t.done in
    (all.0, all.1, all.2, λ i row f. (store.0, all.3 row (r.pending i row f)))

pub after_note : {S : Type 0} (IsSound : S → Type 0) (xs : List S) (w : WorldState) (p count : ℕ) (end : Result (Unit {0}) RecordError) (m : ManagerState) (cs : List (Option CoreState)) → IsWorld IsSound xs w → IsUp w p → TellsStored w p → IsNotedIn w p count end m cs
    → IsWorld IsSound xs (remade w w.live w.frames cs m w.contents w.health)
after_note IsSound xs w p count end m cs i up since n =
    let c = n.0 in let at = n.1 in let t = n.2 in
    let d = with_pending c (drop count c.pending) in
    let h = shape_all w m c.round p (take count c.pending) i.shape t.done in
    subst (λ l. IsWorld IsSound xs (remade w w.live w.frames l m w.contents w.health)) (sym n.3) (record {
      shape = shape_core (with_m w m) p c d w.live w.frames m w.contents w.health h at refl refl refl h.manager refl;
      clean = λ all.
          let s = i.clean all in let k = known_after w p count end m c i.shape s.1 up at t in (
            s.0,
            sound_core (with_m w m) p c d k.1 at (λ held r. record { state = r.state; kept = r.kept; log = r.log; pending = λ j row f. r.pending (count + j) row (at_drop c.pending count j row f); above = record { receipts = r.above.receipts; checkpoints = r.above.checkpoints } })
                (λ u. record { round = u.round; starts = u.starts; inc = u.inc; away = u.away }) refl refl,
          );
      between = λ all free.
          let none = not_so (has_rows c.pending) w.since.stored (since.tells c at) free in
          subst (λ k. IsBetween (before_of (with_m w k)) w.live w.contents) (sym (same_manager c.pending count c.round p w.manager m none t.done)) (i.between all free);
    })

refused_memory : (w : WorldState) (p count : ℕ) (end : Result (Unit {0}) RecordError) (m : ManagerState) (c : CoreState) → HasShape w → Sound w → IsUp w p → slice_get w.cores p ≡ Some (Some c) → IsToldUpTo w.manager c.round p c.pending count end m → IfErr end (λ fault. fault ≡ Refused Memory)
refused_memory w p count (Ok done) m c h s up at t = tt
refused_memory w p count (Err fault) m c h s up at t =
    let k = known_after w p count (Err fault) m c h s up at t in
    let f = t.refused in
    let q = k.3 count f.0 f.1 in
    let row = row_for p f.0 in
    let short = inside w.cores p (Some c) at in let long = h.cores in
    let lt : p < length w.programs = omega arith in
    let pid = row_pid p f.0 in
    notes_refused (with_m w m) p c.round row fault k.0 k.1 ((s.up p c at up).round ∙ sym k.2) (subst (λ o. o < length w.programs) (sym pid) lt) (pending_claim w p m q.0 f.0 q.1) (row_begun (past_of (with_m w m)) p q.0 f.0 q.1) f.2
  where
    pending_claim : (w : WorldState) (p : ℕ) (m : ManagerState) (a : Content) (row : PendingRow) → IsPending (past_of (with_m w m)) p a row → AtInterval (history (past_of (with_m w m)) (row_for p row).pid) (row_for p row).interval (RowOf (row_for p row).pid (length w.programs) (row_for p row).vec (row_for p row).got)
    pending_claim w p m a row k = go row.ckpt refl
      where
        go : (b : Bool) → row.ckpt ≡ b → AtInterval (history (past_of (with_m w m)) (row_for p row).pid) (row_for p row).interval (RowOf (row_for p row).pid (length w.programs) (row_for p row).vec (row_for p row).got)
        go true e = rw e k.row_of
        go false e = rw e k.row_of

pub has_told : {S : Type 0} (IsSound : S → Type 0) (xs : List S) (w : WorldState) (p count : ℕ) (end : Result (Unit {0}) RecordError) (m : ManagerState) (cs : List (Option CoreState)) → IsWorld IsSound xs w → IsUp w p → IsNotedIn w p count end m cs
    → HasTold w p count end (remade w w.live w.frames cs m w.contents w.health)
has_told IsSound xs w p count end m cs i up n = record {
  core = n.0;
  there = n.1;
  told = n.2;
  others = ap (λ l. remade w w.live w.frames l m w.contents w.health) n.3;
  memory = λ all. let s = i.clean all in refused_memory w p count end m n.0 i.shape s.1 up n.1 n.2;
}

-- ---- a store that was called
-- the world once it is kept that a process has stored
abbrev pub with_since : Batch → CoreState → Result (Unit {0}) StoreError → WorldState → WorldState
with_since kind c answer w = record w { since = since_called kind c answer w.since }

world_stored : {S : Type 0} (IsSound : S → Type 0) (xs : List S) (w : WorldState) (b : Bool) → IsWorld IsSound xs w → IsWorld IsSound xs (record w { since = has_stored b w.since })
world_stored IsSound xs w true i = record {
  shape = shape_since w (has_stored true w.since) i.shape;
  clean = λ known. let s = i.clean known in (s.0, sound_since w (has_stored true w.since) s.1);
  between = λ known free. absurd (stored_apart true refl free);
}
world_stored IsSound xs w false i = i

pub world_since : {S : Type 0} (IsSound : S → Type 0) (xs : List S) (w : WorldState) (kind : Batch) (c : CoreState) (answer : Result (Unit {0}) StoreError) → IsWorld IsSound xs w → IsWorld IsSound xs (with_since kind c answer w)
world_since IsSound xs w kind c (Ok done) i = world_stored IsSound xs w (has_rows (stored kind c).pending) i
world_since IsSound xs w kind c (Err why) i = i

-- where rows of the process are pending once it has stored, it is kept that one has
abbrev pub KeepsStored : Batch → List (Option CoreState) → ℕ → SinceState → Result (Unit {0}) StoreError → Type 0
KeepsStored kind cs p since answer = OnOk answer ((c : CoreState) → slice_get cs p ≡ Some (Some c) → has_rows (stored kind c).pending ≡ true → since.stored ≡ true)

pub stored_since : (kind : Batch) (cs : List (Option CoreState)) (p : ℕ) (c : CoreState) → slice_get cs p ≡ Some (Some c) → (answer : Result (Unit {0}) StoreError) (since : SinceState) → KeepsStored kind cs p (since_called kind c answer since) answer
stored_since kind cs p c at (Ok done) since = λ d is rows. stored_if (has_rows (stored kind c).pending) since (ap (λ x. has_rows (stored kind x).pending) (once c d (once (Some c) (Some d) (sym at ∙ is))) ∙ rows)
stored_since kind cs p c at (Err why) since = tt

abbrev pub IsCalledIn : {S : Type 0} → (S → Content) → (S → Health) → (S → Type 0) → Batch → List (Option CoreState) → ℕ → Result (Unit {0}) StoreError → List S → List S → List (Option CoreState) → Type 0
IsCalledIn content health IsSound kind cores p answer xs ys cs = (c : CoreState) × (slice_get cores p ≡ Some (Some c)) × (cs ≡ set cores p (Some (after_store kind c answer))) × IsCalled content health IsSound (answer ≡ Err Fault) xs ys p (Gained kind c answer)

abbrev pub over : {S : Type 0} → (S → Content) → (S → Health) → WorldState → List S → List (Option CoreState) → WorldState
over content health w xs cs = remade w w.live w.frames cs w.manager (map content xs) (map health xs)

same_stored : (kind : Batch) (c : CoreState) → ((stored kind c).own ≡ c.own) × ((stored kind c).now ≡ c.now)
same_stored batches.Log c = (refl, refl)
same_stored (batches.First k) c = (refl, refl)
same_stored batches.Checkpoint c = (refl, refl)

pub after_called : {S : Type 0} (content : S → Content) (health : S → Health) (IsSound : S → Type 0) (kind : Batch) (w : WorldState) (p : ℕ) (answer : Result (Unit {0}) StoreError) (xs ys : List S) (cs : List (Option CoreState))
    → IsWorld IsSound xs (over content health w xs w.cores) → IsUp w p → KeepsStored kind w.cores p w.since answer → IsCalledIn content health IsSound kind w.cores p answer xs ys cs → IsWorld IsSound ys (over content health w ys cs)
after_called content health IsSound kind w p (Ok done) xs ys cs i up since n =
    let c = n.0 in let at = n.1 in let k = n.3 in
    let same = same_stored kind c in
    subst (λ l. IsWorld IsSound l (over content health w l cs)) (sym k.stores) (subst (λ l. IsWorld IsSound (set xs p k.after) (over content health w (set xs p k.after) l)) (sym n.2) (record {
      shape = shape_core (over content health w xs w.cores) p c (stored kind c) w.live w.frames w.manager (map content (set xs p k.after)) (map health (set xs p k.after)) i.shape at same.0 (ap (λ (q : _). length q.vec) same.1)
          (length-map content (set xs p k.after) ∙ length-set xs p k.after ∙ sym (length-map content xs)) i.shape.manager refl;
      clean = λ all.
          let before = clean_before health xs p k.before k.after k.there k.clean all.1 in
          let s = i.clean (all.0, before.0) in
          let was = sound_at IsSound xs p k.before s.0 k.there in (
            sound_set IsSound xs p k.after s.0 (k.sound before.1 was),
            subst (λ l. Sound (remade w w.live w.frames (set w.cores p (Some (stored kind c))) w.manager l (map health (set xs p k.after)))) (map_set content xs p k.after)
                (sound_store kind (over content health w xs w.cores) p (content k.before) (content k.after) c (map health (set xs p k.after)) i.shape s.1 at (map_at content xs p k.before k.there) (inl up) (k.did before.1 was)),
          );
      between = λ all free.
          let before = clean_before health xs p k.before k.after k.there k.clean all.1 in
          let s = i.clean (all.0, before.0) in
          let was = sound_at IsSound xs p k.before s.0 k.there in
          let none = not_so (has_rows (stored kind c).pending) w.since.stored (since c at) free in
          subst (IsBetween (before_of w) w.live) (same_map content xs p k.before k.after k.there (gained_nothing kind c (content k.before) (content k.after) none (k.did before.1 was))) (i.between (all.0, before.0) free);
    }))
after_called content health IsSound kind w p (Err why) xs ys cs i up since n =
    let c = n.0 in let at = n.1 in let k = n.3 in
    let back = n.2 ∙ given_at w.cores p c at in
    subst (λ l. IsWorld IsSound l (over content health w l cs)) (sym k.stores) (subst (λ l. IsWorld IsSound (set xs p k.after) (over content health w (set xs p k.after) l)) (sym back) (record {
      shape = shape_same (over content health w xs w.cores) w.live w.frames w.manager (map content (set xs p k.after)) (map health (set xs p k.after)) i.shape
          (length-map content (set xs p k.after) ∙ length-set xs p k.after ∙ sym (length-map content xs)) i.shape.manager refl;
      clean = λ all.
          let before = clean_before health xs p k.before k.after k.there k.clean all.1 in
          let s = i.clean (all.0, before.0) in
          let was = sound_at IsSound xs p k.before s.0 k.there in (
            sound_set IsSound xs p k.after s.0 (k.sound before.1 was),
            subst (λ l. Sound (remade w w.live w.frames w.cores w.manager l (map health (set xs p k.after)))) (same_map content xs p k.before k.after k.there (same_content kind c why (content k.before) (content k.after) (k.did before.1 was)))
                (sound_clean (over content health w xs w.cores) (map content xs) (map health xs) (map health (set xs p k.after)) s.1),
          );
      between = λ all free.
          let before = clean_before health xs p k.before k.after k.there k.clean all.1 in
          let s = i.clean (all.0, before.0) in
          let was = sound_at IsSound xs p k.before s.0 k.there in
          subst (IsBetween (before_of w) w.live) (same_map content xs p k.before k.after k.there (same_content kind c why (content k.before) (content k.after) (k.did before.1 was))) (i.between (all.0, before.0) free);
    }))
  where
    same_content : (kind : Batch) (c : CoreState) (why : StoreError) (a b : Content) → Gained kind c (Err why) a b → b ≡ a
    same_content batches.Log c why a b g = g.0
    same_content (batches.First k) c why a b g = g.0
    same_content batches.Checkpoint c why a b g = g.0

-- what the call did, as the world is told it
pub has_called : {S : Type 0} (content : S → Content) (health : S → Health) (IsSound : S → Type 0) (kind : Batch) (w : WorldState) (p : ℕ) (answer : Result (Unit {0}) StoreError) (xs ys : List S) (cs : List (Option CoreState))
    → IsWorld IsSound xs (over content health w xs w.cores) → IsUp w p → (n : IsCalledIn content health IsSound kind w.cores p answer xs ys cs) → HasCalled kind (over content health w xs w.cores) p answer (with_since kind n.0 answer (over content health w ys cs))
has_called content health IsSound kind w p answer xs ys cs i up n = record {
  core = n.0;
  there = n.1;
  others = ap (λ l. with_since kind n.0 answer (over content health w ys l)) n.2;
  since = refl;
  did = λ all. let d = done all in (content n.3.before, content n.3.after, d.0, d.1, d.2);
  was_clean = λ all. let k = n.3 in (clean_before health xs p k.before k.after k.there k.clean (subst (λ zs. all_clean (map health zs) ≡ true) k.stores all)).0;
  counted = counted content health IsSound p xs ys (Gained kind n.0 answer) n.3;
  counts = called_counts content health IsSound p xs ys (Gained kind n.0 answer) n.3;
  free = λ all log present. let d = done all in taken kind d.2 log present d.3;
}
  where
    done : IsKnown (over content health w ys cs) → (slice_get (map content xs) p ≡ Some (content n.3.before)) × (map content ys ≡ set (map content xs) p (content n.3.after)) × Gained kind n.0 answer (content n.3.before) (content n.3.after)
        × ((k : ℕ) → IsTaken (content n.3.before).receipts (first_logged n.0) k → ⊥)
    done all =
        let k = n.3 in let at = n.1 in
        let before = clean_before health xs p k.before k.after k.there k.clean (subst (λ zs. all_clean (map health zs) ≡ true) k.stores all.1) in
        let s = i.clean (all.0, before.0) in
        let was = sound_at IsSound xs p k.before s.0 k.there in
        let here = map_at content xs p k.before k.there in (
          here,
          ap (map content) k.stores ∙ sym (map_set content xs p k.after),
          k.did before.1 was,
          λ j t. let r = s.1.running p n.0 (content k.before) at here (inl up) in some_none (get (content k.before).receipts t.0) (r.above.receipts t.0 t.1) t.3,
        )
      where
        some_none : (o : Option (List ℕ)) → o ≡ None → IsSome o → ⊥
        some_none o e f = cc

    taken : (of : Batch) → Gained of n.0 answer (content n.3.before) (content n.3.after) → IsOfLog of → answer ≡ Err Present → ((k : ℕ) → IsTaken (content n.3.before).receipts (first_logged n.0) k → ⊥) → ⊥
    taken batches.Log g log present none = none (length n.0.log) ((subst (λ a. Gained batches.Log n.0 a (content n.3.before) (content n.3.after)) present g).1 refl)
    taken (batches.First k) g log present none = none (length (take k n.0.log)) ((subst (λ a. Gained (batches.First k) n.0 a (content n.3.before) (content n.3.after)) present g).1 refl)
    taken batches.Checkpoint g log present none = absurd log
