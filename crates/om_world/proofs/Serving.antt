-- What stores could serve is stable in the rows that their records stand for.
use Rattle.std.proofs.Common.{◌≡◌, inl, inr, ℕ, zero, suc, ◌+◌, ◌-◌, ◌<◌, ◌≤◌, List, [], ◌∷◌, ◌++◌, Some, None, Option, Bool, true, false, refl, sym, ap, ◌∙◌, subst, arith}
use Rattle.std.specs.Prelude.{IsSome, min, nat_eq, slice_get}
use Rattle.std.specs.FinMap.{get}
use Rattle.std.proofs.lemmas.Bool.Decides.{nat_tests}
use Rattle.om_format.specs.Checkpoints.{CheckpointRecord}
use Rattle.om_look.specs.Rows.{AreRowsOf, AreSegments, FollowOn, base_row, interval_before, receipts_behind, rows_of_segments}
use Rattle.om_process.specs.declared.limits.TheConstants.{LAST_INTERVAL}
use Rattle.om_process.specs.declared.row.PendingRow.{PendingRow}
use Rattle.om_stable.specs.Content.{Content, Records}
use Rattle.om_stable.specs.steps.Between.{AreAllBetween}
use Rattle.om_stable.proofs.BetweenLemmas.{between-AreAllBetween}
use Rattle.om_world.proofs.Raising.{less}
use Rattle.om_world.specs.Disk.{CanServe}

none_some : IsSome {T = List ℕ} None → ⊥
none_some is = cc

-- a row of this kind of this interval is among them
abbrev pub IsAmong : Bool → ℕ → List PendingRow → Type 0
IsAmong ckpt x rows = (i : ℕ) × (row : PendingRow) × (slice_get rows i ≡ Some row) × (row.ckpt ≡ ckpt) × (row.x ≡ x)

among_first : (ckpt : Bool) (x : ℕ) (row : PendingRow) (rows : List PendingRow) → IsAmong ckpt x rows → IsAmong ckpt x (row ∷ rows)
among_first ckpt x row rows a = (suc a.0, a.1, a.2, a.3, a.4)

among_left : (ckpt : Bool) (x : ℕ) (a b : List PendingRow) → IsAmong ckpt x a → IsAmong ckpt x (a ++ b)
among_left ckpt x a b m = (m.0, m.1, front a m.0 m.2, m.3, m.4)
  where
    front : (a : List PendingRow) (i : ℕ) → slice_get a i ≡ Some m.1 → slice_get (a ++ b) i ≡ Some m.1
    front [] i at = cc
    front (y ∷ a) zero at = at
    front (y ∷ a) (suc i) at = front a i at

among_right : (ckpt : Bool) (x : ℕ) (a b : List PendingRow) → IsAmong ckpt x b → IsAmong ckpt x (a ++ b)
among_right ckpt x [] b m = m
among_right ckpt x (y ∷ a) b m = among_first ckpt x y (a ++ b) (among_right ckpt x a b m)

-- ---- receipts without a gap
-- records in ascending order above an interval, with each up to another
record Runs (after to : ℕ) (records : List (ℕ × List ℕ)) : Type 0 where
  above : (i : ℕ) (row : ℕ × List ℕ) → slice_get records i ≡ Some row → after < row.0
  rise : (i j : ℕ) (row later : ℕ × List ℕ) → i < j → slice_get records i ≡ Some row → slice_get records j ≡ Some later → row.0 < later.0
  all : (y : ℕ) → after < y → y ≤ to → (i : ℕ) × (row : ℕ × List ℕ) × (slice_get records i ≡ Some row) × (row.0 ≡ y)

runs_on : (after to : ℕ) (e : ℕ × List ℕ) (records : List (ℕ × List ℕ)) → e.0 ≡ after + 1 → Runs after to (e ∷ records) → Runs (after + 1) to records
runs_on after to e records is r = record {
  above = λ i row at. let lt = r.rise 0 (suc i) e row (omega arith) refl at in omega arith;
  rise = λ i j row later lt at next. r.rise (suc i) (suc j) row later (omega arith) at next;
  all = λ y lt le. let a = r.all y (omega arith) le in behind y lt a.0 a.1 a.2 a.3;
}
  where
    behind : (y : ℕ) → after + 1 < y → (i : ℕ) (row : ℕ × List ℕ) → slice_get (e ∷ records) i ≡ Some row → row.0 ≡ y → (i : ℕ) × (row : ℕ × List ℕ) × (slice_get records i ≡ Some row) × (row.0 ≡ y)
    behind y lt zero row at same = let first : e ≡ row = cc in let here : e.0 ≡ row.0 = ap (λ (x : ℕ × List ℕ). x.0) first in absurd (omega arith)
    behind y lt (suc i) row at same = (i, row, at, same)

-- the record of the next interval comes first
next_first : (after to : ℕ) (e : ℕ × List ℕ) (records : List (ℕ × List ℕ)) → after < to → Runs after to (e ∷ records) → e.0 ≡ after + 1
next_first after to e records lt r = let a = r.all (after + 1) (omega arith) (omega arith) in at_first a.0 a.1 a.2 a.3
  where
    at_first : (i : ℕ) (row : ℕ × List ℕ) → slice_get (e ∷ records) i ≡ Some row → row.0 ≡ after + 1 → e.0 ≡ after + 1
    at_first zero row at same = let first : e ≡ row = cc in ap (λ (x : ℕ × List ℕ). x.0) first ∙ same
    at_first (suc i) row at same =
        let low = r.above 0 e refl in
        let high = r.rise 0 (suc i) e row (omega arith) refl at in
        absurd (omega arith)

none_there : (i : ℕ) (row : ℕ × List ℕ) → slice_get [] i ≡ Some row → ⊥
none_there i row at = cc

followed : (own n to : ℕ) (before : PendingRow) (records : List (ℕ × List ℕ)) (rows : List PendingRow) → Runs before.x to records → FollowOn own n before records rows
    → (y : ℕ) → before.x < y → y ≤ to → IsAmong false y rows
followed own n to before [] [] r on y lt le = let a = r.all y lt le in absurd (none_there a.0 a.1 a.2)
followed own n to before (e ∷ records) [] r on y lt le = absurd (on (next_first before.x to e records (omega arith) r))
followed own n to before [] (row ∷ rows) r on y lt le = absurd on
followed own n to before (e ∷ records) (row ∷ rows) r on y lt le =
    let at : row.x ≡ before.x + 1 = ap (λ (t : PendingRow). t.x) on.5 in
    let log : row.ckpt ≡ false = ap (λ (t : PendingRow). t.ckpt) on.5 in
    let more : Runs row.x to records = subst (λ x. Runs x to records) (sym at) (runs_on before.x to e records on.3 r) in
    elim (less row.x y) [
      | inl later ↦ among_first false y row rows (followed own n to row records rows more on.6 y later le)
      | inr here ↦ let is : row.x ≡ y = omega arith in (0, row, refl, log, is)
    ]

-- ---- a segment
-- the records behind a checkpoint, where all up to an interval are there
runs_behind : (held : Records) (from to x : ℕ) → x ≤ to → x ≤ LAST_INTERVAL → ((y : ℕ) → from < y → y ≤ x → IsSome (get held y))
    → (records : List (ℕ × List ℕ)) → AreAllBetween held from (min (to + 1) LAST_INTERVAL) records → Runs from x records
runs_behind held from to x le last there records a = record {
  above = λ i row at. (a.within i row at).0;
  rise = a.rise;
  all = λ y lt high. found y lt high (get held y) refl (there y lt high);
}
  where
    found : (y : ℕ) → from < y → y ≤ x → (o : Option (List ℕ)) → get held y ≡ o → IsSome (get held y) → (i : ℕ) × (row : ℕ × List ℕ) × (slice_get records i ≡ Some row) × (row.0 ≡ y)
    found y lt high None is some = absurd (none_some (rw is at some))
    found y lt high (Some bytes) is some = let f = a.are_all y bytes lt (omega arith) is in (f.0, (y, bytes), f.1, refl)

-- what stands in rows for an interval that a store serves
abbrev pub Serves : ℕ → List PendingRow → Type 0
Serves x rows = (from : ℕ) × (from ≤ x) × IsAmong true from rows × ((y : ℕ) → from < y → y ≤ x → IsAmong false y rows)

segments_serve : (own n : ℕ) (held : Content) (o : Option ℕ) (to : ℕ) (segments : List (CheckpointRecord × List PendingRow)) (x : ℕ) → o ≡ Some to → to ≤ LAST_INTERVAL → x ≤ to
    → CanServe held x → AreSegments own n held o segments → Serves x (rows_of_segments segments)
segments_serve own n held None to segments x is last le can a = cc
segments_serve own n held (Some top) to [] x is last le can a =
    let same : top ≡ to = cc in
    let b = can.below in
    let free = a can.from (omega arith) (omega arith) in
    absurd (none_some (rw free at can.checkpoint))
segments_serve own n held (Some top) to (s ∷ more) x is last le can a =
    let same : top ≡ to = cc in
    let e : ℕ = s.0.head.interval in
    let effective = a.0.effective in
    let b = can.below in
    let at_least : can.from ≤ e = effective.greatest can.from (omega arith) can.checkpoint in
    elim (less x e) [
      | inl beyond ↦
          let on = segments_serve own n held (interval_before e) (e - 1) more x (lower e (omega arith)) (let w = effective.within in omega arith) (omega arith) can a.1 in (
            on.0,
            on.1,
            among_right true on.0 (base_row s.0 ∷ s.1) (rows_of_segments more) on.2,
            λ y lt high. among_right false y (base_row s.0 ∷ s.1) (rows_of_segments more) (on.3 y lt high),
          )
      | inr reached ↦
          let records = receipts_behind held e top in
          let runs = runs_behind held.receipts e top x (omega arith) (omega arith) (λ y lt high. can.receipts y (omega arith) high) records (between-AreAllBetween held.receipts e (min (top + 1) LAST_INTERVAL)) in (
            e,
            reached,
            (0, base_row s.0, refl, refl, refl),
            λ y lt high. among_left false y (base_row s.0 ∷ s.1) (rows_of_segments more) (among_first false y (base_row s.0) s.1 (followed own n x (base_row s.0) records s.1 runs a.0.follow y lt high)),
          )
    ]
  where
    lower : (e : ℕ) → 0 < e → interval_before e ≡ Some (e - 1)
    lower e lt = let not : nat_eq e 0 ≡ false = grind (arith, nat_tests) in rw not refl

-- where a store can serve an interval, its rows do
pub rows_serve : (own n : ℕ) (held : Content) (rows : List PendingRow) (x : ℕ) → x ≤ LAST_INTERVAL → CanServe held x → AreRowsOf own n held rows → Serves x rows
rows_serve own n held rows x le can a = subst (Serves x) (sym a.2) (segments_serve own n held (Some LAST_INTERVAL) LAST_INTERVAL a.0 x refl (omega arith) le can a.1)
