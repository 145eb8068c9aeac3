use Rattle.std.proofs.Common.{◌≡◌, ℕ, inl, inr, refl, sym, ◌∙◌, ap, subst, true, false, true≢false, Some, None, List, [], ◌∷◌, cond, map}
use Rattle.std.specs.FinSet as set
use Rattle.std.specs.Ordering.{is_eq}
use Rattle.std.specs.Cmp.{tied_itself, Equal-is}
use Rattle.std.specs.Map.{keys_of}
use Rattle.std.specs.BTreeMap.{is_at}
use Rattle.std.proofs.lemmas.Cmp.{eq_by_cmp_equiv}
use Rattle.std.proofs.lemmas.Map.{lookup-none}
use Rattle.std.proofs.lemmas.Map.Entries.{none_past_head}
use Rattle.std.proofs.lemmas.Map.Keys.{IsDistinct-from_sorted, sorted_tail}
use Rattle.om_recover.specs.Rows.{HasRow, row_cmp}
use Rattle.om_recover.specs.steps.Nearest.{place_cmp, at, AreSorted}
use Rattle.om_recover.specs.declared.row.Row.{Row}
use Rattle.om_recover.proofs.PlaceLemmas.{places_total, exact_places}
use Rattle.om_recover.proofs.RowsLemmas.{of_inserted, inserted, kept}

-- where an entry stands is no other's place
pub here : (e : ℕ × ℕ) → is_at (place_cmp e) e ≡ true
here e = ap is_eq (tied_itself places_total e)

-- what the entries have at a place is among their rows
pub to_rows : {X : Type 0} (f : (ℕ × ℕ) × X → Row) (entries : List ((ℕ × ℕ) × X)) (p x : ℕ) (value : X) → at entries p x ≡ Some value → HasRow (set.from_list (map f entries)) (f ((p, x), value))
to_rows f [] p x value is = absurd (cc)
to_rows {X} f (e ∷ entries) p x value is =
    elim (is_at (place_cmp (p, x)) e.0) as (λ b. is_at (place_cmp (p, x)) e.0 ≡ b → cond b (Some e.1) (at entries p x) ≡ Some value → HasRow (set.from_list (map f (e ∷ entries))) (f ((p, x), value))) [
      | true ↦ λ same found.
          let place : (p, x) ≡ e.0 = exact_places (p, x) e.0 ((Equal-is (place_cmp (p, x) e.0)).0 same) in
          let one : e.1 ≡ value = cc in
          subst (HasRow (set.from_list (map f (e ∷ entries)))) (ap (λ (k : ℕ × ℕ). f (k, e.1)) (sym place) ∙ ap (λ (v : X). f ((p, x), v)) one) (inserted (set.from_list (map f entries)) (f e))
      | false ↦ λ _ found. kept (set.from_list (map f entries)) (f e) _ (to_rows f entries p x value found)
    ] refl is

-- and each of their rows is what they have at a place
pub of_rows : {X : Type 0} (f : (ℕ × ℕ) × X → Row) (entries : List ((ℕ × ℕ) × X)) (row : Row) → AreSorted entries → HasRow (set.from_list (map f entries)) row
    → (p : ℕ) × (x : ℕ) × (value : X) × (at entries p x ≡ Some value) × (row ≡ f ((p, x), value))
of_rows f [] row sorted there = absurd (true≢false (sym there ∙ set.contains-empty row_cmp row))
of_rows {X} f (e ∷ entries) row sorted there = elim (of_inserted (set.from_list (map f entries)) (f e) row there) [
  | inl is ↦ (e.0.0, e.0.1, e.1, ap (λ b. cond b (Some e.1) (at entries e.0.0 e.0.1)) (here e.0), is)
  | inr later ↦
      let found = of_rows f entries row (sorted_tail place_cmp e.0 (keys_of entries) sorted) later in
      let p = found.0 in
      let x = found.1 in
      let distinct = IsDistinct-from_sorted place_cmp (keys_of (e ∷ entries)) sorted in (
        p,
        x,
        found.2,
        elim (is_at (place_cmp (p, x)) e.0) as (λ b. is_at (place_cmp (p, x)) e.0 ≡ b → cond b (Some e.1) (at entries p x) ≡ Some found.2) [
          | true ↦ λ same.
              let none : at entries p x ≡ None = lookup-none (is_at (place_cmp (p, x))) entries (none_past_head (eq_by_cmp_equiv places_total) (p, x) e entries distinct same) in
              let some = found.3 in
              absurd (cc)
          | false ↦ λ _. found.3
        ] refl,
        found.4,
      )
]
