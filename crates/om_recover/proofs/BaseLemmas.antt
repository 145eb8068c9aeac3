use Rattle.std.proofs.Common.{◌≡◌, ℕ, zero, suc, ◌+◌, ◌<◌, ◌≤◌, ◌⊎◌, inl, inr, refl, sym, ◌∙◌, ap, subst, arith, true≢false, is_some, IsSome, Option, Some, None, List, [], ◌∷◌, cond, map, slice_get}
use Rattle.std.proofs.lemmas.Bool.{cases_eq}
use Rattle.std.proofs.lemmas.Option.{slice_get_cases}
use Rattle.std.specs.FinSet as set
use Rattle.om_recover.specs.Rows.{HasRow, row_cmp}
use Rattle.om_recover.specs.steps.Nearest.{at, IsNearestTo, IsNearestFrom, HasNoneTo, HasNoneFrom}
use Rattle.om_recover.specs.steps.Bases.{newest_of, newest_entries, base_entries, IsNewest, HasNoNewest, AreBases}
use Rattle.om_recover.specs.steps.Held.{base_row}
use Rattle.om_recover.specs.declared.rows.trees.Base.{Base}
use Rattle.om_recover.specs.declared.rows.trees.Newest.{Newest}
use Rattle.om_recover.specs.declared.rows.trees.Bases.{Bases}
use Rattle.om_recover.specs.declared.row.Row.{Row}
use Rattle.om_recover.proofs.PlaceLemmas.{apart_places}
use Rattle.om_recover.proofs.RowsLemmas.{of_inserted}
use Rattle.om_recover.proofs.EntryLemmas.{here, of_rows}
use Rattle.om_recover.proofs.LogsLemmas.{at_first, at_second, rows_of_both}

entries_at : (newest : List (Option Newest)) (first place p x : ℕ) (base : Base) → slice_get newest place ≡ Some (Some (newest_of x base)) → p ≡ first + place → at (newest_entries first newest) p x ≡ Some base
entries_at [] first place p x base own is = absurd (cc)
entries_at (None ∷ newest) first zero p x base own is = absurd (cc)
entries_at (Some found ∷ newest) first zero p x base own is =
    let same : found ≡ newest_of x base = cc in
    let start : p ≡ first = omega (arith, is) in
    subst (λ (found : Newest). at (newest_entries first (Some found ∷ newest)) p x ≡ Some base) (sym same)
    (subst (λ p. at (newest_entries first (Some (newest_of x base) ∷ newest)) p x ≡ Some base) (sym start) (ap (λ b. cond b (Some base) (at (newest_entries (first + 1) newest) first x)) (here (first, x))))
entries_at (None ∷ newest) first (suc place) p x base own is = entries_at newest (first + 1) place p x base own (omega (arith, is))
entries_at (Some found ∷ newest) first (suc place) p x base own is =
    ap (λ b. cond b (Some found.base) (at (newest_entries (first + 1) newest) p x)) (apart_places p x first found.interval (λ same _. omega (arith, same, is)))
    ∙ entries_at newest (first + 1) place p x base own (omega (arith, is))

entries_none : (newest : List (Option Newest)) (first p x : ℕ) → ((place : ℕ) (base : Base) → slice_get newest place ≡ Some (Some (newest_of x base)) → p ≡ first + place → ⊥) → at (newest_entries first newest) p x ≡ None
entries_none [] first p x none = refl
entries_none (None ∷ newest) first p x none = entries_none newest (first + 1) p x (λ place base own is. none (suc place) base own (omega (arith, is)))
entries_none (Some found ∷ newest) first p x none =
    ap (λ b. cond b (Some found.base) (at (newest_entries (first + 1) newest) p x))
    (apart_places p x first found.interval (λ same_process here_too. none zero found.base (λ i. Some (Some (newest_of (here_too i) found.base))) (omega (arith, same_process))))
    ∙ entries_none newest (first + 1) p x (λ place base own is. none (suc place) base own (omega (arith, is)))

-- the newest checkpoint is found
pub newest_at : (bases : Bases) (p x : ℕ) (base : Base) → IsNewest bases.newest.items p x base → at (base_entries bases) p x ≡ Some base
newest_at bases p x base own = at_first (newest_entries 0 bases.newest.items) bases.others.entries p x base (entries_at bases.newest.items 0 p p x base own (omega arith))

-- and else what the tree has
pub no_newest_at : (bases : Bases) (p x : ℕ) → ((base : Base) → IsNewest bases.newest.items p x base → ⊥) → at (base_entries bases) p x ≡ at bases.others.entries p x
no_newest_at bases p x none =
    at_second (newest_entries 0 bases.newest.items) bases.others.entries p x
    (entries_none bases.newest.items 0 p x (λ place base own is. none base (subst (λ q. IsNewest bases.newest.items q x base) (omega (arith, is)) own)))

-- a process has a newest checkpoint, or none
pub newest_cases : (newest : List (Option Newest)) (p : ℕ) → ((x : ℕ) × (base : Base) × IsNewest newest p x base) ⊎ HasNoNewest newest p
newest_cases newest p = elim (slice_get_cases newest p).1 [
  | inl found ↦ elim found.0 as (λ slot. found.0 ≡ slot → ((x : ℕ) × (base : Base) × IsNewest newest p x base) ⊎ HasNoNewest newest p) [
    | None ↦ λ none. inr (λ x base own. let was = found.2 in absurd (cc))
    | Some one ↦ λ is. inl (one.interval, one.base, found.2 ∙ ap Some is)
  ] refl
  | inr past ↦ inr (λ x base own. let none = past.1 in absurd (cc))
]

-- and it is one alone
pub one_newest : (newest : List (Option Newest)) (p x y : ℕ) (base other : Base) → IsNewest newest p x base → IsNewest newest p y other → newest_of x base ≡ newest_of y other
one_newest newest p x y base other own also = cc

-- another interval than the newest checkpoint's is a matter of the tree
pub beside_newest : (bases : Bases) (p x y : ℕ) (base : Base) → IsNewest bases.newest.items p x base → (y ≡ x → ⊥) → at (base_entries bases) p y ≡ at bases.others.entries p y
beside_newest bases p x y base own apart = no_newest_at bases p y (λ other also. apart (ap (λ (n : Newest). n.interval) (one_newest bases.newest.items p y x other base also own)))

pub other_base : (bases : Bases) (p x : ℕ) (base : Base) → AreBases bases → at bases.others.entries p x ≡ Some base → at (base_entries bases) p x ≡ Some base
other_base bases p x base are there = no_newest_at bases p x (λ newest own. absurd (omega (arith, are.below p x x newest (ap is_some there) own))) ∙ there

pub some_base_at : (bases : Bases) (p y : ℕ) → IsSome (at (base_entries bases) p y) → ((base : Base) × IsNewest bases.newest.items p y base) ⊎ IsSome (at bases.others.entries p y)
some_base_at bases p y some = elim (newest_cases bases.newest.items p) [
  | inl newest ↦ elim (cases_eq y newest.0) [
    | inl same ↦ inl (newest.1, subst (λ z. IsNewest bases.newest.items p z newest.1) (sym same) newest.2)
    | inr apart ↦ inr (subst IsSome (beside_newest bases p newest.0 y newest.1 newest.2 apart) some)
  ]
  | inr none ↦ inr (subst IsSome (no_newest_at bases p y (λ base own. none y base own)) some)
]

rows_of_newest : (newest : List (Option Newest)) (first : ℕ) (row : Row) → HasRow (set.from_list (map base_row (newest_entries first newest))) row
    → (place : ℕ) × (p : ℕ) × (x : ℕ) × (base : Base) × (slice_get newest place ≡ Some (Some (newest_of x base))) × (p ≡ first + place) × (row ≡ base_row ((p, x), base))
rows_of_newest [] first row there = absurd (true≢false (sym there ∙ set.contains-empty row_cmp row))
rows_of_newest (None ∷ newest) first row there =
    let found = rows_of_newest newest (first + 1) row there in
    (suc found.0, found.1, found.2, found.3, found.4, omega (arith, found.5), found.6)
rows_of_newest (Some one ∷ newest) first row there = elim (of_inserted (set.from_list (map base_row (newest_entries (first + 1) newest))) (base_row ((first, one.interval), one.base)) row there) [
  | inl is ↦ (zero, first, one.interval, one.base, refl, omega arith, is)
  | inr later ↦
      let found = rows_of_newest newest (first + 1) row later in
      (suc found.0, found.1, found.2, found.3, found.4, omega (arith, found.5), found.6)
]

-- each of the rows of checkpoints is what they have at a place
pub of_base_rows : (bases : Bases) (row : Row) → AreBases bases → HasRow (set.from_list (map base_row (base_entries bases))) row
    → (p : ℕ) × (x : ℕ) × (base : Base) × (at (base_entries bases) p x ≡ Some base) × (row ≡ base_row ((p, x), base))
of_base_rows bases row are there = elim (rows_of_both base_row (newest_entries 0 bases.newest.items) bases.others.entries row there) [
  | inl among ↦
      let found = rows_of_newest bases.newest.items 0 row among in
      let own : IsNewest bases.newest.items found.1 found.2 found.3 = subst (λ q. IsNewest bases.newest.items q found.2 found.3) (omega (arith, found.5)) found.4 in
      (found.1, found.2, found.3, newest_at bases found.1 found.2 found.3 own, found.6)
  | inr among ↦
      let found = of_rows base_row bases.others.entries row are.sorted among in
      (found.0, found.1, found.2, other_base bases found.0 found.1 found.2 are found.3, found.4)
]

-- the nearest checkpoint at or below a bound
pub none_to_others : (bases : Bases) (p to : ℕ) → ((x : ℕ) (base : Base) → IsNewest bases.newest.items p x base → to < x) → HasNoneTo bases.others.entries p to → HasNoneTo (base_entries bases) p to
none_to_others bases p to far none y some within = elim (some_base_at bases p y some) [ inl newest ↦ omega (arith, far y newest.0 newest.1, within) | inr other ↦ none y other within ]

pub to_others : (bases : Bases) (p to x : ℕ) (base : Base) → AreBases bases → ((x : ℕ) (base : Base) → IsNewest bases.newest.items p x base → to < x) → IsNearestTo bases.others.entries p to x base → IsNearestTo (base_entries bases) p to x base
to_others bases p to x base are far near = record {
  there = other_base bases p x base are near.there;
  within = near.within;
  nearest = λ y some below. elim (some_base_at bases p y some) [ inl newest ↦ absurd (omega (arith, far y newest.0 newest.1, below)) | inr other ↦ near.nearest y other below ];
}

-- no checkpoint is above the newest
pub to_newest : (bases : Bases) (p x y : ℕ) (base : Base) → AreBases bases → IsNewest bases.newest.items p x base → IsSome (at (base_entries bases) p y) → y ≤ x
to_newest bases p x y base are own some = elim (some_base_at bases p y some) [
  | inl newest ↦ omega (arith, ap (λ (n : Newest). n.interval) (one_newest bases.newest.items p y x newest.0 base newest.1 own))
  | inr other ↦ omega (arith, are.below p y x base other own)
]

-- and at or above one
pub none_from_others : (bases : Bases) (p from : ℕ) → HasNoNewest bases.newest.items p → HasNoneFrom bases.others.entries p from → HasNoneFrom (base_entries bases) p from
none_from_others bases p from no_newest none y some within = elim (some_base_at bases p y some) [ inl newest ↦ no_newest y newest.0 newest.1 | inr other ↦ none y other within ]

pub from_others : (bases : Bases) (p from x : ℕ) (base : Base) → AreBases bases → IsNearestFrom bases.others.entries p from x base → IsNearestFrom (base_entries bases) p from x base
from_others bases p from x base are near = record {
  there = other_base bases p x base are near.there;
  within = near.within;
  nearest = λ y some above. elim (some_base_at bases p y some) [ inl newest ↦ omega (arith, are.below p x y newest.0 (ap is_some near.there) newest.1) | inr other ↦ near.nearest y other above ];
}

pub newest_is_nearest : (bases : Bases) (p to x : ℕ) (base : Base) → AreBases bases → IsNewest bases.newest.items p x base → x ≤ to → IsNearestTo (base_entries bases) p to x base
newest_is_nearest bases p to x base are own within = record { there = newest_at bases p x base own; within = within; nearest = λ y some _. to_newest bases p x y base are own some }

pub newest_from : (bases : Bases) (p from x : ℕ) (base : Base) → IsNewest bases.newest.items p x base → from ≤ x → HasNoneFrom bases.others.entries p from → IsNearestFrom (base_entries bases) p from x base
newest_from bases p from x base own within none = record {
  there = newest_at bases p x base own;
  within = within;
  nearest = λ y some above. elim (some_base_at bases p y some) [
    | inl newest ↦ omega (arith, ap (λ (n : Newest). n.interval) (one_newest bases.newest.items p y x newest.0 base newest.1 own))
    | inr other ↦ absurd (none y other above)
  ];
}

pub none_above : (bases : Bases) (p x y : ℕ) (base : Base) → AreBases bases → IsNewest bases.newest.items p x base → x < y → at (base_entries bases) p y ≡ None
none_above bases p x y base are own above = elim (at (base_entries bases) p y) as (λ entry. at (base_entries bases) p y ≡ entry → entry ≡ None) [
  | None ↦ λ _. refl
  | Some other ↦ λ is. absurd (omega (arith, to_newest bases p x y base are own (ap is_some is), above))
] refl
