use Rattle.std.proofs.Common.{◌≡◌, ℕ, zero, suc, ◌+◌, ◌-◌, ◌<◌, ◌≤◌, ◌⊎◌, inl, inr, refl, sym, ◌∙◌, ap, subst, arith, true, false, true≢false, is_some, Some, None, List, [], ◌∷◌, ◌++◌, cond, map, length, slice_get}
use Rattle.std.proofs.lemmas.Option.{slice_get_cases}
use Rattle.std.proofs.lemmas.Bool.{cases_lt}
use Rattle.std.specs.FinSet as set
use Rattle.std.specs.BTreeMap.{is_at}
use Rattle.om_recover.specs.Rows.{HasRow, row_cmp}
use Rattle.om_recover.specs.steps.Nearest.{place_cmp, at}
use Rattle.om_recover.specs.steps.Logs.{entries_from, run_entries, log_entries, IsInRun, IsOutside, IsInRuns, IsOutsideRuns, AreLogs}
use Rattle.om_recover.specs.steps.Held.{log_row}
use Rattle.om_recover.specs.declared.rows.trees.Vectors.{Vectors}
use Rattle.om_recover.specs.declared.rows.trees.Run.{Run}
use Rattle.om_recover.specs.declared.rows.trees.Logs.{Logs}
use Rattle.om_recover.specs.declared.row.Row.{Row}
use Rattle.om_recover.proofs.PlaceLemmas.{apart_places}
use Rattle.om_recover.proofs.RowsLemmas.{of_inserted, inserted, kept}
use Rattle.om_recover.proofs.EntryLemmas.{here, of_rows}

-- what is found in the first of two lists, and what is not
pub at_first : {X : Type 0} (es fs : List ((ℕ × ℕ) × X)) (p x : ℕ) (value : X) → at es p x ≡ Some value → at (es ++ fs) p x ≡ Some value
at_first [] fs p x value is = absurd (cc)
at_first {X} (e ∷ es) fs p x value is =
    elim (is_at (place_cmp (p, x)) e.0) as (λ b. cond b (Some e.1) (at es p x) ≡ Some value → cond b (Some e.1) (at (es ++ fs) p x) ≡ Some value) [
      | true ↦ λ found. found
      | false ↦ λ found. at_first es fs p x value found
    ] is

pub at_second : {X : Type 0} (es fs : List ((ℕ × ℕ) × X)) (p x : ℕ) → at es p x ≡ None → at (es ++ fs) p x ≡ at fs p x
at_second [] fs p x none = refl
at_second {X} (e ∷ es) fs p x none =
    elim (is_at (place_cmp (p, x)) e.0) as (λ b. cond b (Some e.1) (at es p x) ≡ None → cond b (Some e.1) (at (es ++ fs) p x) ≡ at fs p x) [
      | true ↦ λ found. absurd (cc)
      | false ↦ λ found. at_second es fs p x found
    ] none

-- logs that follow on one another stand at their intervals
from_at : (vs : List Vectors) (p first place x : ℕ) (vectors : Vectors) → slice_get vs place ≡ Some vectors → x ≡ first + place → at (entries_from p first vs) p x ≡ Some vectors
from_at [] p first place x vectors there is = absurd (cc)
from_at (v ∷ vs) p first zero x vectors there is =
    let start : x ≡ first = omega (arith, is) in
    subst (λ y. at (entries_from p first (v ∷ vs)) p y ≡ Some vectors) (sym start) (ap (λ b. cond b (Some v) (at (entries_from p (first + 1) vs) p first)) (here (p, first)) ∙ there)
from_at (v ∷ vs) p first (suc place) x vectors there is =
    ap (λ b. cond b (Some v) (at (entries_from p (first + 1) vs) p x)) (apart_places p x p first (λ _ same. omega (arith, same, is)))
    ∙ from_at vs p (first + 1) place x vectors there (omega (arith, is))

-- and nowhere else
from_none : (vs : List Vectors) (q first p x : ℕ) → (p ≡ q → (x < first) ⊎ (first + length vs ≤ x)) → at (entries_from q first vs) p x ≡ None
from_none [] q first p x outside = refl
from_none (v ∷ vs) q first p x outside =
    ap (λ b. cond b (Some v) (at (entries_from q (first + 1) vs) p x))
    (apart_places p x q first (λ own same. let out = outside (sym own) in omega (arith, out, same)))
    ∙ from_none vs q (first + 1) p x (λ own. elim (outside own) [ inl low ↦ inl (omega (arith, low)) | inr high ↦ inr (omega (arith, high)) ])

runs_at : (runs : List Run) (first place p x : ℕ) (run : Run) (vectors : Vectors) → slice_get runs place ≡ Some run → p ≡ first + place → IsInRun run x vectors
    → at (run_entries first runs) p x ≡ Some vectors
runs_at [] first place p x run vectors own is within = absurd (cc)
runs_at (r ∷ runs) first zero p x run vectors own is within =
    let same : r ≡ run = cc in
    let at_first_one : first ≡ p = omega (arith, is) in
    at_first (entries_from first r.first r.logs) (run_entries (first + 1) runs) p x vectors
    (subst (λ (r : Run). at (entries_from first r.first r.logs) p x ≡ Some vectors) (sym same)
    (subst (λ q. at (entries_from q run.first run.logs) p x ≡ Some vectors) (sym at_first_one) (from_at run.logs p run.first within.place x vectors within.there within.stands_at)))
runs_at (r ∷ runs) first (suc place) p x run vectors own is within =
    at_second (entries_from first r.first r.logs) (run_entries (first + 1) runs) p x (from_none r.logs first r.first p x (λ same. absurd (omega (arith, same, is))))
    ∙ runs_at runs (first + 1) place p x run vectors own (omega (arith, is)) within

runs_none : (runs : List Run) (first p x : ℕ) → ((place : ℕ) (run : Run) → slice_get runs place ≡ Some run → p ≡ first + place → IsOutside run x) → at (run_entries first runs) p x ≡ None
runs_none [] first p x outside = refl
runs_none (r ∷ runs) first p x outside =
    at_second (entries_from first r.first r.logs) (run_entries (first + 1) runs) p x (from_none r.logs first r.first p x (λ same. outside zero r refl (omega (arith, same))))
    ∙ runs_none runs (first + 1) p x (λ place run own is. outside (suc place) run own (omega (arith, is)))

-- what a run has is found
pub in_runs_at : (logs : Logs) (p x : ℕ) (vectors : Vectors) → IsInRuns logs.runs.items p x vectors → at (log_entries logs) p x ≡ Some vectors
in_runs_at logs p x vectors among =
    at_first (run_entries 0 logs.runs.items) logs.others.entries p x vectors (runs_at logs.runs.items 0 p p x among.run vectors among.own (omega arith) among.within)

-- and else what the tree has
pub outside_at : (logs : Logs) (p x : ℕ) → IsOutsideRuns logs.runs.items p x → at (log_entries logs) p x ≡ at logs.others.entries p x
outside_at logs p x outside =
    at_second (run_entries 0 logs.runs.items) logs.others.entries p x
    (runs_none logs.runs.items 0 p x (λ place run own is. outside run (subst (λ q. slice_get logs.runs.items q ≡ Some run) (omega (arith, is)) own)))

-- an interval is in a run, or outside of it
run_cases : (run : Run) (x : ℕ) → ((vectors : Vectors) × IsInRun run x vectors) ⊎ IsOutside run x
run_cases run x = elim (cases_lt x run.first) [
  | inl near ↦ inr (inl near)
  | inr far ↦ elim (slice_get_cases run.logs (x - run.first)).1 [
    | inl found ↦ inl (found.0, record { place = x - run.first; stands_at = omega (arith, far); there = found.2 })
    | inr past ↦ inr (inr (omega (arith, far, past.0)))
  ]
]

pub runs_cases : (runs : List Run) (p x : ℕ) → ((vectors : Vectors) × IsInRuns runs p x vectors) ⊎ IsOutsideRuns runs p x
runs_cases runs p x = elim (slice_get_cases runs p).1 [
  | inl found ↦ elim (run_cases found.0 x) [
    | inl within ↦ inl (within.0, record { run = found.0; own = found.2; within = within.1 })
    | inr outside ↦ inr (λ run own. let was = found.2 in let same : found.0 ≡ run = cc in subst (λ (run : Run). IsOutside run x) same outside)
  ]
  | inr none ↦ inr (λ run own. let past = none.1 in absurd (cc))
]

-- rows of two lists are rows of one
pub rows_of_both : {X : Type 0} (f : (ℕ × ℕ) × X → Row) (es fs : List ((ℕ × ℕ) × X)) (row : Row) → HasRow (set.from_list (map f (es ++ fs))) row
    → HasRow (set.from_list (map f es)) row ⊎ HasRow (set.from_list (map f fs)) row
rows_of_both f [] fs row there = inr there
rows_of_both f (e ∷ es) fs row there = elim (of_inserted (set.from_list (map f (es ++ fs))) (f e) row there) [
  | inl is ↦ inl (subst (HasRow (set.from_list (map f (e ∷ es)))) (sym is) (inserted (set.from_list (map f es)) (f e)))
  | inr later ↦ elim (rows_of_both f es fs row later) [
    | inl first ↦ inl (kept (set.from_list (map f es)) (f e) row first)
    | inr second ↦ inr second
  ]
]

rows_of_from : (vs : List Vectors) (p first : ℕ) (row : Row) → HasRow (set.from_list (map log_row (entries_from p first vs))) row
    → (place : ℕ) × (x : ℕ) × (vectors : Vectors) × (slice_get vs place ≡ Some vectors) × (x ≡ first + place) × (row ≡ log_row ((p, x), vectors))
rows_of_from [] p first row there = absurd (true≢false (sym there ∙ set.contains-empty row_cmp row))
rows_of_from (v ∷ vs) p first row there = elim (of_inserted (set.from_list (map log_row (entries_from p (first + 1) vs))) (log_row ((p, first), v)) row there) [
  | inl is ↦ (zero, first, v, refl, omega arith, is)
  | inr later ↦ let found = rows_of_from vs p (first + 1) row later in (suc found.0, found.1, found.2, found.3, omega (arith, found.4), found.5)
]

rows_of_runs : (runs : List Run) (first : ℕ) (row : Row) → HasRow (set.from_list (map log_row (run_entries first runs))) row
    → (place : ℕ) × (p : ℕ) × (x : ℕ) × (vectors : Vectors) × (run : Run) × (slice_get runs place ≡ Some run) × IsInRun run x vectors × (p ≡ first + place) × (row ≡ log_row ((p, x), vectors))
rows_of_runs [] first row there = absurd (true≢false (sym there ∙ set.contains-empty row_cmp row))
rows_of_runs (run ∷ runs) first row there = elim (rows_of_both log_row (entries_from first run.first run.logs) (run_entries (first + 1) runs) row there) [
  | inl among ↦
      let found = rows_of_from run.logs first run.first row among in
      (zero, first, found.1, found.2, run, refl, record { place = found.0; stands_at = found.4; there = found.3 }, omega arith, found.5)
  | inr later ↦
      let found = rows_of_runs runs (first + 1) row later in
      (suc found.0, found.1, found.2, found.3, found.4, found.5, found.6, omega (arith, found.7), found.8)
]

-- each of the rows of logs is what they have at a place
pub of_log_rows : (logs : Logs) (row : Row) → AreLogs logs → HasRow (set.from_list (map log_row (log_entries logs))) row
    → (p : ℕ) × (x : ℕ) × (vectors : Vectors) × (at (log_entries logs) p x ≡ Some vectors) × (row ≡ log_row ((p, x), vectors))
of_log_rows logs row are there = elim (rows_of_both log_row (run_entries 0 logs.runs.items) logs.others.entries row there) [
  | inl among ↦
      let found = rows_of_runs logs.runs.items 0 row among in
      let own : slice_get logs.runs.items found.1 ≡ Some found.4 = subst (λ q. slice_get logs.runs.items q ≡ Some found.4) (omega (arith, found.7)) found.5 in
      (found.1, found.2, found.3, in_runs_at logs found.1 found.2 found.3 (record { run = found.4; own = own; within = found.6 }), found.8)
  | inr among ↦
      let found = of_rows log_row logs.others.entries row are.sorted among in
      (found.0, found.1, found.2, outside_at logs found.0 found.1 (are.apart found.0 found.1 (ap is_some found.3)) ∙ found.3, found.4)
]

-- what the run of a process has, its runs have
pub among_runs : (runs : List Run) (p x : ℕ) (run : Run) (vectors : Vectors) → slice_get runs p ≡ Some run → IsInRun run x vectors → IsInRuns runs p x vectors
among_runs runs p x run vectors own within = record { run = run; own = own; within = within }

pub outside_runs : (runs : List Run) (p x : ℕ) (run : Run) → slice_get runs p ≡ Some run → IsOutside run x → IsOutsideRuns runs p x
outside_runs runs p x run own outside other own_too = let same : run ≡ other = cc in subst (λ (run : Run). IsOutside run x) same outside

pub no_run_outside : (runs : List Run) (p x : ℕ) → slice_get runs p ≡ None → IsOutsideRuns runs p x
no_run_outside runs p x none run own = absurd (cc)
