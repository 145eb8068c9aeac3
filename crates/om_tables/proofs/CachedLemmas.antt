-- Of receipts between two intervals, those up to an earlier one.
use Rattle.std.proofs.Common.{◌≡◌, ℕ, ◌≤◌, Bool, true, false, cond, T, List, [], ◌∷◌, refl, ap, ◌∙◌, arith}
use Rattle.std.specs.Prelude.{nat_lt, nat_le, ◌&&◌, Vec, filter}
use Rattle.std.specs.declared.alloc.Global.{Global}
use Rattle.std.specs.FinMap.{entries}
use Rattle.std.proofs.lemmas.Bool.Decides.{nat_tests}
use Rattle.om_stable.specs.Content.{Records, between, rows_of}

abbrev pub Row : Type 0
Row = ℕ × List ℕ

abbrev Found : Type 0
Found = ℕ × Vec ℕ Global

abbrev of_found : ℕ → List Found → List Found
of_found to rows = filter (λ (row : Found). nat_le row.0 to) rows

abbrev of_rows : ℕ → List Row → List Row
of_rows to rows = filter (λ (e : Row). nat_le e.0 to) rows

kept_one : (to : ℕ) (row : Found) (b : Bool) (rows : List Found) → rows_of (of_found to rows) ≡ of_rows to (rows_of rows)
    → rows_of (cond b (row ∷ of_found to rows) (of_found to rows)) ≡ cond b ((row.0, row.1.items) ∷ of_rows to (rows_of rows)) (of_rows to (rows_of rows))
kept_one to row true rows h = ap (λ more. (row.0, row.1.items) ∷ more) h
kept_one to row false rows h = h

-- what a filter over the rows keeps is what it keeps of the records that they show
pub shown-kept : (to : ℕ) (rows : List Found) → rows_of (filter (λ (row : Found). nat_le row.0 to) rows) ≡ filter (λ (e : Row). nat_le e.0 to) (rows_of rows)
shown-kept to [] = refl
shown-kept to (row ∷ rows) = kept_one to row (nat_le row.0 to) rows (shown-kept to rows)

one : (q : Row → Bool) (e : Row) (xs zs : List Row) (a m t : Bool) → q e ≡ t → (T t → T m) → filter q xs ≡ zs
    → filter q (cond (a && m) (e ∷ xs) xs) ≡ cond (a && t) (e ∷ zs) zs
one q e xs zs false m t at within h = h
one q e xs zs true true true at within h = ap (λ b. cond b (e ∷ filter q xs) (filter q xs)) at ∙ ap (λ more. e ∷ more) h
one q e xs zs true true false at within h = ap (λ b. cond b (e ∷ filter q xs) (filter q xs)) at ∙ h
one q e xs zs true false true at within h = absurd (within tt)
one q e xs zs true false false at within h = h

narrow : (after to most : ℕ) → to ≤ most → (es : List Row) → filter (λ (e : Row). nat_le e.0 to) (filter (λ (e : Row). nat_lt after e.0 && nat_le e.0 most) es) ≡ filter (λ (e : Row). nat_lt after e.0 && nat_le e.0 to) es
narrow after to most le [] = refl
narrow after to most le (e ∷ es) = one (λ (e : Row). nat_le e.0 to) e _ _ (nat_lt after e.0) (nat_le e.0 most) (nat_le e.0 to) refl (λ h. grind (arith, nat_tests)) (narrow after to most le es)

-- of the records above after and at or below most, those at or below to are the records above after and at or below it
pub narrowed : (held : Records) (after to most : ℕ) → to ≤ most → filter (λ (e : Row). nat_le e.0 to) (between held after most) ≡ between held after to
narrowed held after to most le = narrow after to most le (entries held)
