-- The records between two intervals, one by one.
use Rattle.std.proofs.Common.{◌≡◌, ◌≢◌, ℕ, zero, suc, ◌<◌, ◌≤◌, Bool, true, false, cond, T, List, [], ◌∷◌, refl, sym, ap, ◌∙◌, arith, subst}
use Rattle.std.specs.Prelude.{Option, None, Some, nat_lt, nat_le, ◌&&◌}
use Rattle.std.specs.Ordering.{nat_cmp, eq_by_cmp, is_lt}
use Rattle.std.specs.Cmp.{unsigned_tied}
use Rattle.std.specs.List.{slice_get}
use Rattle.std.specs.FinMap.{get, entries, entries_sorted, get-entries, find, is_sorted, nat_cmp-IsAntisymmetric}
use Rattle.std.specs.FinMap.Entries.{below_all, find-where_key, is_sorted-where_key}
use Rattle.std.proofs.lemmas.Bool.{eq-eqb, ne_eqb, le-leb, lt-ltb}
use Rattle.std.proofs.lemmas.Bool.Decides.{nat_tests}
use Rattle.om_stable.specs.Content.{Records, between}
use Rattle.om_stable.specs.steps.Between.{AreAllBetween}

abbrev Rows : Type 0
Rows = List (ℕ × List ℕ)

first : (a b : Bool) → T (a && b) → T a
first true b p = tt
first false b p = p

second : (a b : Bool) → T (a && b) → T b
second true b p = p
second false b p = absurd p

less : (a b : ℕ) → T (is_lt (nat_cmp a b)) → a < b
less a b h = grind (arith, nat_tests)

-- what stands behind a lower bound is above it
above : (x : ℕ) (rows : Rows) (i : ℕ) (row : ℕ × List ℕ) → T (below_all nat_cmp x rows) → slice_get rows i ≡ Some row → x < row.0
above x [] i row h at = cc
above x (e ∷ rows) zero row h at =
    let same : e ≡ row = cc in
    subst (λ (r : ℕ × List ℕ). x < r.0) same (less x e.0 (first _ _ h))
above x (e ∷ rows) (suc i) row h at = above x rows i row (second _ _ h) at

rise : (rows : Rows) (i j : ℕ) (row later : ℕ × List ℕ) → T (is_sorted nat_cmp rows) → i < j → slice_get rows i ≡ Some row → slice_get rows j ≡ Some later → row.0 < later.0
rise [] i j row later sorted lt at next = cc
rise (e ∷ rows) zero zero row later sorted lt at next = absurd (omega arith)
rise (e ∷ rows) zero (suc j) row later sorted lt at next =
    let same : e ≡ row = cc in
    subst (λ (r : ℕ × List ℕ). r.0 < later.0) same (above e.0 rows j later (first _ _ sorted) next)
rise (e ∷ rows) (suc i) zero row later sorted lt at next = absurd (omega arith)
rise (e ∷ rows) (suc i) (suc j) row later sorted lt at next = rise rows i j row later (second _ _ sorted) (omega arith) at next

-- what stands at a place is found
found_at : (rows : Rows) (i : ℕ) (row : ℕ × List ℕ) → T (is_sorted nat_cmp rows) → slice_get rows i ≡ Some row → find nat_cmp row.0 rows ≡ Some row.1
found_at [] i row sorted at = cc
found_at (e ∷ rows) zero row sorted at =
    let same : e ≡ row = cc in
    subst (λ (r : ℕ × List ℕ). find nat_cmp r.0 (e ∷ rows) ≡ Some r.1) same
    (ap (λ b. cond b (Some e.1) (find nat_cmp e.0 rows)) (unsigned_tied e.0 e.0 ∙ eq-eqb e.0 e.0 refl))
found_at (e ∷ rows) (suc i) row sorted at =
    let later : e.0 < row.0 = above e.0 rows i row (first _ _ sorted) at in
    let apart : row.0 ≢ e.0 = omega arith in
    ap (λ b. cond b (Some e.1) (find nat_cmp row.0 rows)) (unsigned_tied row.0 e.0 ∙ ne_eqb row.0 e.0 apart)
    ∙ found_at rows i row (second _ _ sorted) at

-- what is found stands at a place
at_found : (rows : Rows) (x : ℕ) (bytes : List ℕ) → find nat_cmp x rows ≡ Some bytes → (i : ℕ) × (slice_get rows i ≡ Some (x, bytes))
at_found [] x bytes h = cc
at_found (e ∷ rows) x bytes h =
    elim (eq_by_cmp nat_cmp x e.0) as (λ b. eq_by_cmp nat_cmp x e.0 ≡ b → cond b (Some e.1) (find nat_cmp x rows) ≡ Some bytes → (i : ℕ) × (slice_get (e ∷ rows) i ≡ Some (x, bytes))) [
      | true ↦ λ t same. (0, here e.0 e.1 t same)
      | false ↦ λ t later. let rest = at_found rows x bytes later in (suc rest.0, rest.1)
    ] refl h
  where
    here : (y : ℕ) (held : List ℕ) → eq_by_cmp nat_cmp x y ≡ true → Some held ≡ Some bytes → ◌≡◌ {A = Option (ℕ × List ℕ)} (Some (y, held)) (Some (x, bytes))
    here y held t same =
        let tied : x ≡ y = grind (arith, nat_tests) in
        cc

abbrev lies : ℕ → ℕ → ℕ → Bool
lies after to x = nat_lt after x && nat_le x to

find-between : (held : Records) (after to x : ℕ) → find nat_cmp x (between held after to) ≡ cond (nat_lt after x && nat_le x to) (get held x) None
find-between held after to x =
    find-where_key nat_cmp (lies after to) x (λ y tied. ap (lies after to) (sym (nat_cmp-IsAntisymmetric x y tied))) (entries held)
    ∙ ap (λ o. cond (nat_lt after x && nat_le x to) o None) (sym (get-entries held x))

between_sorted : (held : Records) (after to : ℕ) → T (is_sorted nat_cmp (between held after to))
between_sorted held after to = is_sorted-where_key nat_cmp (lies after to) (entries held) (entries_sorted held)

lies_within : (after to x : ℕ) → lies after to x ≡ true → (after < x) × (x ≤ to)
lies_within after to x h = (grind (arith, nat_tests), grind (arith, nat_tests))

within_lies : (after to x : ℕ) → after < x → x ≤ to → (nat_lt after x && nat_le x to) ≡ true
within_lies after to x low high = rw (lt-ltb after x low, le-leb x to high) refl

some_lies : (b : Bool) (o : Option (List ℕ)) (bytes : List ℕ) → cond b o None ≡ Some bytes → (b ≡ true) × (o ≡ Some bytes)
some_lies true o bytes h = (refl, h)
some_lies false o bytes h = cc

pub between-AreAllBetween : (held : Records) (after to : ℕ) → AreAllBetween held after to (between held after to)
between-AreAllBetween held after to =
    let sorted = between_sorted held after to in
    let told : (i : ℕ) (row : ℕ × List ℕ) → slice_get (between held after to) i ≡ Some row → (lies after to row.0 ≡ true) × (get held row.0 ≡ Some row.1) =
    λ i row at. some_lies _ _ row.1 (sym (find-between held after to row.0) ∙ found_at (between held after to) i row sorted at) in
    record {
      within = λ i row at. lies_within after to row.0 (told i row at).0;
      are_held = λ i row at. (told i row at).1;
      rise = λ i j row later lt at next. rise (between held after to) i j row later sorted lt at next;
      are_all = λ x bytes low high there. at_found (between held after to) x bytes
          (find-between held after to x ∙ ap (λ b. cond b (get held x) None) (within_lies after to x low high) ∙ there);
    }
