-- The records at or below an interval, and the last of them.
use Rattle.std.proofs.Common.{◌≡◌, ◌⊎◌, inl, inr, ℕ, ◌+◌, ◌-◌, ◌<◌, ◌≤◌, Bool, true, false, cond, T, List, [], ◌∷◌, ◌++◌, refl, sym, ap, ◌∙◌, arith, subst}
use Rattle.std.specs.Prelude.{Option, None, Some, IsSome, filter, nat_lt, nat_le, nat_eq, ◌&&◌}
use Rattle.std.specs.Ordering.{nat_cmp, eq_by_cmp, is_lt}
use Rattle.std.specs.FinMap.{get, entries, entries_sorted, get-entries, find, is_sorted}
use Rattle.std.specs.FinMap.Entries.{below_all}
use Rattle.std.proofs.lemmas.Bool.{le-leb, lt-ltb}
use Rattle.std.proofs.lemmas.Bool.Decides.{nat_tests}
use Rattle.om_stable.specs.Content.{Content, IsEffective, IsFree}
use Rattle.om_look.specs.steps.Ranges.{up_to}
use Rattle.om_look.specs.steps.Found.{before, behind, left}

abbrev Row : Type 0
Row = ℕ × List ℕ

abbrev Rows : Type 0
Rows = List Row

abbrev pair : ℕ → List ℕ → Row
pair x bytes = (x, bytes)

first : (a b : Bool) → T (a && b) → T a
first true b p = tt
first false b p = p

second : (a b : Bool) → T (a && b) → T b
second true b p = p
second false b p = absurd p

less : (a b : ℕ) → T (is_lt (nat_cmp a b)) → a < b
less a b h = grind (arith, nat_tests)

tied : (a b : ℕ) → eq_by_cmp nat_cmp a b ≡ true → a ≡ b
tied a b h = grind (arith, nat_tests)

tie : (a b : ℕ) → a ≡ b → eq_by_cmp nat_cmp a b ≡ true
tie a b h = grind (arith, nat_tests)

not_le : (a b : ℕ) → b < a → nat_le a b ≡ false
not_le a b h = grind (arith, nat_tests)

not_lt : (a b : ℕ) → b ≤ a → nat_lt a b ≡ false
not_lt a b h = grind (arith, nat_tests)

-- what is found, by whether it is the first
found_cases : (b : Bool) (here : List ℕ) (later : Option (List ℕ)) (bytes : List ℕ) → cond b (Some here) later ≡ Some bytes → ((b ≡ true) × (here ≡ bytes)) ⊎ (later ≡ Some bytes)
found_cases true here later bytes h = inl (refl, cc)
found_cases false here later bytes h = inr h

-- one found in the rest is found in all
found_more : (b : Bool) (here : List ℕ) (later : Option (List ℕ)) → IsSome later → IsSome (cond b (Some here) later)
found_more true here later some = refl
found_more false here later some = some

-- what is found among rows above a bound is above it
found_above : (low c : ℕ) (rows : Rows) (bytes : List ℕ) → T (below_all nat_cmp low rows) → find nat_cmp c rows ≡ Some bytes → low < c
found_above low c [] bytes h at = cc
found_above low c (e ∷ rows) bytes h at = either (found_cases _ _ _ bytes at) (found_above low c rows bytes (second _ _ h))
  where
    either : ((eq_by_cmp nat_cmp c e.0 ≡ true) × (e.1 ≡ bytes)) ⊎ (find nat_cmp c rows ≡ Some bytes) → (find nat_cmp c rows ≡ Some bytes → low < c) → low < c
    either (inl here) later =
        let same : c ≡ e.0 = tied c e.0 here.0 in
        let above : low < e.0 = less low e.0 (first _ _ h) in
        omega arith
    either (inr there) later = later there

-- no row up to x is above the bound, and all are
none_le : (c x : ℕ) (rows : Rows) → T (below_all nat_cmp c rows) → ((y : ℕ) → y ≤ x → IsSome (find nat_cmp y rows) → y ≤ c) → filter (λ (e : Row). nat_le e.0 x) rows ≡ []
none_le c x [] h most = refl
none_le c x (e ∷ rows) h most =
    let above : c < e.0 = less c e.0 (first _ _ h) in
    let there : IsSome (find nat_cmp e.0 (e ∷ rows)) = ap (λ b. is_there (cond b (Some e.1) (find nat_cmp e.0 rows))) (tie e.0 e.0 refl) in
    let high : x < e.0 = beyond e.0 above (λ le. most e.0 le there) in
    let rest = none_le c x rows (second _ _ h) (λ y le some. most y le (found_more (eq_by_cmp nat_cmp y e.0) e.1 (find nat_cmp y rows) some)) in
    rw (not_le e.0 x high) rest
  where
    is_there : Option (List ℕ) → Bool
    is_there o = elim o [ None ↦ false | Some bytes ↦ true ]

    beyond : (y : ℕ) → c < y → (y ≤ x → y ≤ c) → x < y
    beyond y above never = grind arith

none_lt : (c : ℕ) (rows : Rows) → T (below_all nat_cmp c rows) → filter (λ (e : Row). nat_lt e.0 c) rows ≡ []
none_lt c [] h = refl
none_lt c (e ∷ rows) h =
    let above : c < e.0 = less c e.0 (first _ _ h) in
    rw (not_lt e.0 c (omega arith)) (none_lt c rows (second _ _ h))

-- the rows up to x are those below the last of them, and that one
last_of : (c x : ℕ) (bytes : List ℕ) (rows : Rows) → T (is_sorted nat_cmp rows) → find nat_cmp c rows ≡ Some bytes → c ≤ x → ((y : ℕ) → y ≤ x → IsSome (find nat_cmp y rows) → y ≤ c)
    → filter (λ (e : Row). nat_le e.0 x) rows ≡ filter (λ (e : Row). nat_lt e.0 c) rows ++ (c, bytes) ∷ []
last_of c x bytes [] sorted at le most = cc
last_of c x bytes (e ∷ rows) sorted at le most = either (found_cases _ _ _ bytes at) (λ there. last_of c x bytes rows (second _ _ sorted) there le more)
  where
    more : (y : ℕ) → y ≤ x → IsSome (find nat_cmp y rows) → y ≤ c
    more y low some = most y low (found_more (eq_by_cmp nat_cmp y e.0) e.1 (find nat_cmp y rows) some)

    either : ((eq_by_cmp nat_cmp c e.0 ≡ true) × (e.1 ≡ bytes)) ⊎ (find nat_cmp c rows ≡ Some bytes)
        → (find nat_cmp c rows ≡ Some bytes → filter (λ (e : Row). nat_le e.0 x) rows ≡ filter (λ (e : Row). nat_lt e.0 c) rows ++ (c, bytes) ∷ [])
        → filter (λ (e : Row). nat_le e.0 x) (e ∷ rows) ≡ filter (λ (e : Row). nat_lt e.0 c) (e ∷ rows) ++ (c, bytes) ∷ []
    either (inl here) later =
        let same : c ≡ e.0 = tied c e.0 here.0 in
        let bound : T (below_all nat_cmp c rows) = subst (λ z. T (below_all nat_cmp z rows)) (sym same) (first _ _ sorted) in
        let it : ◌≡◌ {A = Row} e (c, bytes) = ap (λ z. pair z e.1) (sym same) ∙ ap (pair c) here.1 in
        rw (le-leb e.0 x (omega arith), not_lt e.0 c (omega arith), none_le c x rows bound more, none_lt c rows bound) (ap (λ (r : Row). r ∷ []) it)
    either (inr there) later =
        let above : e.0 < c = found_above e.0 c rows bytes (first _ _ sorted) there in
        rw (le-leb e.0 x (omega arith), lt-ltb e.0 c above) (ap (λ rs. e ∷ rs) (later there))

-- none is up to x where none is found there
none_up_to : (x : ℕ) (rows : Rows) → ((y : ℕ) → y ≤ x → IsSome (find nat_cmp y rows) → ⊥) → filter (λ (e : Row). nat_le e.0 x) rows ≡ []
none_up_to x [] free = refl
none_up_to x (e ∷ rows) free =
    let there : IsSome (find nat_cmp e.0 (e ∷ rows)) = ap (λ b. is_there (cond b (Some e.1) (find nat_cmp e.0 rows))) (tie e.0 e.0 refl) in
    let high : x < e.0 = beyond e.0 (λ le. free e.0 le there) in
    rw (not_le e.0 x high) (none_up_to x rows (λ y le some. free y le (found_more (eq_by_cmp nat_cmp y e.0) e.1 (find nat_cmp y rows) some)))
  where
    is_there : Option (List ℕ) → Bool
    is_there o = elim o [ None ↦ false | Some bytes ↦ true ]

    beyond : (y : ℕ) → (y ≤ x → ⊥) → x < y
    beyond y never = grind arith

is_some_none : (o : Option (List ℕ)) → IsSome o → o ≡ None → ⊥
is_some_none None some none = cc
is_some_none (Some bytes) some none = cc

pub none_left : (held : Content) (to : ℕ) → IsFree held.checkpoints 0 (to + 1) → up_to held.checkpoints to ≡ []
none_left held to free =
    none_up_to to (entries held.checkpoints)
    (λ y le some. is_some_none (get held.checkpoints y) (subst IsSome (sym (get-entries held.checkpoints y)) some) (free y (omega arith) (omega arith)))

-- the rows below an interval
lower : (c : ℕ) (rows : Rows) → 0 < c → filter (λ (e : Row). nat_lt e.0 c) rows ≡ filter (λ (e : Row). nat_le e.0 (c - 1)) rows
lower c [] above = refl
lower c (e ∷ rows) above =
    let test : nat_lt e.0 c ≡ nat_le e.0 (c - 1) = same e.0 in
    rw test (elim (nat_le e.0 (c - 1)) as (λ b. cond b (e ∷ filter (λ (e : Row). nat_lt e.0 c) rows) (filter (λ (e : Row). nat_lt e.0 c) rows) ≡ cond b (e ∷ filter (λ (e : Row). nat_le e.0 (c - 1)) rows) (filter (λ (e : Row). nat_le e.0 (c - 1)) rows)) [
      | true ↦ ap (λ rs. e ∷ rs) (lower c rows above)
      | false ↦ lower c rows above
    ])
  where
    same : (a : ℕ) → nat_lt a c ≡ nat_le a (c - 1)
    same a = grind (arith, nat_tests)

lowest : (rows : Rows) → filter (λ (e : Row). nat_lt e.0 0) rows ≡ []
lowest [] = refl
lowest (e ∷ rows) = rw (not_lt e.0 0 (omega arith)) (lowest rows)

zero_or_more : (c : ℕ) → ((nat_eq c 0 ≡ true) × (c ≡ 0)) ⊎ ((nat_eq c 0 ≡ false) × (0 < c))
zero_or_more c = grind (arith, nat_tests)

below_left : (held : Content) (c : ℕ) → filter (λ (e : Row). nat_lt e.0 c) (entries held.checkpoints) ≡ left held (before c)
below_left held c = either (zero_or_more c)
  where
    either : ((nat_eq c 0 ≡ true) × (c ≡ 0)) ⊎ ((nat_eq c 0 ≡ false) × (0 < c)) → filter (λ (e : Row). nat_lt e.0 c) (entries held.checkpoints) ≡ left held (before c)
    either (inl is) = rw is.0 (subst (λ z. filter (λ (e : Row). nat_lt e.0 z) (entries held.checkpoints) ≡ []) (sym is.1) (lowest (entries held.checkpoints)))
    either (inr is) = rw is.0 (lower c (entries held.checkpoints) is.1)

pub left_row : (held : Content) (to : ℕ) (row : Row) → IsEffective held.checkpoints to row.0 → get held.checkpoints row.0 ≡ Some row.1 → up_to held.checkpoints to ≡ left held (before row.0) ++ row ∷ []
left_row held to row e stands =
    last_of row.0 to row.1 (entries held.checkpoints) (entries_sorted held.checkpoints) (sym (get-entries held.checkpoints row.0) ∙ stands) e.within
    (λ y le some. e.greatest y le (subst IsSome (sym (get-entries held.checkpoints y)) some))
    ∙ ap (λ (rows : Rows). rows ++ row ∷ []) (below_left held row.0)

pub behind_before : (x : ℕ) → behind (before x) ≡ x
behind_before x = either (zero_or_more x)
  where
    either : ((nat_eq x 0 ≡ true) × (x ≡ 0)) ⊎ ((nat_eq x 0 ≡ false) × (0 < x)) → behind (before x) ≡ x
    either (inl is) = rw is.0 (sym is.1)
    either (inr is) = let at : x - 1 + 1 ≡ x = omega arith in rw is.0 at
