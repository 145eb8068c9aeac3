-- Finite maps from intervals to bytes: what each change leaves at each interval.
use Rattle.std.proofs.Common.{◌≡◌, ◌≢◌, ◌⊎◌, inl, inr, ℕ, zero, suc, ◌+◌, ◌-◌, ◌<◌, ◌≤◌, Bool, true, false, cond, List, [], ◌∷◌, ◌++◌, length, refl, sym, ap, ◌∙◌, arith, length-take-le, Vec, take, get_or}
use Rattle.std.specs.declared.alloc.Global.{Global}
use Rattle.std.proofs.lemmas.List.{map_more, length-map}
use Rattle.std.specs.Prelude.{None, Some, IsSome, is_some}
use Rattle.std.proofs.lemmas.Bool.{eq-eqb, ne_eqb, cases_eq, cases_lt, both_ways}
use Rattle.std.proofs.Math.Nat.{add-zero}
use Rattle.std.proofs.Math.Logic.{⊎_elim}
use Rattle.std.specs.List.{slice_get}
use Rattle.std.specs.Ordering.{nat_cmp}
use Rattle.std.specs.Cmp.{nat_cmp_total, unsigned_tied}
use Rattle.std.specs.FinMap.{get, insert, remove, retain_keys, len, get-insert, get-remove, get-retain_keys, len-remove, empty_of_len, get-empty, same_map, nat_cmp-IsAntisymmetric}
use Rattle.om_stable.specs.Content.{Records, with_all, IsFree, bytes_of}

-- maps that answer alike are one
pub same_records : (m n : Records) → ((q : ℕ) → get m q ≡ get n q) → m ≡ n
same_records m n h = same_map nat_cmp_total nat_cmp-IsAntisymmetric m n h

pub get-insert_here : (m : Records) (x : ℕ) (bytes : List ℕ) → get (insert m x bytes) x ≡ Some bytes
get-insert_here m x bytes =
    get-insert nat_cmp_total m x bytes x ∙ ap (λ b. cond b (Some bytes) (get m x)) (unsigned_tied x x ∙ eq-eqb x x refl)

pub get-insert_apart : (m : Records) (x : ℕ) (bytes : List ℕ) (q : ℕ) → q ≢ x → get (insert m x bytes) q ≡ get m q
get-insert_apart m x bytes q ne =
    get-insert nat_cmp_total m x bytes q ∙ ap (λ b. cond b (Some bytes) (get m q)) (unsigned_tied q x ∙ ne_eqb q x ne)

pub get-remove_here : (m : Records) (x : ℕ) → get (remove m x) x ≡ None
get-remove_here m x =
    get-remove nat_cmp_total m x x ∙ ap (λ b. cond b None (get m x)) (unsigned_tied x x ∙ eq-eqb x x refl)

pub get-remove_apart : (m : Records) (x q : ℕ) → q ≢ x → get (remove m x) q ≡ get m q
get-remove_apart m x q ne =
    get-remove nat_cmp_total m x q ∙ ap (λ b. cond b None (get m q)) (unsigned_tied q x ∙ ne_eqb q x ne)

pub get-retained : (m : Records) (p : ℕ → Bool) (q : ℕ) → get (retain_keys m p) q ≡ cond (p q) (get m q) None
get-retained m p q = get-retain_keys m p q (λ x tied. ap p (sym (nat_cmp-IsAntisymmetric q x tied)))

-- to remove a record that is there leaves fewer
pub len-remove_there : (m : Records) (x : ℕ) → IsSome (get m x) → len (remove m x) < len m
len-remove_there m x there =
    let fewer : len (remove m x) ≡ len m - 1 = len-remove nat_cmp_total m x ∙ ap (λ b. cond b (len m - 1) (len m)) there in
    let some : 0 < len m = ⊎_elim (λ h. h) (λ none. absurd (both_ways (is_some (get m x)) (ap is_some (ap (λ n. get n x) (empty_of_len m (omega arith)) ∙ get-empty nat_cmp x)) there)) (cases_lt 0 (len m)) in
    omega arith

-- what was kept and what went make the part that a test keeps
pub retained_from_parts : (m n : Records) (p : ℕ → Bool) → ((q : ℕ) → p q ≡ true → get n q ≡ get m q) → ((q : ℕ) → p q ≡ false → get n q ≡ None) → n ≡ retain_keys m p
retained_from_parts m n p kept gone = same_records n (retain_keys m p) (λ q.
    elim (p q) as (λ b. p q ≡ b → get n q ≡ cond b (get m q) None) [ true ↦ kept q | false ↦ gone q ] refl
    ∙ sym (get-retained m p q))

-- ---- records put one after another
pub with_all-push : (m : Records) (first : ℕ) (rs : List (List ℕ)) (r : List ℕ) → with_all m first (rs ++ r ∷ []) ≡ insert (with_all m first rs) (first + length rs) r
with_all-push m first [] r = ap (λ x. insert m x r) (sym (add-zero first))
with_all-push m first (s ∷ rs) r =
    with_all-push (insert m first s) (first + 1) rs r
    ∙ ap (λ x. insert (with_all (insert m first s) (first + 1) rs) x r) (omega arith)

pub get-with_all_below : (m : Records) (first : ℕ) (rs : List (List ℕ)) (q : ℕ) → q < first → get (with_all m first rs) q ≡ get m q
get-with_all_below m first [] q h = refl
get-with_all_below m first (r ∷ rs) q h =
    let later : q < first + 1 = omega arith in
    let ne : q ≢ first = omega arith in
    get-with_all_below (insert m first r) (first + 1) rs q later ∙ get-insert_apart m first r q ne

pub get-with_all_above : (m : Records) (first : ℕ) (rs : List (List ℕ)) (q : ℕ) → first + length rs ≤ q → get (with_all m first rs) q ≡ get m q
get-with_all_above m first [] q h = refl
get-with_all_above m first (r ∷ rs) q h =
    let later : (first + 1) + length rs ≤ q = omega arith in
    let ne : q ≢ first = omega arith in
    get-with_all_above (insert m first r) (first + 1) rs q later ∙ get-insert_apart m first r q ne

pub get-with_all_at : (m : Records) (first : ℕ) (rs : List (List ℕ)) (i : ℕ) (bytes : List ℕ) → slice_get rs i ≡ Some bytes → get (with_all m first rs) (first + i) ≡ Some bytes
get-with_all_at m first [] i bytes h = cc
get-with_all_at m first (r ∷ rs) zero bytes h =
    ap (get (with_all (insert m first r) (first + 1) rs)) (add-zero first)
    ∙ get-with_all_below (insert m first r) (first + 1) rs first (omega arith) ∙ get-insert_here m first r ∙ h
get-with_all_at m first (r ∷ rs) (suc i) bytes h =
    ap (get (with_all (insert m first r) (first + 1) rs)) (next first i) ∙ get-with_all_at (insert m first r) (first + 1) rs i bytes h
  where
    next : (x i : ℕ) → x + suc i ≡ (x + 1) + i
    next x i = omega arith

-- what is held then was held before, or was added
pub with_all_from : (m : Records) (first : ℕ) (rs : List (List ℕ)) (x : ℕ) (bytes : List ℕ) → get (with_all m first rs) x ≡ Some bytes
    → (get m x ≡ Some bytes) ⊎ ((i : ℕ) × (x ≡ first + i) × (slice_get rs i ≡ Some bytes))
with_all_from m first [] x bytes h = inl h
with_all_from m first (r ∷ rs) x bytes h = elim (with_all_from (insert m first r) (first + 1) rs x bytes h) [
  | inl old ↦ elim (cases_eq x first) [
    | inl same ↦ inr (0, omega arith, sym (get-insert_here m first r) ∙ ap (get (insert m first r)) (sym same) ∙ old)
    | inr apart ↦ inl (sym (get-insert_apart m first r x apart) ∙ old)
  ]
  | inr new ↦ let i = new.1 in inr (suc new.0, omega arith, new.2)
]

-- what was held is held, or the bytes that took its place
pub with_all_keeps : (m : Records) (first : ℕ) (rs : List (List ℕ)) (x : ℕ) → (bytes : List ℕ) × (get m x ≡ Some bytes) → (bytes : List ℕ) × (get (with_all m first rs) x ≡ Some bytes)
with_all_keeps m first [] x there = there
with_all_keeps m first (r ∷ rs) x there = with_all_keeps (insert m first r) (first + 1) rs x (elim (cases_eq x first) [
  | inl same ↦ (r, ap (get (insert m first r)) same ∙ get-insert_here m first r)
  | inr apart ↦ (there.0, get-insert_apart m first r x apart ∙ there.1)
])

-- ---- records removed one after another
-- m without the k intervals from first on is n
pub record RunGone (m n : Records) (first k : ℕ) : Type 0 where
  pub gone : IsFree n first k
  pub below : (q : ℕ) → q < first → get n q ≡ get m q
  pub above : (q : ℕ) → first + k ≤ q → get n q ≡ get m q

pub run_gone_none : (m : Records) (first : ℕ) → RunGone m m first 0
run_gone_none m first = record { gone = λ x ge lt. absurd (omega arith); below = λ q h. refl; above = λ q h. refl }

pub run_gone_more : (m n : Records) (first k x : ℕ) → x ≡ first + k → RunGone m n first k → RunGone m (remove n x) first (k + 1)
run_gone_more m n first k x is run = record {
  gone = λ q ge lt. ⊎_elim
      (λ same. ap (λ y. get (remove n x) y) same ∙ get-remove_here n x)
      (λ ne. get-remove_apart n x q ne ∙ run.gone q ge (omega arith)) (cases_eq q x);
  below = λ q h. let ne : q ≢ x = omega arith in get-remove_apart n x q ne ∙ run.below q h;
  above = λ q h. let ne : q ≢ x = omega arith in get-remove_apart n x q ne ∙ run.above q (omega arith);
}

-- what was put where nothing was, and then removed, leaves what was before
pub put_and_gone : (m n : Records) (first : ℕ) (rs : List (List ℕ)) (k count : ℕ) → length rs ≡ k → k ≤ count → IsFree m first count → RunGone (with_all m first rs) n first k → n ≡ m
put_and_gone m n first rs k count long within free run = same_records n m (λ q. ⊎_elim
    (λ under. run.below q under ∙ get-with_all_below m first rs q under)
    (λ from. ⊎_elim
    (λ inside. run.gone q from inside ∙ sym (free q from (omega arith)))
    (λ over. run.above q over ∙ get-with_all_above m first rs q (omega arith)) (cases_lt q (first + k)))
    (cases_lt q first))

-- records that were put and have gone again: what was before
pub taken_back : (m now n : Records) (first : ℕ) (recs : List (Vec ℕ Global)) → now ≡ with_all m first (bytes_of recs) → IsFree m first (length recs)
    → RunGone now n first (length recs) → n ≡ m
taken_back m now n first recs put free run =
    put_and_gone m n first (bytes_of recs) (length recs) (length recs) (length-map recs (λ (r : Vec ℕ Global). r.items)) (omega arith) free record {
      gone = run.gone;
      below = λ q h. run.below q h ∙ ap (λ m. get m q) put;
      above = λ q h. run.above q h ∙ ap (λ m. get m q) put;
    }

-- ---- the bytes of records
pub length-bytes_of_taken : (recs : List (Vec ℕ Global)) (k : ℕ) → k ≤ length recs → length (bytes_of (take k recs)) ≡ k
length-bytes_of_taken recs k h = length-map (take k recs) (λ (r : Vec ℕ Global). r.items) ∙ length-take-le k recs h

-- one more record after those so far
pub with_all-next : (m n new : Records) (first k x : ℕ) (recs : List (Vec ℕ Global)) (v : Vec ℕ Global) (bytes : List ℕ) → k < length recs → v ≡ get_or recs k v → n ≡ with_all m first (bytes_of (take k recs)) → x ≡ first + k → bytes ≡ v.items → new ≡ insert n x bytes → new ≡ with_all m first (bytes_of (take (k + 1) recs))
with_all-next m n new first k x recs v bytes within here so_far at same put =
    let rs = bytes_of (take k recs) in
    let long : length rs ≡ k = length-bytes_of_taken recs k (omega arith) in
    let item : (get_or recs k v).items ≡ bytes = ap (λ r. r.items) (sym here) ∙ sym same in
    put ∙ ap (λ n. insert n x bytes) so_far ∙ ap (λ y. insert (with_all m first rs) y bytes) (at ∙ ap (λ n. first + n) (sym long))
    ∙ sym (with_all-push m first rs bytes)
    ∙ ap (λ r. with_all m first (rs ++ r ∷ [])) (sym item)
    ∙ ap (with_all m first) (sym (map_more (λ (r : Vec ℕ Global). r.items) recs k v within))
