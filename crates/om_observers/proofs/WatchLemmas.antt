-- What is seen of one process more.
use Rattle.std.proofs.Common.{◌≡◌, ℕ, zero, suc, ◌+◌, ◌<◌, ◌≤◌, List, [], ◌∷◌, ◌++◌, Option, refl, sym, ap, ◌∙◌, subst, arith, get_or, length, take, add-one, inl, inr}
use Rattle.std.specs.Prelude.{slice_index_or}
use Rattle.std.specs.List.{All, Any, sum_by}
use Rattle.std.proofs.lemmas.List.Elements.{All-push}
use Rattle.std.proofs.lemmas.List.Quantifiers.{Any-push}
use Rattle.std.proofs.lemmas.Bool.{cases_lt}
use Rattle.std.proofs.lemmas.List.Sums.{sum_by_push}
use Rattle.std.proofs.Math.Seq.{take-suc}
use Rattle.om_board.specs.declared.front.Front.{Front}
use Rattle.om_observers.specs.Watching.{IsNewest, capped, newness, sum_over}
use Rattle.om_observers.specs.declared.sight.Sight.{Sight}

length_push : (sights : List Sight) (s : Sight) → length sights < length (sights ++ s ∷ [])
length_push [] s = omega arith
length_push (t ∷ sights) s = let h = length_push sights s in omega arith

index_push : (sights : List Sight) (s x : Sight) (k : ℕ) → k < length sights → slice_index_or (sights ++ s ∷ []) k x ≡ slice_index_or sights k x
index_push [] s x k lt = absurd (omega arith)
index_push (t ∷ sights) s x zero lt = refl
index_push (t ∷ sights) s x (suc k) lt = index_push sights s x k (omega arith)

-- one of the first is one of all
any_push : (P : Sight → Type 0) (sights : List Sight) (s : Sight) → Any P sights → Any P (sights ++ s ∷ [])
any_push P sights s (k, x, lt, at, is) = let long = length_push sights s in (k, x, omega arith, index_push sights s x k lt ∙ at, is)

none_above : (n m : ℕ) (sights : List Sight) → n ≤ m → All (λ s. newness s.front ≤ n) sights → All (λ s. newness s.front ≤ m) sights
none_above n m sights le each = λ k d lt. let here = each k d lt in omega (arith, le, here)

-- a front that is newer than those before it
pub newer_seen : (sights : List Sight) (front : Option Front) (s : Sight) → IsNewest sights front → newness front < newness s.front
    → IsNewest (sights ++ s ∷ []) s.front
newer_seen sights front s was newer = record {
  seen = λ some. Any-push (λ t. t.front ≡ s.front) sights s refl;
  newest = All-push (λ t. newness t.front ≤ newness s.front) sights s (none_above (newness front) (newness s.front) sights (omega (arith, newer)) was.newest) (omega arith);
}

-- one that is not
pub older_seen : (sights : List Sight) (front : Option Front) (s : Sight) → IsNewest sights front → newness s.front ≤ newness front
    → IsNewest (sights ++ s ∷ []) front
older_seen sights front s was older = record {
  seen = λ some. any_push (λ t. t.front ≡ front) sights s (was.seen some);
  newest = All-push (λ t. newness t.front ≤ newness front) sights s was.newest older;
}

-- the sum over one more
pub sum_next : (f : Sight → ℕ) (sights : List Sight) (k : ℕ) (d : Sight) → k < length sights
    → capped (sum_over f (take k sights) + f (get_or sights k d)) ≡ sum_over f (take (k + 1) sights)
sum_next f sights k d lt =
    let next : sum_by f (take (suc k) sights) ≡ sum_by f (take k sights) + f (get_or sights k d) =
    ap (sum_by f) (take-suc sights k d lt) ∙ sum_by_push f (take k sights) (get_or sights k d) in
    let same : sum_by f (take (k + 1) sights) ≡ sum_by f (take (suc k) sights) = ap (λ n. sum_by f (take n sights)) (add-one k) in
    omega (arith, next, same)

pub newest_next : (sights : List Sight) (k : ℕ) (d : Sight) (front next : Option Front) → k < length sights → IsNewest (take k sights) front
    → (newness front < newness (get_or sights k d).front → next ≡ (get_or sights k d).front)
    → (newness (get_or sights k d).front ≤ newness front → next ≡ front)
    → IsNewest (take (k + 1) sights) next
newest_next sights k d front next lt was newer older =
    let s = get_or sights k d in
    let all : take (k + 1) sights ≡ take k sights ++ s ∷ [] = ap (λ n. take n sights) (add-one k) ∙ take-suc sights k d lt in
    subst (λ l. IsNewest l next) (sym all)
    (elim (cases_lt (newness front) (newness s.front)) [
      | inl more ↦ subst (λ f. IsNewest (take k sights ++ s ∷ []) f) (sym (newer more)) (newer_seen (take k sights) front s was more)
      | inr less ↦ subst (λ f. IsNewest (take k sights ++ s ∷ []) f) (sym (older less)) (older_seen (take k sights) front s was less)
    ])
