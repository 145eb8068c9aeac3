-- Bytes that are looked at as one number.
use Rattle.std.proofs.Common.{◌≡◌, ◌≢◌, ℕ, zero, suc, ◌+◌, ◌*◌, ◌^◌, ◌<◌, ◌≤◌, true, false, List, length, get_or, refl, sym, ap, ◌∙◌, arith}
use Rattle.std.specs.Prelude.{nat_eq, nat_lt, not}
use Rattle.std.specs.Int.{byte_worth, sum_through}
use Rattle.std.proofs.lemmas.Bool.{cases_eq, cases_lt, eq-eqb, lt-ltb, both_ways}
use Rattle.std.proofs.lemmas.Bool.Decides.{nat_tests}
use Rattle.std.proofs.lemmas.List.Elements.{All-from_get_or}
use Rattle.std.proofs.lemmas.List.Folds.{list_any_none, list_any_at}
use Rattle.std.proofs.Math.Logic.{⊎_elim}
use native.Mathlib.Nat.{one-le-pow, mul-le-mul_left}
use Rattle.om_pages.specs.Pages.{is_kept}

none_of_product : (b x : ℕ) → 1 ≤ x → b * x ≡ 0 → b ≡ 0
none_of_product zero x some h = refl
none_of_product (suc b) x some h = let more : suc b * 1 ≤ suc b * x = mul-le-mul_left (suc b) some in absurd (omega arith)

-- a byte that is worth nothing is zero
worth_none : (i b : ℕ) → byte_worth i b ≡ 0 → b ≡ 0
worth_none zero b h = h
worth_none (suc i) b h = none_of_product b (256 ^ suc i) (one-le-pow (suc i) 256 (omega arith)) h

worth_of_none : (i : ℕ) → byte_worth i 0 ≡ 0
worth_of_none zero = refl
worth_of_none (suc i) = omega arith

none_of_sum : (f : ℕ → ℕ) (k : ℕ) → sum_through f k ≡ 0 → (i : ℕ) → i ≤ k → f i ≡ 0
none_of_sum f zero h i le = let here : i ≡ 0 = omega arith in ap f here ∙ h
none_of_sum f (suc k) h i le = ⊎_elim
    (λ last. let none : f (suc k) ≡ 0 = omega arith in ap f last ∙ none)
    (λ before. let rest : sum_through f k ≡ 0 = omega arith in none_of_sum f k rest i (omega arith))
    (cases_eq i (suc k))

sum_of_none : (f : ℕ → ℕ) (k : ℕ) → ((i : ℕ) → i ≤ k → f i ≡ 0) → sum_through f k ≡ 0
sum_of_none f zero h = h 0 (omega arith)
sum_of_none f (suc k) h =
    let rest : sum_through f k ≡ 0 = sum_of_none f k (λ i le. h i (omega arith)) in
    let last : f (suc k) ≡ 0 = h (suc k) (omega arith) in
    omega arith

not_positive : (b : ℕ) → b ≡ 0 → nat_lt 0 b ≡ false
not_positive b h = grind (arith, nat_tests)

-- where no byte passes the test, each is zero
none_is_set : (bytes : List ℕ) → is_kept bytes ≡ false → (i : ℕ) → i < length bytes → get_or bytes i 0 ≡ 0
none_is_set bytes none i within = ⊎_elim
    (λ positive. absurd (both_ways (is_kept bytes) none (list_any_at (λ b. nat_lt 0 b) bytes i 0 within (lt-ltb 0 (get_or bytes i 0) positive))))
    (λ other. omega arith)
    (cases_lt 0 (get_or bytes i 0))

-- the number is zero just where all its bytes are
pub set_by_number : (bytes : List ℕ) (k n : ℕ) → length bytes ≡ k + 1 → n ≡ sum_through (λ i. byte_worth i (get_or bytes i 0)) k → not (nat_eq n 0) ≡ is_kept bytes
set_by_number bytes k n long is = ⊎_elim
    (λ none. let zeros = none_of_sum (λ i. byte_worth i (get_or bytes i 0)) k (sym is ∙ none) in
    ap not (eq-eqb n 0 none)
    ∙ sym (list_any_none (λ b. nat_lt 0 b) bytes (All-from_get_or (λ b. nat_lt 0 b ≡ false) bytes 0 (λ i within.
    not_positive (get_or bytes i 0) (worth_none i (get_or bytes i 0) (zeros i (omega arith)))))))
    (λ some. ap not (differ n some) ∙ sym (is_set some))
    (cases_eq n 0)
  where
    differ : (n : ℕ) → n ≢ 0 → nat_eq n 0 ≡ false
    differ n h = grind (arith, nat_tests)

    is_set : n ≢ 0 → is_kept bytes ≡ true
    is_set some = elim (is_kept bytes) as (λ t. is_kept bytes ≡ t → t ≡ true) [
      | true ↦ λ _. refl
      | false ↦ λ none. absurd (some (is ∙ sum_of_none (λ i. byte_worth i (get_or bytes i 0)) k (λ i le.
          ap (byte_worth i) (none_is_set bytes none i (omega arith)) ∙ worth_of_none i)))
    ] refl
