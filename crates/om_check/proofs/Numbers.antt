-- Messages that are kept, by their numbers.
use Rattle.std.proofs.Common.{◌≡◌, ℕ, zero, suc, ◌+◌, ◌-◌, ◌≤◌, ◌<◌, List, [], ◌∷◌, length, Some, None, sym, ap, subst, ◌∙◌, arith}
use Rattle.std.specs.Prelude.{IsTrue, false, nat_lt, slice_get}
use Rattle.std.proofs.lemmas.Bool.Decides.{nat_tests}
use Rattle.om_format.specs.declared.queue.QueueEntry.{QueueEntry}
use Rattle.om_format.specs.Queues.{QueueRecord}
use Rattle.om_process.specs.Claims.{HasEntry}
use Rattle.om_process.specs.Kept.{numbered, queue_at, sent_as}
use Rattle.om_process.specs.declared.queues.Sent.{Sent}

-- an entry of a queue stands at a place of it
stands_in : (qs : List QueueRecord) (place number : ℕ) (e : QueueEntry) → HasEntry qs place number e
    → (i : ℕ) × (number ≡ (queue_at qs place).first + i) × (slice_get (queue_at qs place).entries i ≡ Some e)
stands_in [] place number e has = absurd has
stands_in (q ∷ qs) zero number e has = has
stands_in (q ∷ qs) (suc place) number e has = stands_in qs place number e has

inside : {A : Type 0} (xs : List A) (i : ℕ) (x : A) → slice_get xs i ≡ Some x → i < length xs
inside [] i x at = cc
inside (y ∷ xs) zero x at = omega arith
inside (y ∷ xs) (suc i) x at = let rest = inside xs i x at in omega (arith, rest)

-- behind the first the last stands at one place less
skip : {A : Type 0} (x y : A) (xs : List A) → slice_get (x ∷ y ∷ xs) (length (x ∷ y ∷ xs) - 1) ≡ slice_get (y ∷ xs) (length (y ∷ xs) - 1)
skip x y xs = let e : length (x ∷ y ∷ xs) - 1 ≡ suc (length (y ∷ xs) - 1) = omega arith in ap (slice_get (x ∷ y ∷ xs)) e

-- the last of numbered ones has the greatest number
last_number : (first : ℕ) (es : List QueueEntry) (s : Sent) → slice_get (numbered sent_as first es) (length (numbered sent_as first es) - 1) ≡ Some s
    → s.ssn + 1 ≡ first + length es
last_number first [] s at = cc
last_number first (e ∷ []) s at = let one : s.ssn ≡ first = number at in omega (arith, one)
  where
    number : Some (sent_as first e) ≡ Some s → s.ssn ≡ first
    number same = cc
last_number first (e ∷ d ∷ es) s at =
    let rest = last_number (first + 1) (d ∷ es) s (sym (skip (sent_as first e) (sent_as (first + 1) d) (numbered sent_as (first + 1 + 1) es)) ∙ at) in
    omega (arith, rest)

pub all_below : (qs : List QueueRecord) (place number got : ℕ) (e : QueueEntry) (xs : List Sent) (s : Sent)
    → xs ≡ numbered sent_as (queue_at qs place).first (queue_at qs place).entries → slice_get xs (length xs - 1) ≡ Some s → s.ssn < got
    → HasEntry qs place number e → number < got
all_below qs place number got e xs s kept at lt has =
    let there = stands_in qs place number e has in
    let in_it = inside (queue_at qs place).entries there.0 e there.2 in
    let last = last_number (queue_at qs place).first (queue_at qs place).entries s (subst (λ ys. slice_get ys (length ys - 1) ≡ Some s) kept at) in
    let is : number ≡ (queue_at qs place).first + there.0 = there.1 in
    omega (arith, in_it, last, lt, is)

last_there : (first : ℕ) (x : QueueEntry) (es : List QueueEntry) → slice_get (numbered sent_as first (x ∷ es)) (length (numbered sent_as first (x ∷ es)) - 1) ≡ None → ⊥
last_there first x [] none = cc
last_there first x (y ∷ es) none =
    last_there (first + 1) y es (sym (skip (sent_as first x) (sent_as (first + 1) y) (numbered sent_as (first + 1 + 1) es)) ∙ none)

nothing : (first : ℕ) (es : List QueueEntry) (i : ℕ) (e : QueueEntry) → slice_get (numbered sent_as first es) (length (numbered sent_as first es) - 1) ≡ None
    → slice_get es i ≡ Some e → ⊥
nothing first [] i e none at = cc
nothing first (x ∷ es) i e none at = last_there first x es none

pub none_kept : (qs : List QueueRecord) (place number : ℕ) (e : QueueEntry) (xs : List Sent)
    → xs ≡ numbered sent_as (queue_at qs place).first (queue_at qs place).entries → slice_get xs (length xs - 1) ≡ None → HasEntry qs place number e → ⊥
none_kept qs place number e xs kept none has =
    let there = stands_in qs place number e has in
    nothing (queue_at qs place).first (queue_at qs place).entries there.0 e (subst (λ ys. slice_get ys (length ys - 1) ≡ None) kept none) there.2

-- a comparison of two numbers, of which one is known by another name
pub less_so : (a b d : ℕ) → IsTrue (nat_lt a b) → b ≡ d → a < d
less_so a b d is same = subst (λ k. a < k) same (below a b is)
  where
    below : (a b : ℕ) → IsTrue (nat_lt a b) → a < b
    below a b is = grind (arith, nat_tests)

pub more_so : (a b d : ℕ) → nat_lt a b ≡ false → b ≡ d → d ≤ a
more_so a b d is same = subst (λ k. k ≤ a) same (above a b is)
  where
    above : (a b : ℕ) → nat_lt a b ≡ false → b ≤ a
    above a b is = grind (arith, nat_tests)
