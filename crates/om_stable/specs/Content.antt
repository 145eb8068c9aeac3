-- What one process's store holds.
use Rattle.std.specs.Prelude.{◌≡◌, ℕ, ◌+◌, ◌<◌, ◌≤◌, ◌&&◌, nat_lt, nat_le, List, [], ◌∷◌, filter, map, IsSome, None, Vec}
use Rattle.std.specs.declared.alloc.Global.{Global}
use Rattle.std.specs.Ordering.{nat_cmp}
use Rattle.std.specs.FinMap.{FinMap, empty, get, insert, retain_keys, entries}

-- records of one kind: to each interval that has one, its bytes
abbrev pub Records : Type 0
Records = FinMap nat_cmp (List ℕ)

-- the bytes of each of a list of records
abbrev pub bytes_of : List (Vec ℕ Global) → List (List ℕ)
bytes_of recs = map (λ r. r.items) recs

-- the interval and the bytes of each of a list of records
abbrev pub rows_of : List (ℕ × Vec ℕ Global) → List (ℕ × List ℕ)
rows_of found = map (λ e. (e.0, e.1.items)) found

-- the receipts and the checkpoints of one process
pub record Content : Type 0 where
  pub receipts : Records
  pub checkpoints : Records

-- a store without a record
abbrev pub nothing : Content
nothing = record { receipts = empty; checkpoints = empty }

-- the records with these added at first, first + 1, ..
abbrev pub with_all : Records → ℕ → List (List ℕ) → Records
with_all held first [] = held
with_all held first (bytes ∷ more) = with_all (insert held first bytes) (first + 1) more

-- the content with these receipts added at first, first + 1, ..
abbrev pub with_receipts : Content → ℕ → List (List ℕ) → Content
with_receipts held first rs = record held { receipts = with_all held.receipts first rs }

-- the content with this checkpoint added at x
abbrev pub with_checkpoint : Content → ℕ → List ℕ → Content
with_checkpoint held x bytes = record held { checkpoints = insert held.checkpoints x bytes }

-- none of the n intervals from first on has a record
abbrev pub IsFree : Records → ℕ → ℕ → Type 0
IsFree held first n = (x : ℕ) → first ≤ x → x < first + n → get held x ≡ None

-- one of the n intervals from first on has a record
abbrev pub IsTaken : Records → ℕ → ℕ → Type 0
IsTaken held first n = (x : ℕ) × (first ≤ x) × (x < first + n) × IsSome (get held x)

-- c is the greatest interval at or below x that has a record
pub record IsEffective (held : Records) (x c : ℕ) : Type 0 where
  pub within : c ≤ x
  pub has : IsSome (get held c)
  pub greatest : (y : ℕ) → y ≤ x → IsSome (get held y) → y ≤ c

-- the records above after and at or below to, in ascending order
abbrev pub between : Records → ℕ → ℕ → List (ℕ × List ℕ)
between held after to = filter (λ e. nat_lt after e.0 && nat_le e.0 to) (entries held)

-- what a cut to r keeps: what stands at or below r
abbrev pub kept_by_cut : Content → ℕ → Content
kept_by_cut held r = record {
  receipts = retain_keys held.receipts (λ x. nat_le x r);
  checkpoints = retain_keys held.checkpoints (λ x. nat_le x r);
}

-- what a prune to c keeps: receipts above c, and checkpoints at or above it
abbrev pub kept_by_prune : Content → ℕ → Content
kept_by_prune held c = record {
  receipts = retain_keys held.receipts (λ x. nat_lt c x);
  checkpoints = retain_keys held.checkpoints (λ x. nat_le c x);
}
