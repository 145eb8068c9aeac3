-- How the logs of a run lie in one row of numbers.
use Rattle.std.specs.Prelude.{◌≡◌, ℕ, zero, suc, ◌+◌, ◌*◌, ◌≤◌, List, [], ◌∷◌, length, take, drop, slice_get, Some}
use Rattle.om_interval.specs.declared.pid.TheConstants.{MAX_PROCESSES}
use Rattle.om_recover.specs.declared.rows.trees.Vectors.{Vectors}

-- the numbers of two vectors, each of as many places as a cluster may have processes
pub record AreSized (one other : List ℕ) : Type 0 where
  pub some : 1 ≤ length one
  pub within : length one ≤ MAX_PROCESSES
  pub some_too : 1 ≤ length other
  pub within_too : length other ≤ MAX_PROCESSES

-- two vectors, of which the one lies in the first n numbers and the other in those behind
abbrev pub halves : ℕ → List ℕ → Vectors
halves n numbers = record { vec = take n numbers; got = drop n numbers }

-- the log whose numbers are the first: n places of the one vector, and then n of the other
abbrev pub log_in : ℕ → List ℕ → Vectors
log_in n numbers = record { vec = take n numbers; got = take n (drop n numbers) }

-- the logs that lie in numbers, so many
abbrev pub vectors_in : ℕ → ℕ → List ℕ → List Vectors
vectors_in n zero numbers = []
vectors_in n (suc count) numbers = log_in n numbers ∷ vectors_in n count (drop (n + n) numbers)

-- behind the numbers that are gone lie those of so many logs, and no others
pub record AreFlat (n count gone : ℕ) (numbers : List ℕ) : Type 0 where
  pub some : 1 ≤ n
  pub within : n ≤ MAX_PROCESSES
  pub whole : length numbers ≡ gone + count * (n + n)

-- the vectors have as many places as each other, and as those of the logs
pub record AreAlike (logs : List Vectors) (vectors : Vectors) : Type 0 where
  pub even : length vectors.got ≡ length vectors.vec
  pub others : (place : ℕ) (other : Vectors) → slice_get logs place ≡ Some other → length other.vec ≡ length vectors.vec
