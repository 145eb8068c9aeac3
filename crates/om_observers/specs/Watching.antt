-- What is seen of a cluster while it runs.
use Rattle.std.specs.Prelude.{◌≡◌, ◌≢◌, ◌≤◌, ◌+◌, ℕ, List, Option, Some, None, min}
use Rattle.std.specs.List.{All, Any, sum_by}
use Rattle.om_board.specs.declared.front.Front.{Front}
use Rattle.om_process.specs.Core.{IsEnd}
use Rattle.om_observers.specs.declared.sight.Doing.{Doing}
use Rattle.om_observers.specs.declared.sight.Doing.TheVariants.{Up}
use Rattle.om_observers.specs.declared.sight.Sight.{Sight}

-- the process has come to its end
abbrev pub HasEnded : Doing → Type 0
HasEnded (Up status) = IsEnd status
HasEnded _ = ⊥

-- a number of u64, the highest where there is no room
abbrev pub capped : ℕ → ℕ
capped n = min n 18446744073709551615

-- the sum over what was seen of each process
abbrev pub sum_over : (Sight → ℕ) → List Sight → ℕ
sum_over f sights = capped (sum_by f sights)

-- how new a front is: none is older than any
abbrev pub newness : Option Front → ℕ
newness None = 0
newness (Some front) = front.version + 1

-- the newest of the fronts that were seen, if any was
pub record IsNewest (sights : List Sight) (front : Option Front) : Type 0 where
  pub seen : front ≢ None → Any (λ s. s.front ≡ front) sights
  pub newest : All (λ s. newness s.front ≤ newness front) sights
