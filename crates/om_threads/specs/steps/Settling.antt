-- How the inboxes of a cluster are settled, when its workers have ended.
use Rattle.std.specs.Prelude.{◌≡◌, ◌≢◌, ℕ, ◌<◌, ◌≤◌, List, Some, Vec, length, slice_get}
use Rattle.std.specs.declared.alloc.Global.{Global}
use mathlib.Core.List.{IsPrefix}
use Rattle.om_board.specs.Inboxes.{Line, Traffic, Takings}
use Rattle.om_links.specs.Network.{ArePuts, AreTakes, IsNetwork, Lines}

-- the element at a place of a row
abbrev pub StandsAt : {A : Type 0} → List (Vec A Global) → ℕ → ℕ → A → Type 0
StandsAt rows i j x = (row : Vec _ Global) × (slice_get rows i ≡ Some row) × (slice_get row.items j ≡ Some x)

-- the passes of n processes: to put by sender, and there by receiver; to take by receiver, and there by sender
pub record ArePasses (n : ℕ) (lines : Lines) (puts : List (Vec Traffic Global)) (takes : List (Vec Takings Global)) : Type 0 where
  pub network : IsNetwork n lines
  pub senders : length puts ≡ n
  pub receivers : length takes ≡ n
  pub put : (from : ℕ) (row : Vec Traffic Global) → slice_get puts from ≡ Some row → length row.items ≡ n
  pub take : (to : ℕ) (row : Vec Takings Global) → slice_get takes to ≡ Some row → length row.items ≡ n
  pub putting : (from : ℕ) (row : Vec Traffic Global) → slice_get puts from ≡ Some row → ArePuts lines from row.items
  pub taking : (to : ℕ) (row : Vec Takings Global) → slice_get takes to ≡ Some row → AreTakes lines to row.items

-- each pass of one sender to put is of the inbox at its place, and so is the receiver's pass to take
abbrev pub HavePairs : List Line → ℕ → List Traffic → List (Vec Takings Global) → Type 0
HavePairs row from puts takes = (to : ℕ) (put : Traffic) → slice_get puts to ≡ Some put
    → (slice_get row to ≡ Some put.line) × ((taken : Takings) × StandsAt takes to from taken × (taken.line ≡ put.line))

-- a pass to take whose holder knows all that was put
abbrev pub with_put : Takings → Traffic → Takings
with_put taken put = record taken { put = Some put.messages }

-- the inboxes from one sender to the first receivers are settled: what was taken begins what was put, and the receiver knows
-- all that was put. All other passes to take are as they were
pub record IsRowSettled (done from : ℕ) (puts : List Traffic) (old new : List (Vec Takings Global)) : Type 0 where
  pub known : (to : ℕ) (put : Traffic) (taken : Takings) → to < done → slice_get puts to ≡ Some put → StandsAt old to from taken
      → StandsAt new to from (with_put taken put)
  pub begun : (to : ℕ) (put : Traffic) (taken : Takings) → to < done → slice_get puts to ≡ Some put → StandsAt old to from taken
      → IsPrefix taken.messages put.messages
  pub later : (to : ℕ) (taken : Takings) → done ≤ to → StandsAt old to from taken → StandsAt new to from taken
  pub others : (by to : ℕ) (taken : Takings) → by ≢ from → StandsAt old to by taken → StandsAt new to by taken

-- the inboxes from the first senders to all receivers are settled, in the same way
pub record AreSettled (done : ℕ) (puts : List (Vec Traffic Global)) (old new : List (Vec Takings Global)) : Type 0 where
  pub known : (from to : ℕ) (put : Traffic) (taken : Takings) → from < done → StandsAt puts from to put → StandsAt old to from taken
      → StandsAt new to from (with_put taken put)
  pub begun : (from to : ℕ) (put : Traffic) (taken : Takings) → from < done → StandsAt puts from to put → StandsAt old to from taken
      → IsPrefix taken.messages put.messages
  pub later : (from to : ℕ) (taken : Takings) → done ≤ from → StandsAt old to from taken → StandsAt new to from taken
