-- What is told of stores over which none has failed, and of faults.
use Rattle.std.specs.Prelude.{◌≡◌, ◌≢◌, ℕ, Result, Err}
use Rattle.om_world.specs.World.{WorldState, IsKnown}
use Rattle.om_world.specs.Changes.{HasFailed}
use Rattle.om_world.specs.Played.{IsFaultless}
use Rattle.om_world.specs.Stopped.{IsWhole}
use Rattle.om_world.specs.declared.event.Answer.{Answer}
use Rattle.om_world.specs.declared.event.Refusal.{Refusal}
use Rattle.om_world.specs.declared.event.Refusal.TheVariants.{Fault, Damaged}

-- no store counts a failure, whatever becomes of it
abbrev pub NeverFails : {S : Type 0} → (S → ℕ) → Type 0
NeverFails {S} failed = (store : S) → failed store ≡ 0

-- over such stores the answer is no fault of one
abbrev pub IsFaultlessOver : {S : Type 0} → (S → ℕ) → Answer → Type 0
IsFaultlessOver failed answer = NeverFails failed → IsFaultless answer

-- over such stores the call is not refused for a fault of one
abbrev pub HasNoFaultOver : {S A : Type 0} → (S → ℕ) → Result A Refusal → Type 0
HasNoFaultOver failed result = NeverFails failed → result ≢ Err Fault

-- a call that is refused for a fault of a store leaves that counted
abbrev pub CountsFault : {A : Type 0} → WorldState → Result A Refusal → WorldState → Type 0
CountsFault old result new = result ≡ Err Fault → (p : ℕ) × HasFailed old p new

-- of a world whose stores are of one run no record is damaged
abbrev pub IsUndamaged : {A : Type 0} → WorldState → Result A Refusal → WorldState → Type 0
IsUndamaged old result new = IsKnown new → IsWhole old → result ≢ Err Damaged
