-- What came last to the process, read off what an event did.
use Rattle.std.specs.Prelude.{ℕ, ◌-◌, Bool, List, Option, Some, None, nat_lt, if◌then◌else◌, slice_get}
use Rattle.om_timeline.specs.declared.deed.Deed.{Deed}
use Rattle.om_timeline.specs.declared.deed.Deed.TheVariants.{Nothing, Ran, Took, Fell, Back}
use Rattle.om_debug.specs.Moments.{is_down}

-- behind how many instructions of an event the last thing came to a process that was down or up, if anything did
abbrev pub before_last_of : Bool → Option Deed → Option ℕ
before_last_of was_down None = None
before_last_of was_down (Some Nothing) = None
before_last_of was_down (Some (Ran all)) = if nat_lt 0 all then Some (all - 1) else None
before_last_of was_down (Some (Took from body)) = Some 0
before_last_of was_down (Some Fell) = if was_down then None else Some 0
before_last_of was_down (Some (Back machine)) = Some 0

abbrev pub before_last : List Deed → ℕ → Option ℕ
before_last deeds event = before_last_of (is_down deeds event) (slice_get deeds event)
