-- What comes next to a process at a position of its record.
use Rattle.std.specs.Prelude.{ℕ, ◌-◌, Bool, true, false, ◌&&◌, List, Option, Some, None, nat_lt, if◌then◌else◌, slice_get}
use Rattle.om_timeline.specs.declared.deed.Deed.{Deed}
use Rattle.om_timeline.specs.declared.deed.Deed.TheVariants.{Nothing, Ran, Took, Fell, Back}
use Rattle.om_debug.specs.declared.moment.Next.{Next}
use Rattle.om_debug.specs.declared.moment.Next.TheVariants.{Still, Instructions, Receipt, Failure, Return}

abbrev pub is_fall : Option Deed → Bool
is_fall None = false
is_fall (Some Nothing) = false
is_fall (Some (Ran turns)) = false
is_fall (Some (Took from body)) = false
is_fall (Some Fell) = true
is_fall (Some (Back machine)) = false

-- the process is down behind so many events
abbrev pub is_down : List Deed → ℕ → Bool
is_down deeds event = nat_lt 0 event && is_fall (slice_get deeds (event - 1))

-- what comes next of what an event does to a process that was down or up, of which so many turns were taken: who is down fails no more
abbrev pub next_of_deed : Bool → Option Deed → ℕ → Next
next_of_deed was_down None turns = Still
next_of_deed was_down (Some Nothing) turns = Still
next_of_deed was_down (Some (Ran all)) turns = if nat_lt turns all then Instructions (all - turns) else Still
next_of_deed was_down (Some (Took from body)) turns = Receipt
next_of_deed was_down (Some Fell) turns = if was_down then Still else Failure
next_of_deed was_down (Some (Back machine)) turns = Return

abbrev pub next_at : List Deed → ℕ → ℕ → Next
next_at deeds event turns = next_of_deed (is_down deeds event) (slice_get deeds event) turns

-- what comes next is an instruction: a message is received by one
abbrev pub is_at_instruction : Next → Bool
is_at_instruction Still = false
is_at_instruction (Instructions left) = true
is_at_instruction Receipt = true
is_at_instruction Failure = false
is_at_instruction Return = false

-- whether nothing comes next
abbrev pub is_still : Next → Bool
is_still Still = true
is_still (Instructions left) = false
is_still Receipt = false
is_still Failure = false
is_still Return = false
