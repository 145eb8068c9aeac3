-- What an event did to the machine of one process.
use Rattle.std.specs.Prelude.{ℕ, zero, suc, List, [], ◌∷◌, take}
use Rattle.om_machine.specs.State.{State}
use Rattle.om_timeline.specs.declared.deed.Deed.{Deed}
use Rattle.om_timeline.specs.declared.deed.Deed.TheVariants.{Nothing, Ran, Took, Fell, Back}
use Rattle.om_timeline.specs.Alone.{received_alone, turns_alone}

-- the machine of process own of n after a deed: of a process that fell, the one that it had
abbrev pub after_deed : ℕ → ℕ → State → Deed → State
after_deed own n m Nothing = m
after_deed own n m (Ran turns) = turns_alone own n turns m
after_deed own n m (Took from body) = received_alone own n from body m
after_deed own n m Fell = m
after_deed own n m (Back machine) = machine

-- the machine after several deeds, one after another
abbrev pub after_deeds : ℕ → ℕ → State → List Deed → State
after_deeds own n m [] = m
after_deeds own n m (deed ∷ deeds) = after_deeds own n (after_deed own n m deed) deeds

-- how many turns a deed has
abbrev pub turns_in : Deed → ℕ
turns_in (Ran turns) = turns
turns_in _ = 0

abbrev pub turns_at : List Deed → ℕ → ℕ
turns_at [] event = 0
turns_at (deed ∷ deeds) zero = turns_in deed
turns_at (deed ∷ deeds) (suc event) = turns_at deeds event

-- the machine after so many deeds of a tape, and so many turns of the next
abbrev pub at_position : ℕ → ℕ → State → List Deed → ℕ → ℕ → State
at_position own n m tape event turns = turns_alone own n turns (after_deeds own n m (take event tape))
