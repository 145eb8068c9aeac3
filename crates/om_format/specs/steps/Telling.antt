-- What a decoder answers that takes no memory.
use Rattle.std.specs.Prelude.{◌≡◌, Result, Ok, Err}
use Rattle.om_format.specs.declared.error.DecodeError.{DecodeError}
use Rattle.om_format.specs.declared.error.DecodeError.TheVariants.{Memory}

-- an answer, seen by view, is the one that is due, and no want of memory: of a function that takes none
abbrev pub Tells : {X Y : Type 0} → (X → Y) → Result X DecodeError → Result Y DecodeError → Type 0
Tells view (Ok x) due = due ≡ Ok (view x)
Tells view (Err error) due = (due ≡ Err error) × (error ≡ Memory → ⊥)
