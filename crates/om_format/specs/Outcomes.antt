-- What a decoder answers, where memory may have run out.
use Rattle.std.specs.Prelude.{◌≡◌, Result, Ok, Err}
use Rattle.om_format.specs.declared.error.DecodeError.{DecodeError}
use Rattle.om_format.specs.declared.error.DecodeError.TheVariants.{Memory}

-- an error is the one that is due, or want of memory
abbrev pub Fails : {Y : Type 0} → DecodeError → Result Y DecodeError → Type 0
Fails error due = (error ≡ Memory → ⊥) → due ≡ Err error

-- an answer, seen by view, is the one that is due, unless memory ran out
abbrev pub Gives : {X Y : Type 0} → (X → Y) → Result X DecodeError → Result Y DecodeError → Type 0
Gives view (Ok x) due = due ≡ Ok (view x)
Gives view (Err error) due = Fails error due
