-- How bytes are kept.
use Rattle.std.specs.Prelude.{ℕ, ◌≤◌, List, take, Vec, ⊤}
use Rattle.std.specs.Arc.{arc_value}
use Rattle.std.specs.declared.alloc.Global.{Global}
use Rattle.om_bytes.specs.declared.bytes.TheConstants.{IN_PLACE}
use Rattle.om_bytes.specs.declared.bytes.Kept.{Kept}
use Rattle.om_bytes.specs.declared.bytes.Kept.TheVariants.{Short, Long}

-- the bytes that are kept
abbrev pub kept_bytes : Kept → List ℕ
kept_bytes (Short count places) = take count places
kept_bytes (Long long) = (arc_value {X = Vec ℕ Global} long).items

-- what stands in place is no more than there are places
abbrev pub AreKept : Kept → Type 0
AreKept (Short count places) = count ≤ IN_PLACE
AreKept (Long long) = ⊤
