use Rattle.std.proofs.Common.{◌≡◌, ◌-◌, ◌*◌, ◌++◌, length, take}
use Rattle.om_format.specs.Formats.{four}
use Rattle.om_format.specs.FirstFault.{values_at}
use Rattle.om_format.proofs.checkpoint_reading.read_words.Given as goal

abbrev pub invariant-loop-i : goal.invariant-loop-i
invariant-loop-i l =
    (length l.rest ≡ (length l.fn.places - l.i) * 4)
    × (take l.i l.places ++ values_at four (length l.fn.places - l.i) l.rest ≡ values_at four (length l.fn.places) l.front)
