use Rattle.std.proofs.Common.{◌≡◌, ◌∷◌, ◌++◌, map, take}
use Rattle.std.specs.Prelude.{string_bytes}
use Rattle.om_image.specs.Image.{keyword}
use Rattle.om_image.specs.steps.Lines.{spaced}
use Rattle.om_image.proofs.line.joined.Given as goal

abbrev pub invariant-loop-text : goal.invariant-loop-text
invariant-loop-text l = l.line.items ≡ keyword l.fn.ext ++ spaced (l.name ∷ l.size ∷ map string_bytes (take l.text-index l.texts))
