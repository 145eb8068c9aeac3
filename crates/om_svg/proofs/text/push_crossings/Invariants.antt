use Rattle.std.proofs.Common.{◌≡◌, ◌++◌, take, string_bytes}
use Rattle.std.specs.List.{flat_map}
use Rattle.om_svg.specs.ShapeText.{crossing_text}
use Rattle.om_svg.proofs.text.push_crossings.Given as goal

abbrev pub invariant-loop-crossing : goal.invariant-loop-crossing
invariant-loop-crossing l = string_bytes l.text ≡ string_bytes l.initial.text ++ flat_map crossing_text (take l.crossing-index l.crossings)
