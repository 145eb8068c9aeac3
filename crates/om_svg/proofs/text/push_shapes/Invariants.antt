use Rattle.std.proofs.Common.{◌≡◌, ◌++◌, take, string_bytes}
use Rattle.std.specs.List.{flat_map}
use Rattle.om_svg.specs.ShapeText.{shape_text}
use Rattle.om_svg.proofs.text.push_shapes.Given as goal

abbrev pub invariant-loop-shape : goal.invariant-loop-shape
invariant-loop-shape l = string_bytes l.text ≡ string_bytes l.initial.text ++ flat_map shape_text (take l.shape-index l.shapes)
