use Rattle.std.proofs.Common.{◌≡◌, ◌++◌, take, string_bytes}
use Rattle.std.specs.List.{flat_map}
use Rattle.om_svg.specs.ShapeText.{segment_text}
use Rattle.om_svg.proofs.text.push_segments.Given as goal

abbrev pub invariant-loop-segment : goal.invariant-loop-segment
invariant-loop-segment l = string_bytes l.text ≡ string_bytes l.initial.text ++ flat_map segment_text (take l.segment-index l.segments)
