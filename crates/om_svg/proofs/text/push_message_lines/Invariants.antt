use Rattle.std.proofs.Common.{◌≡◌, ◌++◌, take, string_bytes}
use Rattle.std.specs.List.{flat_map}
use Rattle.om_svg.specs.ShapeText.{message_line_text}
use Rattle.om_svg.proofs.text.push_message_lines.Given as goal

abbrev pub invariant-loop-message_line : goal.invariant-loop-message_line
invariant-loop-message_line l = string_bytes l.text ≡ string_bytes l.initial.text ++ flat_map message_line_text (take l.message_line-index l.message_lines)
