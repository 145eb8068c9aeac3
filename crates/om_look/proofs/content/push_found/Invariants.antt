use Rattle.std.proofs.Common.{◌≡◌, ◌++◌, take, string_bytes}
use Rattle.om_look.specs.steps.Found.{lines_text}
use Rattle.om_look.proofs.content.push_found.Given as goal

-- the lines of the checkpoints so far
abbrev pub invariant-loop-f : goal.invariant-loop-f
invariant-loop-f l = string_bytes l.text ≡ string_bytes l.initial.text ++ lines_text (take l.f-index l.found)
