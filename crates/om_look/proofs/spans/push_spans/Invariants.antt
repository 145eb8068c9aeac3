use Rattle.std.proofs.Common.{◌≡◌, ◌++◌, take, string_bytes}
use Rattle.om_look.specs.Spans.{spans_text}
use Rattle.om_look.proofs.spans.push_spans.Given as goal

-- the lines of the ranges so far
abbrev pub invariant-loop-span : goal.invariant-loop-span
invariant-loop-span l = string_bytes l.text ≡ string_bytes l.initial.text ++ spans_text (take l.span-index l.spans)
