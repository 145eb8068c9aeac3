use Rattle.std.proofs.Common.{drop}
use Rattle.om_look.specs.steps.Found.{AreOrdered}
use Rattle.om_look.proofs.SpanLemmas.{SoFar}
use Rattle.om_look.proofs.spans.spans_of.Given as goal

-- the ranges so far, and what is left
abbrev pub invariant-loop-f : goal.invariant-loop-f
invariant-loop-f l = AreOrdered 0 l.found → SoFar l.found l.spans.items (drop l.f-index l.found)
