use Rattle.std.proofs.Common.{◌<◌, length, false}
use Rattle.om_inferiors.specs.steps.Serving.{AreRead, session_of}
use Rattle.om_inferiors.proofs.serving.Session.answer_all.Given as goal

abbrev pub invariant-loop : goal.invariant-loop
invariant-loop g l = record {
  room : 0 < length l.chunk;
  read : AreRead (session_of l.fn.self) (g.R.Read.remaining l.fn.reader) (g.R.Read.remaining l.reader) (g.W.Write.contents l.fn.writer) (g.W.Write.contents l.writer) false (session_of l.self);
}
