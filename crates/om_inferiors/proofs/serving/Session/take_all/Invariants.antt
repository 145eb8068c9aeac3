use Rattle.std.proofs.Common.{◌≡◌, take, false}
use Rattle.om_inferiors.specs.steps.Serving.{AreTaken, session_of}
use Rattle.om_inferiors.proofs.serving.Session.take_all.Given as goal

abbrev pub invariant-loop-byte : goal.invariant-loop-byte
invariant-loop-byte g l = record {
  taken : AreTaken (session_of l.fn.self) (take l.byte-index l.bytes) (g.W.Write.contents l.fn.writer) (g.W.Write.contents l.writer) false (session_of l.self);
  unread : g.R.Read.remaining l.reader ≡ g.R.Read.remaining l.fn.reader;
}
