use Rattle.std.proofs.Common.{◌≡◌, Ok, false, ap, ◌∙◌, arith}
use Rattle.om_inferiors.specs.declared.serving.Turn.TheVariants as turns
use Rattle.om_inferiors.specs.steps.Serving.{session_of}
use Rattle.om_inferiors.proofs.Taking.{read_more, served_end, served_last}
use Rattle.om_inferiors.proofs.serving.Session.answer_all.Goals as goal

pub returns-in-End : goal.returns-in-End
returns-in-End g c =
    let is : c.turn.result ≡ Ok turns.End = c.in_ok-turn.was ∙ ap Ok c.in-End.is in
    let then = c.turn.ensures.end is in
    record { served = served_end (session_of c.args.self.now) (session_of c.loop.self) (session_of c.turn.new.self) _ _ _ _ _ _ c.loop.invariant.read then.0 then.1 }

pub returns-in-Last : goal.returns-in-Last
returns-in-Last g c =
    let is : c.turn.result ≡ Ok turns.Last = c.in_ok-turn.was ∙ ap Ok c.in-Last.is in
    record { served = served_last (session_of c.args.self.now) (session_of c.loop.self) (session_of c.turn.new.self) _ _ _ _ _ _ c.loop.invariant.read (c.turn.ensures.last is) }

pub loop-preserved : goal.loop-preserved
loop-preserved g c =
    let is : c.turn.result ≡ Ok turns.More = cc in
    record {
      room = omega (arith, c.turn.auto.chunk, c.loop.invariant.room);
      read = read_more _ (session_of c.loop.self) (session_of c.turn.new.self) _ _ _ _ _ _ false c.loop.invariant.read (c.turn.ensures.more is);
    }
