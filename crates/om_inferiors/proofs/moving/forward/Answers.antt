use Rattle.om_inferiors.proofs.Each.{are_on_then, paused_at}
use Rattle.om_inferiors.proofs.moving.forward.Goals as goal

pub returns-then-is_there-clause-stands : goal.returns-then-is_there-clause-stands
returns-then-is_there-clause-stands g c =
    paused_at c.args.all.now c.piece.new.all c.args.who c.requires (are_on_then c.args.all.now c.pieces.all c.piece.new.all c.pieces.invariant.on c.in_ok-stopped.ensures.on)

pub returns-clause-stands : goal.returns-clause-stands
returns-clause-stands g c = paused_at c.args.all.now c.pieces.all c.args.who c.requires c.pieces.invariant.on
