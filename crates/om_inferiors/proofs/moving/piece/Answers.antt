use Rattle.om_inferiors.proofs.moving.piece.Goals as goal

pub returns-in-End-clause-stands : goal.returns-in-End-clause-stands
returns-in-End-clause-stands c = c.in_ok-look_at.ensures.end c.in-End.is
