use Rattle.om_svg.proofs.Pieces.{straight_is, turning_is}
use Rattle.om_svg.proofs.shape_text.push_arrow.Goals as goal

pub returns-then-from-to : goal.returns-then-from-to
returns-then-from-to c = rw (turning_is c.args.from c.args.to c.if-from-to.true) c.push_turning.ensures

pub returns : goal.returns
returns c = rw (straight_is c.args.from c.args.to c.if-from-to.false) c.push_straight.ensures
