use Rattle.om_svg.specs.steps.Sheets.{moved_text}
use Rattle.om_svg.proofs.text.push_moved.Goals as goal

pub returns : goal.returns
unfolding moved_text
returns c = c.write.ensures.bytes
