use Rattle.om_svg.specs.steps.Sheets.{taken_count}
use Rattle.om_svg.proofs.text.push_taken_count.Goals as goal

pub returns : goal.returns
unfolding taken_count
returns c = c.write.ensures.bytes
