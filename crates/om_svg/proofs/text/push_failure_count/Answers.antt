use Rattle.om_svg.specs.steps.Sheets.{failure_count}
use Rattle.om_svg.proofs.text.push_failure_count.Goals as goal

pub returns : goal.returns
unfolding failure_count
returns c = c.write.ensures.bytes
