use Rattle.om_svg.specs.steps.Sheets.{sent_count}
use Rattle.om_svg.proofs.text.push_sent_count.Goals as goal

pub returns : goal.returns
unfolding sent_count
returns c = c.write.ensures.bytes
