use Rattle.om_svg.specs.steps.Sheets.{refused_count}
use Rattle.om_svg.proofs.text.push_refused_count.Goals as goal

pub returns : goal.returns
unfolding refused_count
returns c = c.write.ensures.bytes
