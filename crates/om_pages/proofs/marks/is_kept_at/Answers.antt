use Rattle.std.proofs.Common.{sym}
use Rattle.om_pages.proofs.Marking.{unmarked_page}
use Rattle.om_pages.proofs.marks.is_kept_at.Goals as goal

pub returns-else-marks-index : goal.returns-else-marks-index
returns-else-marks-index c = sym (unmarked_page c.args.marks.now c.args.memory.now c.args.index c.requires.zeros c.if-marks-index.false)
