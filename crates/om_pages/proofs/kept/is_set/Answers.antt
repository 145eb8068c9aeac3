use Rattle.std.proofs.Common.{rules}
use Rattle.om_pages.proofs.Words.{set_by_number}
use Rattle.om_pages.proofs.kept.is_set.Goals as goal

pub returns : goal.returns
returns c = set_by_number c.args.word.now 15 c.from_le_bytes.result (search rules) c.from_le_bytes.ensures
