use Rattle.om_member.proofs.RowLemmas.{of_own}
use Rattle.om_member.proofs.manager_access.ManagerManagerAccess.note_rows.Goals as goal

pub note_rows-requires : goal.note_rows-requires
note_rows-requires c = record { of_one = of_own c.args.rows.now.pid c.args.rows.now.rows.now }
