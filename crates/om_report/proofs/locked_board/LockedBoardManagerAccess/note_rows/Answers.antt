use Rattle.om_report.proofs.LockLemmas.{rows_of_own}
use Rattle.om_report.proofs.locked_board.LockedBoardManagerAccess.note_rows.Goals as goal

pub note_rows-requires : goal.note_rows-requires
note_rows-requires g c = record { of_one = rows_of_own c.args.rows.now.pid c.args.rows.now.rows.now }
