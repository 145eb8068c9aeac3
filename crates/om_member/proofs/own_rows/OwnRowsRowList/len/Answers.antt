use Rattle.std.proofs.Common.{sym}
use Rattle.std.proofs.lemmas.List.{length-map}
use Rattle.om_member.specs.Told.{row_for}
use Rattle.om_member.proofs.own_rows.OwnRowsRowList.len.Goals as goal

pub returns : goal.returns
returns c = sym (length-map c.args.self.now.rows.now (row_for c.args.self.now.pid))
