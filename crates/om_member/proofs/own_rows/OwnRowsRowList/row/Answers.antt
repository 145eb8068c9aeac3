use Rattle.std.proofs.Common.{arith}
use Rattle.std.proofs.lemmas.List.{length-map}
use Rattle.om_member.specs.Told.{row_for}
use Rattle.om_member.proofs.own_rows.OwnRowsRowList.row.Goals as goal

pub bounds-self-place : goal.bounds-self-place
bounds-self-place c = let many = length-map c.args.self.now.rows.now (row_for c.args.self.now.pid) in let within = c.requires in omega (arith, many, within)
