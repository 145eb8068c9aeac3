-- Why no store is taken up, by why its records stand for no rows.
use Rattle.om_look.specs.declared.rows.RowsFault.{RowsFault}
use Rattle.om_look.specs.declared.rows.RowsFault.TheVariants as looking
use Rattle.om_restart.specs.declared.finding.FindFault.{FindFault}
use Rattle.om_restart.specs.declared.finding.FindFault.TheVariants.{Damaged, Mismatch, Fault, Memory}

abbrev pub of_rows : RowsFault → FindFault
of_rows (looking.Damaged x) = Damaged x
of_rows (looking.Mismatch x) = Mismatch x
of_rows looking.Fault = Fault
of_rows looking.Memory = Memory
