use Rattle.std.proofs.Common.{take}
use Rattle.std.specs.List.{AllZip}
use Rattle.om_restart.specs.Outputs.{IsRowOfOutput}
use Rattle.om_stable.specs.Content.{rows_of}
use Rattle.om_restart.proofs.finding.outputs_of.Given as goal

abbrev pub invariant-loop-seq : goal.invariant-loop-seq
invariant-loop-seq l = AllZip IsRowOfOutput (rows_of (take l.seq-index l.rows)) l.outputs.items
