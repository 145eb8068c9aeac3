use Rattle.std.proofs.Common.{◌≡◌, length, take}
use Rattle.om_stable.specs.Content.{bytes_of, rows_of}
use Rattle.om_stable.specs.steps.Runs.{rows_from}
use Rattle.om_stable.proofs.record_run.numbered.Given as goal

-- the records so far have their intervals
abbrev pub invariant-loop-k : goal.invariant-loop-k
invariant-loop-k l = rows_of l.found.items ≡ rows_from l.first (bytes_of (take (length l.yielded) l.fn.records.items))
