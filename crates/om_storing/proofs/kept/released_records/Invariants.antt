use Rattle.std.proofs.Common.{◌≡◌, take}
use Rattle.om_stable.specs.Content.{bytes_of}
use Rattle.om_storing.specs.Keeping.{released_recs}
use Rattle.om_storing.proofs.kept.released_records.Given as goal

abbrev pub invariant-loop-output : goal.invariant-loop-output
invariant-loop-output l = bytes_of l.recs.items ≡ released_recs (take l.output-index l.outputs) l.released
