use Rattle.std.proofs.Common.{map, take}
use Rattle.om_stable.specs.Content.{bytes_of}
use Rattle.om_process.specs.steps.Pieces.{SpellLog}
use Rattle.om_process.specs.steps.Views.{logged_record}
use Rattle.om_process.proofs.storing.spelled.Given as goal

abbrev pub invariant-loop-logged : goal.invariant-loop-logged
invariant-loop-logged l = SpellLog (map logged_record (take l.logged-index l.log)) (bytes_of l.recs.items)
