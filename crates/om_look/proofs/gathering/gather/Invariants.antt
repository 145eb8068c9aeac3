use Rattle.std.proofs.Common.{reverse}
use Rattle.om_stable.specs.Calls.{IsCleanCall}
use Rattle.om_look.specs.steps.Found.{AreFound, behind}
use Rattle.om_look.specs.steps.Reading.{IsReading}
use Rattle.om_look.proofs.gathering.gather.Given as goal

-- the checkpoints above what is left are found
abbrev pub invariant-loop-next : goal.invariant-loop-next
invariant-loop-next g l = record {
  found : IsCleanCall g.S.Stable.is_clean g.S.Stable.IsSound l.fn.store l.store → AreFound (g.S.Stable.content l.fn.store) l.next (reverse l.found.items);
  reads : IsReading g.S.Stable.content g.S.Stable.failed g.S.Stable.is_clean g.S.Stable.IsSound l.fn.store ⊥ l.store;
}

abbrev pub decreases-loop-next : goal.decreases-loop-next
decreases-loop-next g l = behind l.next
