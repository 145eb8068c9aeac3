use Rattle.std.specs.Prelude.{Some}
use Rattle.om_stable.specs.Calls.{IsCleanCall}
use Rattle.om_process.specs.declared.limits.TheConstants.{LAST_INTERVAL}
use Rattle.om_look.specs.steps.Found.{behind}
use Rattle.om_look.specs.steps.Reading.{IsReading}
use Rattle.om_look.proofs.RowsLemmas.{AreSoFar}
use Rattle.om_look.proofs.rows.stored_rows.Given as goal

-- the segments above what is left are found
abbrev pub invariant-loop-next : goal.invariant-loop-next
invariant-loop-next g l = record {
  found : IsCleanCall g.S.Stable.is_clean g.S.Stable.IsSound l.fn.store l.store → AreSoFar l.own l.n (g.S.Stable.content l.fn.store) (Some LAST_INTERVAL) l.next l.rows.items;
  reads : IsReading g.S.Stable.content g.S.Stable.failed g.S.Stable.is_clean g.S.Stable.IsSound l.fn.store ⊥ l.store;
}

abbrev pub decreases-loop-next : goal.decreases-loop-next
decreases-loop-next g l = behind l.next
