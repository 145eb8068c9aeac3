use Rattle.std.proofs.Common.{◌≡◌, ◌++◌, ◌∷◌, List, length, drop}
use Rattle.om_process.specs.declared.row.PendingRow.{PendingRow}
use Rattle.om_stable.specs.Content.{rows_of}
use Rattle.om_look.specs.Rows.{FollowOn}
use Rattle.om_look.specs.steps.Rowing.{LeadTo}
use Rattle.om_look.proofs.rows.push_rows.Given as goal

-- rows that follow on the last one are to be added to those so far
abbrev pub invariant-loop-y : goal.invariant-loop-y
invariant-loop-y l = record {
  vec : length l.before.vec ≡ l.n;
  got : length l.before.got ≡ l.n;
  lead : LeadTo l.own l.n (rows_of l.found) l.fn.base l.before;
  follow : (so_far : List PendingRow) × (l.rows.items ≡ l.fn.rows.items ++ l.fn.base ∷ so_far)
      × ((rest : List PendingRow) → FollowOn l.own l.n l.before (rows_of (drop l.y-index l.found)) rest → FollowOn l.own l.n l.fn.base (rows_of l.found) (so_far ++ rest));
}
