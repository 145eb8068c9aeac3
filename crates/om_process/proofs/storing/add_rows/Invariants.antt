use Rattle.std.proofs.Common.{◌≡◌, ◌+◌, ◌++◌, length, map, take, vec_len}
use Rattle.std.specs.Prelude.{◌-◌, ◌≤◌, vec_capacity}
use Rattle.om_process.specs.Stores.{log_row}
use Rattle.om_process.specs.steps.Views.{logged_record}
use Rattle.om_process.proofs.storing.add_rows.Given as goal

abbrev pub invariant-loop-logged : goal.invariant-loop-logged
invariant-loop-logged l = record {
  rows : l.rows.items ≡ l.fn.rows.items ++ map log_row (map logged_record (take l.logged-index l.log));
  room : vec_len l.rows + (length l.log - l.logged-index) ≤ vec_capacity l.rows;
}
