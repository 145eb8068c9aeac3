use Rattle.std.proofs.Common.{◌≡◌, [], length, replicate}
use Rattle.om_links.specs.steps.Rows.{AreRows, HavePuts, all_taken, with_rows}
use Rattle.om_links.proofs.network.connected.Given as goal

abbrev pub invariant-loop-from : goal.invariant-loop-from
invariant-loop-from l =
    (length l.inboxes.items ≡ l.from) × (length l.ends.items ≡ l.n) × AreRows l.n l.inboxes.items × HavePuts l.inboxes.items l.ends.items
    × (all_taken l.ends.items ≡ with_rows (replicate l.n []) l.inboxes.items)
