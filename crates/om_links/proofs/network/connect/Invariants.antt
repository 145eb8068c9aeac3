use Rattle.std.proofs.Common.{◌≡◌, length}
use Rattle.om_links.specs.steps.Rows.{IsRow, all_put, all_taken, lines_put, with_row}
use Rattle.om_links.proofs.network.connect.Given as goal

abbrev pub invariant-loop-to : goal.invariant-loop-to
invariant-loop-to l =
    (length l.inboxes.items ≡ l.to) × IsRow l.from l.inboxes.items × (lines_put l.puts.items ≡ l.inboxes.items)
    × (all_taken l.ends.items ≡ with_row (all_taken l.fn.ends.items) l.inboxes.items) × (all_put l.ends.items ≡ all_put l.fn.ends.items)
    × (length l.ends.items ≡ length l.fn.ends.items)
