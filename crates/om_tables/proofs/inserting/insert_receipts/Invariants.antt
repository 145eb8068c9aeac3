use Rattle.std.proofs.Common.{◌≡◌, ◌+◌, ◌≤◌, ◌-◌, IsTrue, drop, length}
use Rattle.sqlite.specs.Held.{state}
use Rattle.sqlite.specs.State.{HasCleanDisk, KeepsCommit}
use Rattle.om_stable.specs.Content.{Content, with_all, bytes_of}
use Rattle.om_tables.specs.Store.{Holds}
use Rattle.om_tables.specs.steps.Statements.{GoesOn}
use Rattle.om_tables.proofs.inserting.insert_receipts.Given as goal

abbrev pub invariant-loop-at : goal.invariant-loop-at
invariant-loop-at g l =
    let old = state g.S.Store l.fn.tx.conn.now in
    let now = state g.S.Store l.tx.conn.now in
    record {
      within : l.at ≤ length l.recs;
      same_reference : l.tx.conn.ghost_name ≡ l.fn.tx.conn.ghost_name;
      clean : HasCleanDisk now → HasCleanDisk old;
      kept : HasCleanDisk now → KeepsCommit old now;
      goes_on : HasCleanDisk now → IsTrue old.in_transaction → IsTrue now.in_transaction;
      put : HasCleanDisk now → (c : Content) → Holds old.now c → IsTrue old.in_transaction → (d : Content) × GoesOn old now d × (d.checkpoints ≡ c.checkpoints)
          × (with_all d.receipts (l.first + l.at) (bytes_of (drop l.at l.recs)) ≡ with_all c.receipts l.first (bytes_of l.recs));
    }

abbrev pub decreases-loop-at : goal.decreases-loop-at
decreases-loop-at g l = length l.recs - l.at
