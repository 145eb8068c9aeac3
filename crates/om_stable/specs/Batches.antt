-- What one transaction makes of a store.
use Rattle.std.specs.Prelude.{◌≡◌, ◌⊎◌, ℕ, length, Option, None, Some, IsSome, IfSome}
use Rattle.std.specs.FinMap.{get}
use Rattle.om_stable.specs.Content.{Content, IsFree, IsTaken, with_receipts, with_checkpoint, bytes_of, kept_by_prune}
use Rattle.om_stable.specs.Ledger.{LedgerContent, with_rows}
use Rattle.om_stable.specs.declared.batch.NewCheckpoint.{NewCheckpoint}
use Rattle.om_stable.specs.declared.batch.WriteBatch.{WriteBatch}
use Rattle.om_stable.specs.declared.ledger.LedgerTable.TheVariants.{Outputs, Senders}

-- the content with this checkpoint added, where there is one
abbrev pub with_new : Content → Option NewCheckpoint → Content
with_new held None = held
with_new held (Some c) = with_checkpoint held c.x c.bytes.now

-- what a prune keeps, where there is one
abbrev pub pruned_to : Content → Option ℕ → Content
pruned_to held None = held
pruned_to held (Some c) = kept_by_prune held c

-- the content once the batch is written: its receipts and its checkpoint are added, and what it prunes is gone
abbrev pub written : WriteBatch → Content → Content
written b held = pruned_to (with_new (with_receipts held b.first (bytes_of b.receipts.now)) b.checkpoint) b.prune_to

-- the ledger once the batch is written: its outputs and senders are added
abbrev pub entered : WriteBatch → LedgerContent → LedgerContent
entered b held =
    with_rows (with_rows held Outputs b.outputs.first (bytes_of b.outputs.recs.now)) Senders b.senders.first (bytes_of b.senders.recs.now)

-- what the batch puts has room among these records
pub record HasRoom (b : WriteBatch) (held : Content) : Type 0 where
  pub receipts : IsFree held.receipts b.first (length b.receipts.now)
  pub checkpoint : IfSome b.checkpoint (λ c. get held.checkpoints c.x ≡ None)

-- what the batch enters has room in these tables
pub record HasTableRoom (b : WriteBatch) (held : LedgerContent) : Type 0 where
  pub outputs : IsFree held.outputs b.outputs.first (length b.outputs.recs.now)
  pub senders : IsFree held.senders b.senders.first (length b.senders.recs.now)

-- the checkpoint of a batch has the interval of one that is held
abbrev pub IsHeld : Content → Option NewCheckpoint → Type 0
IsHeld held None = ⊥
IsHeld held (Some c) = IsSome (get held.checkpoints c.x)

-- something that the batch puts would stand where a record is
abbrev pub Collides : WriteBatch → Content → LedgerContent → Type 0
Collides b held tables =
    IsTaken held.receipts b.first (length b.receipts.now)
    ⊎ (IsHeld held b.checkpoint
    ⊎ (IsTaken tables.outputs b.outputs.first (length b.outputs.recs.now)
    ⊎ IsTaken tables.senders b.senders.first (length b.senders.recs.now)))
