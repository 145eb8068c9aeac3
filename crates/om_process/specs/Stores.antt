-- What a process stores.
use Rattle.std.specs.Prelude.{◌≡◌, ℕ, ◌+◌, ◌-◌, List, [], ◌∷◌, ◌++◌, length, map, take, drop, true, false}
use Rattle.std.specs.List.{AllZip}
use Rattle.om_format.specs.Receipts.{SpellsReceipt}
use Rattle.om_format.specs.Checkpoints.{CheckpointRecord, SpellsCheckpoint}
use Rattle.om_format.specs.declared.version.Version.TheVariants.{V2}
use Rattle.om_stable.specs.Content.{Content, with_receipts, with_checkpoint}
use Rattle.om_process.specs.declared.row.PendingRow.{PendingRow}
use Rattle.om_process.specs.Process.{Process}
use Rattle.om_process.specs.Replays.{process_of_checkpoint}
use Rattle.om_process.specs.Core.{CoreState, LoggedRecord, cluster_size}

-- the interval of the first receipt of the log, which ends with that of the present interval
abbrev pub first_logged : CoreState → ℕ
first_logged c = c.now.interval + 1 - length c.log

-- the store has gained the spelling of each receipt of the log, and nothing else
abbrev pub HasGainedLog : CoreState → Content → Content → Type 0
HasGainedLog c old new =
    (bytes : List (List ℕ)) × AllZip (λ l b. SpellsReceipt l.receipt b) c.log bytes × (new ≡ with_receipts old (first_logged c) bytes)

-- the store has gained the spelling of each of the first k receipts of the log, and nothing else; of a shorter log, of all
abbrev pub HasGainedFirst : ℕ → CoreState → Content → Content → Type 0
HasGainedFirst k c old new =
    (bytes : List (List ℕ)) × AllZip (λ l b. SpellsReceipt l.receipt b) (take k c.log) bytes
    × (new ≡ with_receipts old (first_logged c) bytes)

-- the row of a receipt of the log
abbrev pub log_row : LoggedRecord → PendingRow
log_row l = record { ckpt = false; x = l.receipt.interval; vec = l.vec; got = l.got }

-- the core once its log is stored: the log is empty, and its rows are pending
abbrev pub flushed : CoreState → CoreState
flushed c = record c { log = []; pending = c.pending ++ map log_row c.log }

-- the core once the first k receipts of its log are stored: they are pending rows, and the log is those behind them
abbrev pub flushed_first : ℕ → CoreState → CoreState
flushed_first k c = record c { log = drop k c.log; pending = c.pending ++ map log_row (take k c.log) }

-- the record is a checkpoint of this process
pub record IsOf (own : ℕ) (p : Process) (r : CheckpointRecord) : Type 0 where
  pub n : r.n ≡ cluster_size p
  pub pid : r.head.pid ≡ own
  pub process : process_of_checkpoint r ≡ p

-- the store has gained the spelling of the process as the checkpoint of its interval, and nothing else
abbrev pub HasGainedCheckpoint : CoreState → Content → Content → Type 0
HasGainedCheckpoint c old new =
    (r : CheckpointRecord) × IsOf c.own c.now r
    × (bytes : List ℕ) × SpellsCheckpoint V2 r bytes × (new ≡ with_checkpoint old c.now.interval bytes)

-- the row of a checkpoint of now
abbrev pub checkpoint_row : CoreState → PendingRow
checkpoint_row c = record { ckpt = true; x = c.now.interval; vec = c.now.vec; got = c.now.got }

-- the core once a checkpoint of now is stored: its row is pending
abbrev pub checkpointed : CoreState → CoreState
checkpointed c = record c { pending = c.pending ++ checkpoint_row c ∷ [] }
