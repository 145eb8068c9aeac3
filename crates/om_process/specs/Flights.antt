-- What a process hands over to be stored while it goes on.
use Rattle.std.specs.Prelude.{◌≡◌, ◌≢◌, ℕ, ◌≤◌, List, [], ◌∷◌, ◌++◌, length, map, take, Option, None, Some, Bool, true, false}
use Rattle.std.specs.List.{AllZip}
use Rattle.om_format.specs.Receipts.{SpellsReceipt}
use Rattle.om_format.specs.Checkpoints.{CheckpointRecord, SpellsCheckpoint}
use Rattle.om_format.specs.declared.version.Version.TheVariants.{V2}
use Rattle.om_stable.specs.Content.{bytes_of}
use Rattle.om_process.specs.declared.flight.Flight.{Flight}
use Rattle.om_process.specs.declared.flight.Spelled.{Spelled}
use Rattle.om_process.specs.declared.row.PendingRow.{PendingRow}
use Rattle.om_process.specs.Core.{CoreState, with_pending}
use Rattle.om_process.specs.Stores.{IsOf, checkpoint_row, first_logged, flushed_first}

-- the bytes spell the process of the core as the checkpoint of its interval, and the row is that checkpoint's
pub record IsCheckpointOf (c : CoreState) (s : Spelled) : Type 0 where
  pub row : s.row ≡ checkpoint_row c
  pub record_of : CheckpointRecord
  pub process : IsOf c.own c.now record_of
  pub spelled : SpellsCheckpoint V2 record_of s.bytes.items

-- the checkpoint of a flight: of the core, where one is due, or else none
abbrev pub CarriesCheckpoint : Bool → CoreState → Option Spelled → Type 0
CarriesCheckpoint true c (Some s) = IsCheckpointOf c s
CarriesCheckpoint false c None = Unit {0}
CarriesCheckpoint true c None = ⊥
CarriesCheckpoint false c (Some s) = ⊥

-- the flight carries the first k receipts of the core's log, of a shorter one all, from the interval of the first of them;
-- and a checkpoint of now where one is due
pub record Carries (k : ℕ) (due : Bool) (c : CoreState) (f : Flight) : Type 0 where
  pub spelled : AllZip (λ l b. SpellsReceipt l.receipt b) (take k c.log) (bytes_of f.receipts.items)
  pub first : bytes_of f.receipts.items ≢ [] → f.first ≡ first_logged c
  pub checkpoint : CarriesCheckpoint due c f.checkpoint

-- the rows of the checkpoint of a flight
abbrev pub checkpoint_rows : Option Spelled → List PendingRow
checkpoint_rows None = []
checkpoint_rows (Some s) = s.row ∷ []

-- the core once a flight has landed: the row of its checkpoint is pending, and behind it those of as many receipts as it carried,
-- which the log has no longer
abbrev pub landed : Flight → CoreState → CoreState
landed f c = flushed_first (length f.receipts.items) (with_pending c (c.pending ++ checkpoint_rows f.checkpoint))

-- what stood first in the log of the earlier core stands first in that of the later one: of these, so many receipts
pub record StillFirst (k : ℕ) (earlier later : CoreState) : Type 0 where
  pub log : take k later.log ≡ take k earlier.log
  pub first : first_logged later ≡ first_logged earlier
