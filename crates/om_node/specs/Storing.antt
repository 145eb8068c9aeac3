-- What becomes of a process and its store by one transaction.
use Rattle.std.specs.Prelude.{◌≡◌, ℕ, Bool, Option, None, Some}
use Rattle.om_stable.specs.Batches.{pruned_to}
use Rattle.om_stable.specs.Content.{Content, bytes_of, with_checkpoint, with_receipts}
use Rattle.om_process.specs.Core.{CoreState}
use Rattle.om_process.specs.Flights.{Carries, landed}
use Rattle.om_process.specs.declared.flight.Flight.{Flight}
use Rattle.om_process.specs.declared.flight.Spelled.{Spelled}

-- the content with the checkpoint of a flight, where it has one
abbrev pub with_spelled : Content → Option Spelled → Content
with_spelled held None = held
with_spelled held (Some s) = with_checkpoint held s.row.x s.bytes.items

-- the content with all that a flight carries, and then without what is pruned
abbrev pub with_flight : Content → Flight → Option ℕ → Content
with_flight held f prune = pruned_to (with_spelled (with_receipts held f.first (bytes_of f.receipts.items)) f.checkpoint) prune

-- the first k receipts of the log are stored, and a checkpoint where one was due: their rows are pending
abbrev pub HasStored : ℕ → Bool → CoreState → CoreState → Type 0
HasStored k due old new = (flight : Flight) × Carries k due old flight × (new ≡ landed flight old)
