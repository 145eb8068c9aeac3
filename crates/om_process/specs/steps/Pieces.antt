-- Parts of what public clauses say, as the proofs take them one by one.
use Rattle.std.specs.Prelude.{ℕ, List, [], ◌∷◌, ◌++◌, map, replicate, Option, ◌≡◌}
use Rattle.std.specs.List.{AllZip}
use Rattle.std.specs.Option.{option_map}
use Rattle.om_machine.specs.State.{State}
use Rattle.om_format.specs.declared.message.Message.{Message}
use Rattle.om_format.specs.declared.queue.QueueEntry.{QueueEntry}
use Rattle.om_format.specs.Queues.{QueueRecord}
use Rattle.om_format.specs.Checkpoints.{CheckpointRecord, SpellsCheckpoint}
use Rattle.om_format.specs.Receipts.{ReceiptRecord, SpellsReceipt}
use Rattle.om_format.specs.declared.version.Version.TheVariants.{V2}
use Rattle.om_process.specs.Process.{Process, Received, empty_queue}
use Rattle.om_process.specs.Turns.{Leads, Turns}
use Rattle.om_process.specs.Parts.{IsTrimmedQueue}
use Rattle.om_process.specs.Replays.{received_of}
use Rattle.om_process.specs.Core.{CoreState, LoggedRecord, cluster_size, with_now}
use Rattle.om_process.specs.Frames.{message_of}
use Rattle.om_process.specs.Stores.{IsOf}

-- the process with another machine
abbrev pub with_machine : Process → State → Process
with_machine p m = record p { machine = m }

-- a queue with one more entry
abbrev pub with_entry : QueueEntry → QueueRecord → QueueRecord
with_entry e q = record q { entries = q.entries ++ e ∷ [] }

-- a process of n at its start, with its machine
abbrev pub started_with : State → ℕ → Process
started_with machine n = record {
  machine = machine;
  interval = 0;
  vec = replicate n 0;
  got = replicate n 0;
  queues = replicate n empty_queue ++ empty_queue ∷ [];
}

-- what is delivered of a message
abbrev pub as_received : Message → Received
as_received m = record { from = m.from; interval = m.tag.interval; body = m.body }

-- what stored receipts delivered
abbrev pub receipts_of : List ReceiptRecord → List Received
receipts_of rs = map received_of rs

-- the receipts and then so many turns lead from one state to another
abbrev pub From : ℕ → ℕ → Process → List Received → ℕ → Process → Type 0
From own n s h k t = (a : Process) × Leads own n h s a × Turns own n k a t

-- each of the second queues has the last entries of the first ones
abbrev pub KeepQueues : List QueueRecord → List QueueRecord → Type 0
KeepQueues whole part = AllZip IsTrimmedQueue whole part

-- the bytes spell the receipts of a log, one by one
abbrev pub SpellLog : List LoggedRecord → List (List ℕ) → Type 0
SpellLog log bytes = AllZip (λ l b. SpellsReceipt l.receipt b) log bytes

-- the bytes spell the process of the core as the checkpoint of its interval
abbrev pub IsSpelledNow : CoreState → List ℕ → Type 0
IsSpelledNow c bytes = (r : CheckpointRecord) × IsOf c.own c.now r × SpellsCheckpoint V2 r bytes

-- an entry, if there is one, as a message on its way
abbrev pub frame_of : CoreState → ℕ → ℕ → Option QueueEntry → Option Message
frame_of c to ssn e = option_map (message_of c to ssn) e

-- nothing but the process changed
abbrev pub ChangesProcessAlone : CoreState → CoreState → Type 0
ChangesProcessAlone old new = new ≡ with_now old new.now

-- the process is still one of as many
abbrev pub KeepsClusterSize : CoreState → CoreState → Type 0
KeepsClusterSize old new = cluster_size new.now ≡ cluster_size old.now
