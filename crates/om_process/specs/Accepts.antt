-- What a process answers to a message, and what it is after it took one.
use Rattle.std.specs.Prelude.{◌≡◌, ◌+◌, ◌<◌, ◌≤◌, [], ◌∷◌, ◌++◌, slice_index}
use Rattle.om_interval.specs.Starts.{IsOrphan, newest_of}
use Rattle.om_format.specs.declared.message.Message.{Message}
use Rattle.om_format.specs.Receipts.{ReceiptRecord}
use Rattle.om_process.specs.declared.limits.TheConstants.{LAST_INTERVAL}
use Rattle.om_process.specs.declared.accept.Accept.{Accept}
use Rattle.om_process.specs.declared.accept.Accept.TheVariants.{Taken, Stranger, Orphan, Repeat, Ahead, NotWaiting, Full, Memory}
use Rattle.om_process.specs.Process.{delivered}
use Rattle.om_process.specs.Turns.{IsWaiting}
use Rattle.om_process.specs.Core.{CoreState, cluster_size}

-- the receipt of a message
abbrev pub receipt_for : CoreState → Message → ReceiptRecord
receipt_for c m = record {
  to = c.own;
  from = m.from;
  interval = c.now.interval + 1;
  sender_interval = m.tag.interval;
  ssn = m.ssn;
  count = c.now.machine.count;
  body = m.body;
}

-- the core after it took a message
abbrev pub taken : CoreState → Message → CoreState
taken c m =
    let next = delivered c.own c.now (record { from = m.from; interval = m.tag.interval; body = m.body }) in
    record c { now = next; log = c.log ++ record { receipt = receipt_for c m; vec = next.vec; got = next.got } ∷ [] }

-- a message is for this process, from one that it knows in that incarnation
pub record IsNoStranger (c : CoreState) (m : Message) : Type 0 where
  pub to : m.to ≡ c.own
  pub from : m.from < cluster_size c.now
  pub inc : m.tag.inc ≤ newest_of c.starts m.from

-- a message is no stranger and no orphan
pub record IsNoOrphan (c : CoreState) (m : Message) : Type 0 where
  pub no_stranger : IsNoStranger c m
  pub kept : IsOrphan c.starts m.from m.tag.inc m.tag.interval → ⊥

-- a message is no stranger and no orphan, and the next one of its sender
pub record IsNext (c : CoreState) (m : Message) : Type 0 where
  pub no_orphan : IsNoOrphan c m
  pub number : m.ssn ≡ slice_index c.now.got m.from

-- a message is the next one of its sender, and the process waits
pub record IsDue (c : CoreState) (m : Message) : Type 0 where
  pub next : IsNext c m
  pub waits : IsWaiting c.own (cluster_size c.now) c.now

-- the answer, by the first thing that speaks against the message
abbrev pub Answers : CoreState → Message → Accept → Type 0
Answers c m Stranger = IsNoStranger c m → ⊥
Answers c m Orphan = IsNoStranger c m × IsOrphan c.starts m.from m.tag.inc m.tag.interval
Answers c m Repeat = IsNoOrphan c m × (m.ssn < slice_index c.now.got m.from)
Answers c m Ahead = IsNoOrphan c m × (slice_index c.now.got m.from < m.ssn)
Answers c m NotWaiting = IsNext c m × (IsWaiting c.own (cluster_size c.now) c.now → ⊥)
Answers c m Full = IsDue c m × (c.now.interval ≡ LAST_INTERVAL)
Answers c m (Taken x) = IsDue c m × (c.now.interval < LAST_INTERVAL) × (x ≡ c.now.interval + 1)
Answers c m Memory = IsDue c m × (c.now.interval < LAST_INTERVAL)
