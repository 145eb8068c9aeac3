-- Values that are a queue's entries with their numbers.
use Rattle.std.specs.Prelude.{◌≡◌, ℕ, ◌≤◌, List}
use Rattle.om_format.specs.declared.queue.QueueEntry.{QueueEntry}
use Rattle.om_format.specs.Queues.{QueueRecord, queue_end}
use Rattle.om_process.specs.declared.queues.Made.{Made}
use Rattle.om_process.specs.declared.queues.Sent.{Sent}
use Rattle.om_process.specs.Kept.{numbered}

-- a message and an output without its number
abbrev pub sent_entry : Sent → QueueEntry
sent_entry s = record { interval = s.interval; body = s.body }

abbrev pub made_entry : Made → QueueEntry
made_entry m = record { interval = m.interval; body = m.bytes }

-- the values are the queue's entries with their numbers, which pass no limit
pub record AreNumbered {A : Type 0} (form : ℕ → QueueEntry → A) (last : ℕ) (q : QueueRecord) (values : List A) : Type 0 where
  pub numbers : values ≡ numbered form q.first q.entries
  pub within : queue_end q ≤ last
