-- Messages of a process on their way.
use Rattle.std.specs.Prelude.{◌≡◌, ℕ, ◌+◌, Option, slice_get}
use Rattle.std.specs.Option.{option_map}
use Rattle.om_format.specs.declared.message.Message.{Message}
use Rattle.om_format.specs.declared.queue.QueueEntry.{QueueEntry}
use Rattle.om_format.specs.Queues.{QueueRecord}
use Rattle.om_process.specs.Claims.{HasEntry}
use Rattle.om_process.specs.Kept.{queue_at}
use Rattle.om_process.specs.Core.{CoreState, cluster_size}

-- the messages to a process that are kept, and the outputs
abbrev pub messages_to : CoreState → ℕ → QueueRecord
messages_to c to = queue_at c.now.queues to

abbrev pub outputs_of : CoreState → QueueRecord
outputs_of c = queue_at c.now.queues (cluster_size c.now)

-- an entry as a message on its way, with the process's present incarnation and the interval in which it was sent
abbrev pub message_of : CoreState → ℕ → ℕ → QueueEntry → Message
message_of c to ssn e = record { from = c.own; to = to; tag = record { inc = c.inc; interval = e.interval }; ssn = ssn; body = e.body }

-- the message is one of the process's kept ones, with its present incarnation and the interval in which it was sent
pub record IsFrameOf (c : CoreState) (m : Message) : Type 0 where
  pub from : m.from ≡ c.own
  pub inc : m.tag.inc ≡ c.inc
  pub sent : HasEntry c.now.queues m.to m.ssn (record { interval = m.tag.interval; body = m.body })

-- the k-th of the messages to a process that are kept
abbrev pub frame_at : CoreState → ℕ → ℕ → Option Message
frame_at c to k = option_map (message_of c to ((messages_to c to).first + k)) (slice_get (messages_to c to).entries k)
