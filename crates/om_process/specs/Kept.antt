-- What a process keeps of what it made, with its numbers.
use Rattle.std.specs.Prelude.{ℕ, ◌+◌, List, [], ◌∷◌, slice_index_or}
use Rattle.om_format.specs.declared.queue.QueueEntry.{QueueEntry}
use Rattle.om_format.specs.Queues.{QueueRecord}
use Rattle.om_process.specs.declared.queues.Made.{Made}
use Rattle.om_process.specs.declared.queues.Sent.{Sent}
use Rattle.om_process.specs.Process.{empty_queue}

-- the queue at a place: of the messages to that process, or at place n of the outputs
abbrev pub queue_at : List QueueRecord → ℕ → QueueRecord
queue_at queues place = slice_index_or queues place empty_queue

-- entries with their numbers, from this one on, each as a value of this form
abbrev pub numbered : {A : Type 0} → (ℕ → QueueEntry → A) → ℕ → List QueueEntry → List A
numbered form first [] = []
numbered form first (e ∷ es) = form first e ∷ numbered form (first + 1) es

-- an entry as a message of this number, and as an output
abbrev pub sent_as : ℕ → QueueEntry → Sent
sent_as ssn e = record { ssn = ssn; interval = e.interval; body = e.body }

abbrev pub made_as : ℕ → QueueEntry → Made
made_as seq e = record { seq = seq; interval = e.interval; bytes = e.body }
