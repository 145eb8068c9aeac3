-- What a turn makes: where, and its line.
use Rattle.std.specs.Prelude.{ℕ, List, [], ◌++◌, length, codes, decimal, Option, Some, None, if◌then◌else◌, nat_lt}
use Rattle.om_machine.specs.declared.event.Event.{Event}
use Rattle.om_machine.specs.declared.event.Event.TheVariants.{Call}
use Rattle.om_machine.specs.declared.event.EnvCall.TheVariants.{Send, Output}
use Rattle.om_format.specs.Queues.{QueueRecord}
use Rattle.om_process.specs.Kept.{queue_at}
use Rattle.om_look.specs.Trace.{gained_text}

-- the queue that a call may add to: that of the messages to a process, or behind these that of the outputs
abbrev pub place_of : ℕ → Event → Option ℕ
place_of n (Call (Send to addr len)) = if nat_lt to n then Some to else None
place_of n (Call (Output addr len)) = Some n
place_of n event = None

-- what its line begins with
abbrev pub words_of : Event → List ℕ
words_of (Call (Send to addr len)) = codes "send " ++ decimal to
words_of event = codes "out"

abbrev pub kept_in : List QueueRecord → Option ℕ → ℕ
kept_in queues None = 0
kept_in queues (Some place) = length (queue_at queues place).entries

-- the line of the message or the output that was made, if one was
abbrev pub made_text : Event → Option ℕ → ℕ → List QueueRecord → List ℕ
made_text event None kept after = []
made_text event (Some place) kept after = gained_text (words_of event) kept (queue_at after place)
