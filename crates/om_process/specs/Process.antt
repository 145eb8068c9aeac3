-- A process as its callers see it, and what one move makes of it.
use Rattle.std.specs.Prelude.{ℕ, zero, suc, ◌+◌, List, [], ◌∷◌, ◌++◌, map, replicate, max, slice_index, slice_set, Option, Some, None}
use Rattle.om_isa.specs.declared.ext.Ext.{Ext}
use Rattle.om_machine.specs.State.{State, loaded}
use Rattle.om_machine.specs.Finishing.{finished_receive}
use Rattle.om_machine.specs.declared.event.Cause.{Cause}
use Rattle.om_format.specs.declared.queue.QueueEntry.{QueueEntry}
use Rattle.om_format.specs.Queues.{QueueRecord, queue_end}

-- a process: its machine, its interval, the intervals that it depends on, how many messages it got by sender, and what it
-- made: at place q the messages to process q, and behind them the outputs
pub record Process : Type 0 where
  pub machine : State
  pub interval : ℕ
  pub vec : List ℕ
  pub got : List ℕ
  pub queues : List QueueRecord

-- what is delivered to a process: from this one, sent in this interval of it
pub record Received : Type 0 where
  pub from : ℕ
  pub interval : ℕ
  pub body : List ℕ

-- a program: an image, the size of the memory, and the instructions that it may use
pub record Program : Type 0 where
  pub image : List ℕ
  pub size : ℕ
  pub ext : Ext

-- what comes next in a process
pub data Move : Type 0 where
  Waits : Move
  Ends : (code : ℕ) → Move
  Traps : (cause : Cause) → Move
  Goes : (next : State) → Move
  Emits : (place : ℕ) (body : List ℕ) (next : State) → Move

-- how many messages were sent to each process, and behind them how many outputs were made
abbrev pub made : List QueueRecord → List ℕ
made queues = map queue_end queues

-- queues of which the one at this place has one more entry
abbrev pub emitted : ℕ → QueueEntry → List QueueRecord → List QueueRecord
emitted place e [] = []
emitted zero e (q ∷ qs) = record q { entries = q.entries ++ e ∷ [] } ∷ qs
emitted (suc place) e (q ∷ qs) = q ∷ emitted place e qs

-- the process after a move, where there is one
abbrev pub moved : Process → Move → Option Process
moved p (Goes next) = Some (record p { machine = next })
moved p (Emits place body next) =
    Some (record p { machine = next; queues = emitted place (record { interval = p.interval; body = body }) p.queues })
moved p _ = None

-- a vector with a place raised to an interval, where it is lower
abbrev pub raised : List ℕ → ℕ → ℕ → List ℕ
raised vec place interval = slice_set vec place (max (slice_index vec place) interval)

-- the process after a delivery, which begins an interval
abbrev pub delivered : ℕ → Process → Received → Process
delivered own p r = record {
  machine = finished_receive r.from r.body p.machine;
  interval = p.interval + 1;
  vec = slice_set (raised p.vec r.from r.interval) own (p.interval + 1);
  got = slice_set p.got r.from (slice_index p.got r.from + 1);
  queues = p.queues;
}

-- a queue of nothing
abbrev pub empty_queue : QueueRecord
empty_queue = record { first = 0; entries = [] }

-- a process of n at its start
abbrev pub started : Program → ℕ → Process
started program n = record {
  machine = loaded program.image program.size program.ext;
  interval = 0;
  vec = replicate n 0;
  got = replicate n 0;
  queues = replicate n empty_queue ++ empty_queue ∷ [];
}
