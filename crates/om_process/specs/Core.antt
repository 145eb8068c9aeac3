-- One logged process as its callers see it.
use Rattle.std.specs.Prelude.{◌≡◌, ℕ, ◌<◌, ◌+◌, ◌-◌, ◌≤◌, List, [], Option, None, length, map}
use Rattle.std.specs.List.{range_with_len}
use Rattle.om_format.specs.Receipts.{ReceiptRecord}
use Rattle.om_process.specs.declared.status.Status.{Status}
use Rattle.om_process.specs.declared.status.Status.TheVariants.{Ready, Waiting, Ended, Trapped}
use Rattle.om_process.specs.declared.row.PendingRow.{PendingRow}
use Rattle.om_process.specs.Process.{Process, Move, Waits, Ends, Traps, made}
use Rattle.om_process.specs.Turns.{Turns, next_move, next_turn, refused_sends}

-- a receipt in the volatile log, with the vector and the numbers got right after it
pub record LoggedRecord : Type 0 where
  pub receipt : ReceiptRecord
  pub vec : List ℕ
  pub got : List ℕ

-- the receipts are those of the last intervals up to this one, one each
pub record AreLast (interval : ℕ) (log : List LoggedRecord) : Type 0 where
  pub within : length log ≤ interval
  pub intervals : map (λ l. l.receipt.interval) log ≡ range_with_len (interval + 1 - length log) (length log)

-- a process that is up: its number, what it is now, its volatile log, the rows that the manager is still to be told of, and
-- the incarnation, the round and the starts that it knows
pub record CoreState : Type 0 where
  pub own : ℕ
  pub now : Process
  pub log : List LoggedRecord
  pub pending : List PendingRow
  pub inc : ℕ
  pub round : ℕ
  pub starts : List (List ℕ)

-- a core of which nothing is volatile
abbrev pub settled : ℕ → Process → ℕ → ℕ → List (List ℕ) → CoreState
settled own now inc round starts = record { own = own; now = now; log = []; pending = []; inc = inc; round = round; starts = starts }

-- the number of processes
abbrev pub cluster_size : Process → ℕ
cluster_size p = length p.vec

-- what a process is about to do, as it is told
abbrev pub status_of : Move → Status
status_of Waits = Waiting
status_of (Ends code) = Ended code
status_of (Traps cause) = Trapped cause
status_of _ = Ready

-- the process has come to an end
abbrev pub IsEnd : Status → Type 0
IsEnd (Ended code) = Unit {0}
IsEnd (Trapped cause) = Unit {0}
IsEnd _ = ⊥

-- what comes next in a core
abbrev pub move_of : CoreState → Move
move_of c = next_move c.own (cluster_size c.now) c.now.machine (made c.now.queues)

-- the process of a core after one turn, where there is one
abbrev pub core_turn : CoreState → Option Process
core_turn c = next_turn c.own (cluster_size c.now) c.now

-- so many turns lead from the process of the first core to that of the second
abbrev pub CoreTurns : ℕ → CoreState → CoreState → Type 0
CoreTurns k c d = Turns c.own (cluster_size c.now) k c.now d.now

-- how many sends so many turns of a core refuse
abbrev pub core_refuses : ℕ → CoreState → ℕ
core_refuses k c = refused_sends c.own (cluster_size c.now) k c.now

-- a core with another process
abbrev pub with_now : CoreState → Process → CoreState
with_now c p = record c { now = p }

-- the process took as many turns as there are, up to the fuel
pub record RunsTo (c : CoreState) (fuel steps : ℕ) (status : Status) (d : CoreState) : Type 0 where
  pub within : steps ≤ fuel
  pub turns : CoreTurns steps c d
  pub stops : steps < fuel → core_turn d ≡ None
  pub rest : d ≡ with_now c d.now
  pub told : status ≡ status_of (move_of d)

-- a core with other pending rows
abbrev pub with_pending : CoreState → List PendingRow → CoreState
with_pending c rows = record c { pending = rows }
