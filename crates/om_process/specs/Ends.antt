-- How a process comes to its end.
use Rattle.std.specs.Prelude.{◌≡◌, ℕ, List}
use Rattle.om_format.specs.Queues.{queue_end}
use Rattle.om_process.specs.Core.{status_of}
use Rattle.om_process.specs.Kept.{queue_at}
use Rattle.om_process.specs.Process.{Process, Program, Received, made}
use Rattle.om_process.specs.Turns.{Reaches, next_move}
use Rattle.om_process.specs.declared.status.Status.{Status}

-- how many outputs a process of n has made
abbrev pub outputs_made : ℕ → Process → ℕ
outputs_made n s = queue_end (queue_at s.queues n)

-- for some receipts and turns, process `own` of n comes along the program to this status, and has then made so many outputs
abbrev pub IsWholeRun : Program → ℕ → ℕ → Status → ℕ → Type 0
IsWholeRun program own n status count = (h : List Received) × (s : Process) × Reaches program own n h s
    × (status ≡ status_of (next_move own n s.machine (made s.queues))) × (count ≡ outputs_made n s)
