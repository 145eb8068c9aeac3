-- Orders of receipts: which runs without failures there are.
use Rattle.std.specs.Prelude.{◌≡◌, ℕ, List}
use Rattle.std.specs.List.{IsAmong}
use Rattle.om_process.specs.Process.{Program}
use Rattle.om_world.specs.Live.{Legal, MayFollow, received}
use Rattle.om_world.specs.declared.entry.Entry.{Entry}

-- a run without failures in which nothing can be received any more
abbrev pub IsOver : List Program → List Entry → Type 0
IsOver programs live = Legal programs live × ((e : Entry) → MayFollow programs live e → ⊥)

-- the runs differ at most in the order of receipts of different processes: each process receives the same
abbrev pub IsSameRun : List Entry → List Entry → Type 0
IsSameRun live other = (p : ℕ) → received p live ≡ received p other

-- of every run in which nothing can be received any more, one that is the same is among these
abbrev pub HasAll : List Program → List (List Entry) → Type 0
HasAll programs runs = (run : List Entry) → IsOver programs run → (live : List Entry) × IsAmong runs live × IsSameRun run live
