-- What the runs and the tree of the logs hold.
use Rattle.std.specs.Prelude.{◌≡◌, ℕ, ◌+◌, ◌<◌, ◌≤◌, ◌⊎◌, Bool, true, false, cond, List, [], ◌∷◌, ◌++◌, length, slice_get, Some, None, IsSome}
use Rattle.om_recover.specs.steps.Nearest.{at, AreSorted}
use Rattle.om_recover.specs.steps.Flat.{AreAlike}
use Rattle.om_recover.specs.declared.rows.trees.Vectors.{Vectors}
use Rattle.om_recover.specs.declared.rows.trees.Run.{Run}
use Rattle.om_recover.specs.declared.rows.trees.Logs.{Logs}

-- logs of a process that follow on one another, from an interval on
abbrev pub entries_from : ℕ → ℕ → List Vectors → List ((ℕ × ℕ) × Vectors)
entries_from p x [] = []
entries_from p x (vectors ∷ more) = ((p, x), vectors) ∷ entries_from p (x + 1) more

-- the logs of runs, which are those of the processes from one on
abbrev pub run_entries : ℕ → List Run → List ((ℕ × ℕ) × Vectors)
run_entries p [] = []
run_entries p (run ∷ runs) = entries_from p run.first run.logs ++ run_entries (p + 1) runs

-- all logs, by process and interval
abbrev pub log_entries : Logs → List ((ℕ × ℕ) × Vectors)
log_entries logs = run_entries 0 logs.runs.items ++ logs.others.entries

-- the run has these vectors at an interval
pub record IsInRun (run : Run) (x : ℕ) (vectors : Vectors) : Type 0 where
  pub place : ℕ
  pub stands_at : x ≡ run.first + place
  pub there : slice_get run.logs place ≡ Some vectors

-- the run has no log of an interval
abbrev pub IsOutside : Run → ℕ → Type 0
IsOutside run x = (x < run.first) ⊎ (run.first + length run.logs ≤ x)

-- the process's run has these vectors at an interval
pub record IsInRuns (runs : List Run) (p x : ℕ) (vectors : Vectors) : Type 0 where
  pub run : Run
  pub own : slice_get runs p ≡ Some run
  pub within : IsInRun run x vectors

-- the process's run, if it has one, has no log of an interval
abbrev pub IsOutsideRuns : List Run → ℕ → ℕ → Type 0
IsOutsideRuns runs p x = (run : Run) → slice_get runs p ≡ Some run → IsOutside run x

-- the tree is in order, and has no log of a run
pub record AreLogs (logs : Logs) : Type 0 where
  pub sorted : AreSorted logs.others.entries
  pub apart : (p x : ℕ) → IsSome (at logs.others.entries p x) → IsOutsideRuns logs.runs.items p x

-- of the logs of the process's run at or below the bound, the one at x is the nearest
pub record IsRunTo (runs : List Run) (p to x : ℕ) (vectors : Vectors) : Type 0 where
  pub there : IsInRuns runs p x vectors
  pub within : x ≤ to
  pub nearest : (y : ℕ) (other : Vectors) → IsInRuns runs p y other → y ≤ to → y ≤ x

-- of the logs of the process's run at or above the bound, the one at x is the nearest
pub record IsRunFrom (runs : List Run) (p from x : ℕ) (vectors : Vectors) : Type 0 where
  pub there : IsInRuns runs p x vectors
  pub within : from ≤ x
  pub nearest : (y : ℕ) (other : Vectors) → IsInRuns runs p y other → from ≤ y → x ≤ y

-- the process's run has no log at or below the bound
abbrev pub HasNoRunTo : List Run → ℕ → ℕ → Type 0
HasNoRunTo runs p to = (y : ℕ) (other : Vectors) → IsInRuns runs p y other → y ≤ to → ⊥

-- the process's run has no log at or above the bound
abbrev pub HasNoRunFrom : List Run → ℕ → ℕ → Type 0
HasNoRunFrom runs p from = (y : ℕ) (other : Vectors) → IsInRuns runs p y other → from ≤ y → ⊥

-- the logs have the vectors at x, and elsewhere what they had
pub record IsLaid (old new : Logs) (p x : ℕ) (vectors : Vectors) : Type 0 where
  pub sorted : AreLogs new
  pub here : at (log_entries new) p x ≡ Some vectors
  pub others : (q y : ℕ) → (q ≡ p → y ≡ x → ⊥) → at (log_entries new) q y ≡ at (log_entries old) q y

-- the logs are those that there were
pub record AreSame (old new : Logs) : Type 0 where
  pub sorted : AreLogs new
  pub same : (p x : ℕ) → at (log_entries new) p x ≡ at (log_entries old) p x

-- the logs are those that there were at the places that pass a test
pub record ArePart (test : ℕ × ℕ → Bool) (old new : Logs) : Type 0 where
  pub sorted : AreLogs new
  pub part : (p x : ℕ) → at (log_entries new) p x ≡ cond (test (p, x)) (at (log_entries old) p x) None

-- the interval is the one behind the run's last, or any where it has none
abbrev pub IsBehind : Run → ℕ → Type 0
IsBehind run x = (length run.logs ≡ 0) ⊎ (x ≡ run.first + length run.logs)

-- a log of these vectors may come next in the run, at the interval
pub record IsNextIn (run : Run) (x : ℕ) (vectors : Vectors) : Type 0 where
  pub behind : IsBehind run x
  pub alike : AreAlike run.logs vectors

-- a log of these vectors may come next in the process's run, at the interval
pub record IsNextInRuns (runs : List Run) (p x : ℕ) (vectors : Vectors) : Type 0 where
  pub run : Run
  pub own : slice_get runs p ≡ Some run
  pub next : IsNextIn run x vectors

-- the run has the vectors at x behind what it had
pub record IsLonger (old new : Run) (x : ℕ) (vectors : Vectors) : Type 0 where
  pub ends : x ≡ new.first + length old.logs
  pub first : (length old.logs ≡ 0) ⊎ (new.first ≡ old.first)
  pub logs : new.logs ≡ old.logs ++ vectors ∷ []

-- the run is as it was
pub record IsSameRun (old new : Run) : Type 0 where
  pub first : new.first ≡ old.first
  pub logs : new.logs ≡ old.logs

-- the runs have one log more, and keep the others
pub record ArePushed (old new : List Run) (p x : ℕ) (vectors : Vectors) : Type 0 where
  pub here : IsInRuns new p x vectors
  pub kept : (q y : ℕ) (other : Vectors) → IsInRuns old q y other → IsInRuns new q y other
  pub apart : (q y : ℕ) → IsOutsideRuns old q y → (q ≡ p → y ≡ x → ⊥) → IsOutsideRuns new q y

-- the runs have the logs that they had
pub record AreSameRuns (old new : List Run) : Type 0 where
  pub kept : (q y : ℕ) (other : Vectors) → IsInRuns old q y other → IsInRuns new q y other
  pub apart : (q y : ℕ) → IsOutsideRuns old q y → IsOutsideRuns new q y

-- the run has the logs that pass a test
pub record IsRunPart (test : ℕ → Bool) (old new : Run) : Type 0 where
  pub kept : (y : ℕ) (other : Vectors) → IsInRun old y other → test y ≡ true → IsInRun new y other
  pub apart : (y : ℕ) → IsOutside old y → IsOutside new y
  pub dropped : (y : ℕ) → test y ≡ false → IsOutside new y

-- the runs have the logs whose places pass a test
pub record AreRunsPart (test : ℕ × ℕ → Bool) (old new : List Run) : Type 0 where
  pub kept : (q y : ℕ) (other : Vectors) → IsInRuns old q y other → test (q, y) ≡ true → IsInRuns new q y other
  pub apart : (q y : ℕ) → IsOutsideRuns old q y → IsOutsideRuns new q y
  pub dropped : (q y : ℕ) → test (q, y) ≡ false → IsOutsideRuns new q y

-- the runs have no log
abbrev pub AreEmpty : List Run → Type 0
AreEmpty runs = (p x : ℕ) → IsOutsideRuns runs p x

-- the logs are none
pub record HaveNone (logs : Logs) : Type 0 where
  pub sorted : AreLogs logs
  pub none : (p x : ℕ) → at (log_entries logs) p x ≡ None
