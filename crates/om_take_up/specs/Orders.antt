-- Starts in which each process reaches the manager by itself, in any order.
use Rattle.std.specs.Prelude.{◌≡◌, ℕ, ◌<◌, ◌≤◌, List, [], ◌∷◌, Ok, if◌then◌else◌, nat_eq}
use Rattle.om_manager.specs.Outputs.{HeldOutput}
use Rattle.om_manager.specs.Rounds.{Failing}
use Rattle.om_manager.specs.Sound.{IsManager}
use Rattle.om_manager.specs.State.{ManagerState, held_by}
use Rattle.om_manager.specs.declared.answers.Gathered.{Gathered}
use Rattle.om_process.specs.declared.queues.Made.{Made}
use Rattle.om_process.specs.declared.row.PendingRow.{PendingRow}
use Rattle.om_recover.specs.Recoverable.{IsGreatest}
use Rattle.om_stable.specs.Content.{Content}
use Rattle.om_take_up.specs.Anew.{EachFailed, IsFirst}
use Rattle.om_take_up.specs.StoreRows.{HasRowsOf}
use Rattle.om_take_up.specs.TakenUp.{HasTakenUp}

-- what a process tells the manager at a start: what its store held, or that it failed
pub data Act : Type 0 where
  takes_up : ℕ → List PendingRow → List Made → Act
  fails : ℕ → Act

abbrev pub actor : Act → ℕ
actor (takes_up p rows outputs) = p
actor (fails p) = p

-- the manager takes it, in round 0
abbrev pub Comes : ManagerState → Act → ManagerState → Type 0
Comes old (takes_up p rows outputs) new = HasTakenUp old 0 p rows outputs new
Comes old (fails p) new = (told : Gathered) × Failing old p 0 (Ok told) new × IsManager new

-- acts one after another
abbrev pub ComeInTurn : ManagerState → List Act → ManagerState → Type 0
ComeInTurn old [] new = new ≡ old
ComeInTurn old (act ∷ acts) new = (mid : ManagerState) × Comes old act mid × ComeInTurn mid acts new

-- the acts of one process, in order
abbrev pub acts_of : ℕ → List Act → List Act
acts_of p [] = []
acts_of p (act ∷ acts) = if nat_eq (actor act) p then act ∷ acts_of p acts else acts_of p acts

-- each of n processes tells what its store held, and then that it failed; nobody tells anything else. Among the processes any order will do
pub record AreOfEach (n : ℕ) (rows : ℕ → List PendingRow) (outputs : ℕ → List Made) (acts : List Act) : Type 0 where
  pub each : (p : ℕ) → p < n → acts_of p acts ≡ takes_up p (rows p) (outputs p) ∷ fails p ∷ []
  pub others : (p : ℕ) → n ≤ p → acts_of p acts ≡ []

-- a manager as a restart makes it over stores that hold this: it was told their rows and these outputs, and recovers the greatest state
-- of the rows; then each process failed, and the round is finished with that state
pub record StartsOver (n : ℕ) (held : ℕ → Content) (outputs : ℕ → List HeldOutput) (new : ManagerState) : Type 0 where
  pub told : ManagerState
  pub first : IsFirst n told
  pub rows : HasRowsOf n held told.rows
  pub greatest : IsGreatest n told.rows told.recovery
  pub holds : (p : ℕ) → p < n → held_by told p ≡ outputs p
  pub failed : EachFailed told new
  pub recovery : new.recovery ≡ told.recovery
