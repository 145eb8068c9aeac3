use Rattle.std.specs.Prelude.{◌≡◌, ◌≢◌, ℕ, ◌<◌, List, map, replicate, slice_index_or, sum, take, Bool, true, false, None}
use Rattle.om_interval.specs.declared.pid.TheConstants.{MAX_PROCESSES}
use Rattle.om_interval.specs.Starts.{is_named}
use Rattle.om_manager.specs.State.{ManagerState, process_count}
use Rattle.om_manager.specs.Sound.{IsManager}
use Rattle.om_board.specs.Fronts.{front_of, IsPosted, EndsWith}
use Rattle.om_board.specs.Waits.{put_by, taken_by, waits}
use Rattle.om_board.specs.declared.front.Front.{Front}
use Rattle.om_board.specs.declared.waiting.Waiting.{Waiting}
use Rattle.om_board.specs.declared.waiting.Waiting.TheVariants.{Owes}

-- a manager, the fronts of it that were posted, and by process who reported itself quiet, and what it told of its waiting
pub record BoardState : Type 0 where
  pub manager : ManagerState
  pub posted : List Front
  pub quiet : List Bool
  pub waiting : List Waiting

-- nobody is quiet
abbrev pub nobody : List Bool
nobody = replicate MAX_PROCESSES false

-- each process owes its messages anew
abbrev pub all_owe : List Waiting
all_owe = replicate MAX_PROCESSES Owes

-- what holds of every board of n processes: all that holds of its manager; the posted fronts rise, and the last is the
-- manager's; and while a gathering is open nobody is quiet, and each process owes its messages anew
pub record IsBoard (n : ℕ) (b : BoardState) : Type 0 where
  pub manager : IsManager b.manager
  pub places : process_count b.manager ≡ n
  pub posted : IsPosted b.posted
  pub last : EndsWith b.posted (front_of b.manager)
  pub gathers : b.manager.gathering ≢ None → b.quiet ≡ nobody
  pub owed : b.manager.gathering ≢ None → b.waiting ≡ all_owe

-- a process may report itself quiet: it is in the manager's round, and no gathering is open
pub record MayRest (b : BoardState) (round : ℕ) : Type 0 where
  pub in_round : round ≡ b.manager.round
  pub closed : b.manager.gathering ≡ None

-- each of the first n processes is quiet
abbrev pub AreAllQuiet : ℕ → List Bool → Type 0
AreAllQuiet n quiet = (p : ℕ) → p < n → is_named quiet p ≡ true

-- what a process told last of its waiting
abbrev pub told_by : BoardState → ℕ → Waiting
told_by b p = slice_index_or b.waiting p Owes

-- a process may report that it waits: it may rest, and has offered what it keeps
pub record MayWait (b : BoardState) (p round : ℕ) : Type 0 where
  pub rests : MayRest b round
  pub offered : told_by b p ≢ Owes

-- each of the n processes waits, not all have ended, and as many messages were taken as put
pub record DoAllWait (n : ℕ) (b : BoardState) : Type 0 where
  pub each : (p : ℕ) → p < n → waits (told_by b p) ≡ true
  pub some : AreAllQuiet n b.quiet → ⊥
  pub matched : sum (map put_by (take n b.waiting)) ≡ sum (map taken_by (take n b.waiting))
