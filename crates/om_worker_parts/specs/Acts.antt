-- What is done with the board, from when its lock is had to when the lock goes.
use Rattle.std.specs.Prelude.{◌≡◌, ◌≢◌, ◌↔◌, ℕ, [], Any, is_some, length, slice_index, slice_set, Bool, IsTrue, true, None, Option, IfNone, IfSome, Ok}
use Rattle.om_interval.specs.Starts.{is_named, newest_of}
use Rattle.om_interval.specs.declared.verdict.Verdict.{Verdict}
use Rattle.om_process.specs.Core.{CoreState, with_pending}
use Rattle.om_recover.specs.Cutting.{IsEffective, IsPruned}
use Rattle.om_manager.specs.Bounds.{AreGotFrom}
use Rattle.om_manager.specs.Rounds.{Failing, Joining}
use Rattle.om_manager.specs.State.{ManagerState, held_by, process_count, released_by}
use Rattle.om_manager.specs.declared.answers.Gathered.{Gathered}
use Rattle.om_board.specs.Boards.{AreAllQuiet, BoardState, DoAllWait, MayRest, MayWait, all_owe, told_by}
use Rattle.om_board.specs.declared.waiting.Waiting.TheVariants.{Offers, Waits}
use Rattle.om_member.specs.Handed.{AreHanded, outputs_from}
use Rattle.om_member.specs.Keeps.{Keeps}
use Rattle.om_member.specs.Told.{AreToldAtOnce}
use Rattle.om_node.specs.declared.keeping.Limits.{Limits}
use Rattle.om_worker_parts.specs.declared.manager_link.RoundOutcome.{RoundOutcome}
use Rattle.om_worker_parts.specs.declared.manager_link.ManagerPhase.{ManagerPhase}
use Rattle.om_worker_parts.specs.declared.manager_link.ManagerPhase.TheVariants.{Gathers, Quiet}

-- a process handed over all that it had: its pending rows, in order and at once, and then the outputs that the manager had not
pub record HasHandedOver (before : ManagerState) (p : ℕ) (old : CoreState) (after : ManagerState) (new : CoreState) : Type 0 where
  pub told_all : ManagerState
  pub told : AreToldAtOnce before old.round p old.pending told_all
  pub handed : AreHanded told_all new.round p (outputs_from new (length (held_by told_all p))) after
  pub none_left : new ≡ with_pending old []
  pub keeps : Keeps before after

-- the manager dropped the rows that it need not keep
pub record HasPruned (old new : ManagerState) : Type 0 where
  pub rows : IsPruned old.rows old.recovery new.rows
  pub others : new ≡ record old { rows = new.rows }

-- what a process need not keep any longer, by this manager
pub record AreLimits (m : ManagerState) (p : ℕ) (limits : Limits) : Type 0 where
  pub got : AreGotFrom m.rows m.recovery p limits.bounds.got
  pub released : limits.bounds.released ≡ length (released_by m p)
  pub checkpoint : IsEffective m.rows p (slice_index m.recovery p) limits.checkpoint

-- how the manager stands: a process that has ended reports itself quiet, where it may
pub record IsStanding (old : BoardState) (p round : ℕ) (ended : Bool) (standing : ManagerPhase) (new : BoardState) : Type 0 where
  pub gathers : old.manager.gathering ≢ None → standing ≡ Gathers
  pub closed : old.manager.gathering ≡ None → standing ≢ Gathers
  pub reported : IsTrue ended → MayRest old round → new ≡ record old { quiet = slice_set old.quiet p true }
  pub passed_over : (IsTrue ended → MayRest old round → ⊥) → new ≡ old
  pub quiet : standing ≡ Quiet → IsTrue ended × AreAllQuiet (process_count new.manager) new.quiet
  pub all_quiet : IsTrue ended → old.manager.gathering ≡ None → AreAllQuiet (process_count new.manager) new.quiet → standing ≡ Quiet

-- a process handed over all that it had, and was told how the manager stands; and where a checkpoint was among its rows, the
-- manager was pruned and said what need not be kept any longer
pub record HasMet (before : BoardState) (p round : ℕ) (ended : Bool) (old : CoreState) (standing : ManagerPhase) (limits : Option Limits)
    (after : BoardState) (new : CoreState) : Type 0 where
  pub handed_over : ManagerState
  pub over : HasHandedOver before.manager p old handed_over new
  pub asked : BoardState
  pub with_checkpoint : IsTrue (is_some limits) ↔ Any (λ row. IsTrue row.ckpt) old.pending
  pub pruned : IfSome limits (λ l. HasPruned handed_over asked.manager)
  pub limits_are : IfSome limits (λ l. AreLimits asked.manager p l)
  pub unpruned : IfNone limits (asked.manager ≡ handed_over)
  pub stands : IsStanding asked p round ended standing after

-- a process joined the gathering, in its interval, once it had handed over all
pub record HasJoined (before : ManagerState) (p : ℕ) (old : CoreState) (after : ManagerState) (new : CoreState) : Type 0 where
  pub handed_over : ManagerState
  pub over : HasHandedOver before p old handed_over new
  pub gathered : Gathered
  pub joining : Joining handed_over p new.round new.now.interval (Ok gathered) after

-- the failure of a process that was in a round is declared
pub record HasDeclared (before : ManagerState) (p round : ℕ) (after : ManagerState) : Type 0 where
  pub gathered : Gathered
  pub failing : Failing before p round (Ok gathered) after

-- what the manager says of a process after its last finished round
pub record IsVerdictOf (m : ManagerState) (p : ℕ) (verdict : Verdict) : Type 0 where
  pub round : verdict.round ≡ m.round
  pub inc : verdict.inc ≡ newest_of m.starts p
  pub r : verdict.r ≡ slice_index m.last p
  pub back : verdict.back ≡ is_named m.backs p

-- the process was told of the last finished round, with the starts of all, and nothing changed
pub record HasHeard (before : ManagerState) (p : ℕ) (told : RoundOutcome) : Type 0 where
  pub starts : told.starts ≡ before.starts
  pub verdict : IsVerdictOf before p told.verdict

-- a process told that it puts anew all that it keeps, where it might
pub record HasOffered (before : BoardState) (p round : ℕ) (after : BoardState) : Type 0 where
  pub told : MayRest before round → after ≡ record before { waiting = slice_set before.waiting p Offers }
  pub passed_over : (MayRest before round → ⊥) → after ≡ before

-- a process told that it waits, where it might, and was told whether all do
pub record HasWaited (before : BoardState) (p round put taken : ℕ) (told_all : Bool) (after : BoardState) : Type 0 where
  pub told : MayWait before p round → after ≡ record before { waiting = slice_set before.waiting p (Waits put taken) }
  pub passed_over : (MayWait before p round → ⊥) → after ≡ before
  pub all : IsTrue told_all ↔ DoAllWait (process_count after.manager) after

-- a process took back that it waits
pub record HasWithdrawn (before : BoardState) (p : ℕ) (after : BoardState) : Type 0 where
  pub told : (put taken : ℕ) → told_by before p ≡ Waits put taken → after ≡ record before { waiting = slice_set before.waiting p Offers }
  pub passed_over : ((put taken : ℕ) → told_by before p ≢ Waits put taken) → after ≡ before

-- each process owes what it keeps anew
abbrev pub HasRefused : BoardState → BoardState → Type 0
HasRefused before after = after ≡ record before { waiting = all_owe }

-- this manager has released more outputs of a process than so many, or fewer
abbrev pub HasReleasedAnother : ManagerState → ℕ → ℕ → Type 0
HasReleasedAnother m p made = length (released_by m p) ≢ made
