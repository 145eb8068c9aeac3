-- What a run of a cluster ends with.
use Rattle.std.specs.Prelude.{◌≡◌, ℕ, ◌≤◌, List, [], All, Some, Vec, slice_get, length}
use Rattle.std.specs.declared.alloc.Global.{Global}
use Rattle.om_manager.specs.declared.output_log.Output.{Output}
use Rattle.om_board.specs.Boards.{BoardState, IsBoard}
use Rattle.om_board.specs.Fronts.{front_of}
use Rattle.om_board.specs.declared.front.Front.{Front}
use Rattle.om_process.specs.Core.{IsEnd}
use Rattle.om_process.specs.Ends.{IsWholeRun}
use Rattle.om_process.specs.Process.{Program}
use Rattle.om_process.specs.declared.status.Status.{Status}
use Rattle.om_report.specs.Released.{AreAllMade, AreAllReleased}
use Rattle.om_report.specs.Telling.{AreInOrder, AreToldWithin, Told, of_process}
use Rattle.om_report.specs.declared.report.Report.{Report}

-- By process: along its program it comes to its status, and of the outputs that it has then made none is left out.
abbrev pub LeaveNoneOut : List Program → List Status → List (Vec Output Global) → Type 0
LeaveNoneOut programs statuses released = (p : ℕ) (program : Program) (status : Status) (outputs : Vec Output Global)
    → slice_get programs p ≡ Some program → slice_get statuses p ≡ Some status → slice_get released p ≡ Some outputs
    → (count : ℕ) × IsWholeRun program p (length programs) status count × (count ≤ length outputs.items)

-- By process: along its program it comes to its status, and its outputs are as many as it has then made.
abbrev pub AreWhole : List Program → List Status → List (Vec Output Global) → Type 0
AreWhole programs statuses released = (p : ℕ) (program : Program) (status : Status) (outputs : Vec Output Global)
    → slice_get programs p ≡ Some program → slice_get statuses p ≡ Some status → slice_get released p ≡ Some outputs
    → IsWholeRun program p (length programs) status (length outputs.items)

-- The front is the last that was posted on a board of n processes.
abbrev pub IsLastOn : ℕ → Front → Type 0
IsLastOn n front = (board : BoardState) × IsBoard n board × (front ≡ front_of board.manager)

-- What a run of these programs ends with: each process came to an end; the outputs that are released of it are numbered from 0 without a
-- gap, each made within its place of the front; over clean stores each is the one of its number that its program makes, and none that the
-- process has made by its end is left out.
pub record IsReport (over_clean : Type 0) (programs : List Program) (report : Report) : Type 0 where
  pub processes : length report.released.items ≡ length programs
  pub statuses : length report.statuses.items ≡ length programs
  pub ended : All IsEnd report.statuses.items
  pub released : AreAllReleased report.front.vec report.released.items
  pub made : over_clean → AreAllMade programs (length programs) report.released.items
  pub all : over_clean → LeaveNoneOut programs report.statuses.items report.released.items

-- By process: along its program it comes to its status, and of the outputs that it has then made each was told.
abbrev pub LeaveNoneUntold : List Program → List Status → List Told → Type 0
LeaveNoneUntold programs statuses told = (p : ℕ) (program : Program) (status : Status)
    → slice_get programs p ≡ Some program → slice_get statuses p ≡ Some status
    → (count : ℕ) × IsWholeRun program p (length programs) status count × (count ≤ length (of_process p told))

-- What a run of these programs ends with that was followed: each process came to an end; what was told of it is numbered from 0 without a gap;
-- over clean stores each is the output of its number that its program makes, within its place of the front, and none that the process has made
-- by its end was left out; and of no other process anything was told.
pub record IsToldReport (over_clean : Type 0) (programs : List Program) (statuses : List Status) (front : Front) (told : List Told) : Type 0 where
  pub processes : length statuses ≡ length programs
  pub ended : All IsEnd statuses
  pub in_order : AreInOrder told
  pub made : over_clean → AreToldWithin programs (length programs) front.vec told
  pub all : over_clean → LeaveNoneUntold programs statuses told
  pub others : (p : ℕ) → length programs ≤ p → of_process p told ≡ []

-- A report that was made when every process had ended: over clean stores its outputs are as many as each has made, and its front is the last.
pub record IsWholeReport (over_clean : Type 0) (programs : List Program) (report : Report) : Type 0 where
  pub is_report : IsReport over_clean programs report
  pub whole : over_clean → AreWhole programs report.statuses.items report.released.items
  pub last : IsLastOn (length programs) report.front
