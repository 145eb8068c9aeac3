use Rattle.std.specs.Prelude.{◌≡◌, ◌≢◌, ℕ, ◌+◌, ◌<◌, ◌≤◌, List, [], ◌∷◌, ◌++◌, length, slice_get, slice_index, slice_set, take, true, false, Some, Result, Ok, Err, OnOk, IfErr, All}
use Rattle.om_recover.specs.Rows.{Rows}
use Rattle.om_recover.specs.Offered.{AreOffered, offered, TellsChange}
use Rattle.om_recover.specs.declared.row.Row.{Row}
use Rattle.om_recover.specs.declared.note.Note.{Note}
use Rattle.om_recover.specs.declared.note.Note.TheVariants.{Noted, Known}
use Rattle.om_recover.specs.declared.note.NoteError.{NoteError}
use Rattle.om_manager.specs.Outputs.{HeldOutput}
use Rattle.om_manager.specs.State.{ManagerState, process_count, held_by}
use Rattle.om_manager.specs.declared.answers.RecordError.{RecordError}
use Rattle.om_manager.specs.declared.answers.RecordError.TheVariants.{Stale, Refused}
use Rattle.om_manager.specs.declared.answers.OutputNote.{OutputNote}
use Rattle.om_manager.specs.declared.answers.OutputNote.TheVariants as kept
use Rattle.om_manager.specs.declared.answers.OutputError.{OutputError}
use Rattle.om_manager.specs.declared.answers.OutputError.TheVariants as refused

-- the manager after a row was taken: a raised recovery state is a new version
abbrev pub after_note : ManagerState → Note → Rows → List ℕ → ManagerState
after_note m (Noted true) rows recovery = record m { rows = rows; recovery = recovery; version = m.version + 1 }
after_note m (Noted false) rows recovery = record m { rows = rows }
after_note m Known rows recovery = m

-- the answer to a row that is offered in a round, and the manager after it
abbrev pub Notes : ManagerState → ℕ → Row → Result Note RecordError → ManagerState → Type 0
Notes old round row (Ok note) new =
    (round ≡ old.round) × offered (process_count old) old.rows row (Ok note) new.rows × TellsChange (Ok note) old.recovery new.recovery
    × (new ≡ after_note old note new.rows new.recovery)
Notes old round row (Err (Stale told)) new = (row.pid < process_count old) × (round ≢ old.round) × (told ≡ old.round) × (new ≡ old)
Notes old round row (Err (Refused fault)) new =
    (row.pid < process_count old → round ≡ old.round) × offered (process_count old) old.rows row (Err fault) old.rows × (new ≡ old)

-- the manager's answer to what the records say of rows
abbrev pub refused_as : Result (Unit {0}) NoteError → Result (Unit {0}) RecordError
refused_as (Ok done) = Ok done
refused_as (Err fault) = Err (Refused fault)

-- rows are offered in a round, in order, up to the first that is refused, and so many were not: the manager has those then, and where they
-- raised the recovery state, that is one new version
pub record NotesUpTo (old : ManagerState) (round : ℕ) (rows : List Row) (count : ℕ) (end : Result (Unit {0}) RecordError) (new : ManagerState) : Type 0 where
  pub within : count ≤ length rows
  pub in_round : 0 < count → round ≡ old.round
  pub taken : AreOffered (process_count old) old.rows (take count rows) new.rows
  pub all : OnOk end (count ≡ length rows)
  pub refused : IfErr end (λ why. (row : Row) × (slice_get rows count ≡ Some row) × Notes new round row (Err why) new)
  pub level : old.recovery ≡ new.recovery → new.version ≡ old.version
  pub raised : old.recovery ≢ new.recovery → new.version ≡ old.version + 1
  pub others : new ≡ record old { rows = new.rows; recovery = new.recovery; version = new.version }

-- what is offered comes from a process of the cluster, in the manager's round
pub record IsCurrent (m : ManagerState) (pid round : ℕ) : Type 0 where
  pub known : pid < process_count m
  pub in_round : round ≡ m.round

-- none of the process's outputs was made later
abbrev pub IsLatest : ManagerState → ℕ → HeldOutput → Type 0
IsLatest m p output = All (λ held. held.interval ≤ output.interval) (held_by m p)

-- the output is the next one of its process, in the manager's round
pub record IsNext (m : ManagerState) (p round seq : ℕ) (output : HeldOutput) : Type 0 where
  pub current : IsCurrent m p round
  pub next : seq ≡ length (held_by m p)
  pub latest : IsLatest m p output

-- an output is not the one of its number, or, as the next one, was made before one that is there
pub data IsDifferent (m : ManagerState) (p seq : ℕ) (output : HeldOutput) : Type 0 where
  other : seq < length (held_by m p) → slice_get (held_by m p) seq ≢ Some output → IsDifferent m p seq output
  earlier : seq ≡ length (held_by m p) → (IsLatest m p output → ⊥) → IsDifferent m p seq output

-- the manager with one output more
abbrev pub with_output : ManagerState → ℕ → HeldOutput → ManagerState
with_output m p output = record m { outputs = slice_set m.outputs p (held_by m p ++ output ∷ []) }

-- the answer to an output of a process that is handed in, in a round and with a number, and the manager after it
abbrev pub NotesOutput : ManagerState → ℕ → ℕ → ℕ → HeldOutput → Result OutputNote OutputError → ManagerState → Type 0
NotesOutput old p round seq output (Ok kept.Known) new = IsCurrent old p round × (slice_get (held_by old p) seq ≡ Some output) × (new ≡ old)
NotesOutput old p round seq output (Ok kept.Released) new =
    IsNext old p round seq output × (output.interval ≤ slice_index old.recovery p) × (new ≡ with_output old p output)
NotesOutput old p round seq output (Ok kept.Held) new =
    IsNext old p round seq output × (slice_index old.recovery p < output.interval) × (new ≡ with_output old p output)
NotesOutput old p round seq output (Err refused.Stranger) new = (process_count old ≤ p) × (new ≡ old)
NotesOutput old p round seq output (Err (refused.Stale told)) new =
    (p < process_count old) × (round ≢ old.round) × (told ≡ old.round) × (new ≡ old)
NotesOutput old p round seq output (Err refused.Differs) new = IsCurrent old p round × IsDifferent old p seq output × (new ≡ old)
NotesOutput old p round seq output (Err (refused.Gap next)) new =
    IsCurrent old p round × (next ≡ length (held_by old p)) × (next < seq) × (new ≡ old)
NotesOutput old p round seq output (Err refused.Memory) new = IsNext old p round seq output × (new ≡ old)
