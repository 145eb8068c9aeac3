-- What is written of the notes of a record script.
use Rattle.std.specs.Prelude.{◌≡◌, ◌≢◌, ℕ, ◌<◌, ◌↔◌, List, [], ◌∷◌, ◌++◌, replicate, Result, Ok, Err, if◌then◌else◌, codes, decimal}
use Rattle.std.specs.List.{flat_map}
use Rattle.om_recover.specs.Rows.{Rows, HasRow}
use Rattle.om_recover.specs.Recoverable.{IsGreatest}
use Rattle.om_recover.specs.Offered.{offered, TellsChange}
use Rattle.om_recover.specs.Records.{first_row}
use Rattle.om_recover.specs.declared.row.Row.{Row}
use Rattle.om_recover.specs.declared.note.Note.{Note}
use Rattle.om_recover.specs.declared.note.Note.TheVariants.{Noted, Known}
use Rattle.om_recover.specs.declared.note.NoteError.{NoteError}
use Rattle.om_recover.specs.declared.note.NoteError.TheVariants.{Stranger, BadVector, Differs, Disorder, Memory}
use Rattle.om_commands.specs.declared.record_script.NoteLine.{NoteLine}

-- the row that a note of the script offers, with these counts
abbrev pub offered_row : List ℕ → NoteLine → Row
offered_row got note = record { kind = note.kind; pid = note.pid; interval = note.interval; vec = note.vec; got = got }

-- the word of an answer; want of memory has none
abbrev pub answer_word : Result Note NoteError → List ℕ
answer_word (Ok (Noted raised)) = if raised then codes "raised" else codes "noted"
answer_word (Ok Known) = codes "known"
answer_word (Err Stranger) = codes "stranger"
answer_word (Err BadVector) = codes "bad-vector"
answer_word (Err Differs) = codes "differs"
answer_word (Err (Disorder y)) = codes "disorder " ++ decimal y
answer_word (Err Memory) = []

-- the intervals of a state, each after a space, and the end of the line
abbrev pub intervals_text : List ℕ → List ℕ
intervals_text state = flat_map (λ interval. 32 ∷ decimal interval) state ++ 10 ∷ []

-- the text of the notes, offered in order to these rows, whose greatest recoverable state this is: a line for each
-- answer with the state after it, and the state in the end
abbrev pub IsReportFrom : ℕ → Rows → List ℕ → List NoteLine → List ℕ → Type 0
IsReportFrom n rows state [] text = text ≡ codes "recovery" ++ intervals_text state
IsReportFrom n rows state (note ∷ notes) text =
    (answer : Result Note NoteError) × (after : Rows) × (next : List ℕ) × (rest : List ℕ)
    × offered n rows (offered_row (replicate n 0) note) answer after
    × IsGreatest n after next
    × TellsChange answer state next
    × (answer ≢ Err Memory)
    × IsReportFrom n after next notes rest
    × (text ≡ answer_word answer ++ 58 ∷ intervals_text next ++ rest)

-- the text of the notes, offered to records that hold checkpoint 0 of each of n processes and nothing else
abbrev pub IsReport : ℕ → List NoteLine → List ℕ → Type 0
IsReport n notes text =
    (rows : Rows) × ((row : Row) → HasRow rows row ↔ ((row.pid < n) × (row ≡ first_row n row.pid)))
    × IsReportFrom n rows (replicate n 0) notes text
