-- What the command `draw` answers to the bytes of its input.
use Rattle.std.specs.Prelude.{◌≡◌, ◌≤◌, ℕ, ◌-◌, List, [], ◌∷◌, drop, length, map, nat_le, slice_index, take}
use Rattle.std.specs.List.{count_by}
use Rattle.om_manager.specs.State.{process_count}
use Rattle.om_scripts.specs.Programs.{programs_of}
use Rattle.std.specs.Str.Lines.{lines}
use Rattle.om_text.specs.Script.{numbered}
use Rattle.om_text.specs.Words.{words_of}
use Rattle.om_world.specs.Played.{Played}
use Rattle.om_world.specs.World.{WorldState, IsKnown}
use Rattle.om_world.specs.declared.event.Event.{Event}
use Rattle.om_picture.specs.Fates.{EventRow}
use Rattle.om_picture.specs.Marks.{IsDrawingOf}
use Rattle.om_svg.specs.PictureText.{picture_text}
use Rattle.om_picture.specs.Places.{ArePlaced}
use Rattle.om_svg.specs.Plain.{HasPlainNames}
use Rattle.om_draw_command.specs.Reading.{newly_handed}
use Rattle.om_picture.specs.declared.column.TheConstants.{MOST_COLUMNS}
use Rattle.om_sheet.specs.declared.sheet.Drawn.{Drawn}
use Rattle.om_commands.specs.Command.{IsScript}
use Rattle.om_commands.specs.Sim.{IsBegun}
use Rattle.om_commands.specs.SimScript.{EventScript, event_script_line, no_events}

-- the numbers of the lines of the events, which stand behind all others
abbrev pub event_lines : List ℕ → ℕ → List ℕ
event_lines bytes events =
    let numbers = map (λ line. line.0) (numbered 1 (map words_of (lines bytes))) in
    drop (length numbers - events) numbers

-- an event of a line is played, and this is its row: its answer, the new outputs that it handed in, and the recovery state behind it
pub record IsPlayedRow (number : ℕ) (happens : Event) (old : WorldState) (row : EventRow) (new : WorldState) : Type 0 where
  pub line : row.entry.line ≡ number
  pub event : row.entry.event ≡ happens
  pub played : Played old (happens ∷ []) (row.entry.answer ∷ []) new
  pub fresh : row.fresh ≡ newly_handed happens row.entry.answer old.manager new.manager
  pub recovery : row.recovery ≡ new.manager.recovery

-- events of these lines are played in order, each with its row; 0 stands for the number of a line that there is not
abbrev pub ArePlayed : List ℕ → List Event → WorldState → List EventRow → WorldState → Type 0
ArePlayed lines [] old [] new = new ≡ old
ArePlayed lines (event ∷ events) old (row ∷ rows) new =
    (mid : WorldState) × IsPlayedRow (slice_index lines 0) event old row mid × ArePlayed (drop 1 lines) events mid rows new
ArePlayed lines events old rows new = ⊥

-- a picture of the first events of a script, so many, played from this world on: it has the marks of those from a line on, each where
-- its event stands and as it was in the end; the events stand in their order, and all have room
pub record IsPlayedPicture (script : EventScript) (lines : List ℕ) (first count : ℕ) (begun : WorldState) (text : List ℕ) : Type 0 where
  pub rows : List EventRow
  pub end : WorldState
  pub played : ArePlayed lines (take count script.events) begun rows end
  pub known : IsKnown end
  pub drawn : Drawn
  pub marks : IsDrawingOf (process_count begun.manager) first rows drawn
  pub placed : ArePlaced (process_count begun.manager) first [] rows
  pub few : length rows ≤ MOST_COLUMNS
  pub written : text ≡ picture_text script.cluster drawn

-- a picture of the first events of a script, so many, played from the start of its world
abbrev pub IsPictureOf : EventScript → List ℕ → ℕ → ℕ → List ℕ → Type 0
IsPictureOf script lines first count text =
    (begun : WorldState) × IsBegun (programs_of script.cluster) begun × IsPlayedPicture script lines first count begun text

-- a picture of the script that these bytes are, of its events from the first line up to the last; no name in it needs an escape
pub record IsDrawn (first last : ℕ) (bytes text : List ℕ) : Type 0 where
  pub script : EventScript
  pub is_script : IsScript event_script_line no_events bytes script
  pub names : HasPlainNames script.cluster
  pub picture : (let lines = event_lines bytes (length script.events) in IsPictureOf script lines first (count_by (λ line. nat_le line last) lines) text)
