-- Events that are played one by one, and the picture of a script.
use Rattle.std.proofs.Common.{◌≡◌, ◌⊎◌, ◌+◌, ◌≤◌, ℕ, suc, List, [], ◌∷◌, ◌++◌, Option, Some, None, Result, Ok, Err, drop, length, take, slice_index, refl, ap, sym, subst, ◌∙◌, arith}
use Rattle.std.specs.Prelude.{IfOk, IfErr, IfSome, nat_le}
use Rattle.std.proofs.lemmas.List.{get_or-drop, length-take}
use Rattle.std.proofs.lemmas.List.Sums.{count_by-le-length}
use Rattle.om_scripts.specs.Programs.{Cluster, programs_of}
use Rattle.om_manager.specs.State.{process_count}
use Rattle.om_text.specs.declared.text.TheConstants.{MAX_BYTES}
use Rattle.om_picture.specs.Drawing.{IsSketchOf, Sketch}
use Rattle.om_picture.specs.Fates.{EventRow}
use Rattle.om_picture.specs.Marks.{IsDrawingOf}
use Rattle.om_svg.specs.PictureText.{picture_text}
use Rattle.om_picture.specs.Places.{ArePlaced}
use Rattle.om_picture.specs.declared.column.TheConstants.{MOST_COLUMNS}
use Rattle.om_sheet.specs.declared.sheet.Drawn.{Drawn}
use Rattle.om_world.specs.World.{WorldState, IsKnown}
use Rattle.om_world.specs.declared.event.Event.{Event}
use Rattle.om_commands.specs.Command.{IsScript}
use Rattle.om_draw_command.specs.Draw.{ArePlayed, IsDrawn, IsPictureOf, IsPlayedPicture, IsPlayedRow, event_lines}
use Rattle.om_draw_command.specs.steps.Counting.{count_within}
use Rattle.om_draw_command.specs.steps.Playing.{AreDrawn}
use Rattle.om_commands.specs.Sim.{IsBegun, IsErrorOfSim}
use Rattle.om_commands.specs.declared.error.CommandError.{CommandError}
use Rattle.om_commands.specs.declared.error.CommandError.TheVariants.{EmptyScript, NoMemory}
use Rattle.om_draw_command.proofs.LineLemmas.{lines_few}
use Rattle.om_draw_command.proofs.PlainNames.{names_are_plain}
use Rattle.om_commands.proofs.SimLemmas.{error_of_answer}
use Rattle.om_commands.specs.SimScript.{EventScript, event_script_line, no_events}

-- one event more
line_more : (lines : List ℕ) (k : ℕ) → slice_index (drop 1 lines) k ≡ slice_index lines (suc k)
line_more lines k =
    let next : 1 + k ≡ suc k = omega arith in
    get_or-drop 1 lines k 0 ∙ ap (λ (n : ℕ). slice_index lines n) next

played_then : (lines : List ℕ) (es : List Event) (rows : List EventRow) (e : Event) (row : EventRow) (old mid new : WorldState)
    → ArePlayed lines es old rows mid → IsPlayedRow (slice_index lines (length es)) e mid row new
    → ArePlayed lines (es ++ e ∷ []) old (rows ++ row ∷ []) new
played_then lines [] [] e row old mid new p s = (new, subst (λ w. IsPlayedRow (slice_index lines 0) e w row new) p s, refl)
played_then lines [] (x ∷ rows) e row old mid new p s = absurd p
played_then lines (d ∷ es) [] e row old mid new p s = absurd p
played_then lines (d ∷ es) (x ∷ rows) e row old mid new p s = (
  p.0,
  p.1,
  played_then (drop 1 lines) es rows e row p.0 mid new p.2
      (subst (λ (line : ℕ). IsPlayedRow line e mid row new) (sym (line_more lines (length es))) s),
)

-- nothing is played yet
pub none_drawn : (lines : List ℕ) (n first : ℕ) (w : WorldState) (sketch : Sketch) → IsSketchOf n first [] sketch
    → AreDrawn lines [] n first w w sketch
none_drawn lines n first w sketch begun = record { rows = []; played = refl; marks = begun }

-- an event more is played and drawn
pub drawn_then : (lines : List ℕ) (es more : List Event) (k n first : ℕ) (old mid new : WorldState) (before after : Sketch) (e : Event)
    (line : ℕ) (row : EventRow) → more ≡ es ++ e ∷ [] → length es ≡ k → AreDrawn lines es n first old mid before
    → line ≡ slice_index lines k → IsPlayedRow line e mid row new
    → ((n first : ℕ) (rows : List EventRow) → IsSketchOf n first rows before → IsSketchOf n first (rows ++ row ∷ []) after)
    → AreDrawn lines more n first old new after
drawn_then lines es more k n first old mid new before after e line row same count drawn at step draws =
    let place : line ≡ slice_index lines (length es) = at ∙ ap (λ (j : ℕ). slice_index lines j) (sym count) in
    let whole : AreDrawn lines (es ++ e ∷ []) n first old new after = record {
      rows = drawn.rows ++ row ∷ [];
      played = played_then lines es drawn.rows e row old mid new drawn.played
          (subst (λ (j : ℕ). IsPlayedRow j e mid row new) place step);
      marks = draws n first drawn.rows drawn.marks;
    } in
    subst (λ (l : List Event). AreDrawn lines l n first old new after) (sym same) whole

-- the lines of an input are few enough to have room
pub few_within : (bytes lines : List ℕ) (last count events : ℕ) → lines ≡ event_lines bytes events → length bytes ≤ MAX_BYTES
    → count ≡ count_within lines last → count ≤ MOST_COLUMNS
few_within bytes lines last count events same within is =
    let few = count_by-le-length (λ (line : ℕ). nat_le line last) lines in
    let long : length lines ≡ length (event_lines bytes events) = ap (λ (ls : List ℕ). length ls) same in
    let most = lines_few bytes events in
    omega arith

-- there is a row for each event
played_count : (lines : List ℕ) (es : List Event) (rows : List EventRow) (old new : WorldState) → ArePlayed lines es old rows new
    → length rows ≡ length es
played_count lines [] [] old new p = refl
played_count lines [] (row ∷ rows) old new p = absurd p
played_count lines (e ∷ es) [] old new p = absurd p
played_count lines (e ∷ es) (row ∷ rows) old new p = ap suc (played_count (drop 1 lines) es rows p.0 new p.2)

-- a picture of what was played
pub is_played_picture : {A E : Type 0} (spelled : A → List ℕ) (script : EventScript) (cluster : Cluster) (events : List Event) (lines : List ℕ)
    (first count n : ℕ) (begun end : WorldState) (sketch : Sketch) (drawn : Drawn) (r : Result A E) → cluster ≡ script.cluster
    → count ≤ MOST_COLUMNS → events ≡ take count script.events → n ≡ process_count begun.manager → AreDrawn lines events n first begun end sketch → IsKnown end
    → ((n first : ℕ) (rows : List EventRow) → IsSketchOf n first rows sketch → IsDrawingOf n first rows drawn)
    → IfOk r (λ text. spelled text ≡ picture_text cluster drawn)
    → IfOk r (λ text. IsPlayedPicture script lines first count begun (spelled text))
is_played_picture spelled script cluster events lines first count n begun end sketch drawn (Ok text) same_cluster room same_events same_size
    played known whole
    written =
    record {
      rows = played.rows;
      end = end;
      played = subst (λ (es : List Event). ArePlayed lines es begun played.rows end) same_events played.played;
      known = known;
      drawn = drawn;
      marks = subst (λ (m : ℕ). IsDrawingOf m first played.rows drawn) same_size (whole n first played.rows played.marks);
      placed = subst (λ (m : ℕ). ArePlaced m first [] played.rows) same_size played.marks.placed;
      few =
          let many : length played.rows ≡ length events = played_count lines events played.rows begun end played.played in
          let taken : length events ≡ length (take count script.events) = ap (λ (es : List Event). length es) same_events in
          let most = length-take count script.events in
          omega arith;
      written = written ∙ ap (λ c. picture_text c drawn) same_cluster;
    }
is_played_picture spelled script cluster events lines first count n begun end sketch drawn (Err e) same_cluster room same_events same_size
    played known whole
    written = tt

-- a picture of what was played from the start of a script's world
pub is_picture_of : (script : EventScript) (cluster : Cluster) (lines : List ℕ) (first count : ℕ) (begun : WorldState) (text : List ℕ)
    → cluster ≡ script.cluster → IsBegun (programs_of cluster) begun → IsPlayedPicture script lines first count begun text
    → IsPictureOf script lines first count text
is_picture_of script cluster lines first count begun text same is_begun played =
    (begun, subst (λ c. IsBegun (programs_of c) begun) same is_begun, played)

-- the picture of a script is that of the bytes that it is read from
pub is_drawn : {A E : Type 0} (spelled : A → List ℕ) (remaining : Option (List ℕ)) (read : List ℕ) (script : EventScript) (lines : List ℕ)
    (first last count : ℕ) (r : Result A E) → IfSome remaining (λ bytes. (read ≡ bytes) × IsScript event_script_line no_events bytes script)
    → lines ≡ event_lines read (length script.events) → count ≡ count_within lines last
    → IfOk r (λ text. IsPictureOf script lines first count (spelled text))
    → IfSome remaining (λ bytes. IfOk r (λ text. IsDrawn first last bytes (spelled text)))
is_drawn spelled None read script lines first last count r is same_lines same_count picture = tt
is_drawn spelled (Some bytes) read script lines first last count (Err e) is same_lines same_count picture = tt
is_drawn spelled (Some bytes) read script lines first last count (Ok text) is same_lines same_count picture = record {
  script = script;
  is_script = is.1;
  names = names_are_plain bytes script is.1;
  picture =
      let found : lines ≡ event_lines bytes (length script.events) = same_lines ∙ ap (λ bs. event_lines bs (length script.events)) is.0 in
      subst (λ (ls : List ℕ). IsPictureOf script ls first (count_within ls last) (spelled text)) found
      (subst (λ (n : ℕ). IsPictureOf script lines first n (spelled text)) same_count picture);
}

-- the error of a script is that of the bytes that it is read from
pub error_of_drawing : {A : Type 0} (remaining : Option (List ℕ)) (read : List ℕ) (script : EventScript) (r : Result A CommandError)
    → IfSome remaining (λ bytes. (read ≡ bytes) × IsScript event_script_line no_events bytes script)
    → IfErr r (λ error. (error ≡ NoMemory) ⊎ ((error ≡ EmptyScript) × (length script.cluster.processes ≡ 0)))
    → IfSome remaining (λ bytes. IfErr r (IsErrorOfSim bytes))
error_of_drawing None read script r is error = tt
error_of_drawing (Some bytes) read script r is error = error_of_answer (Some bytes) no_events script r refl is.1 error
