-- What a manager holds stays what the programs make.
use Rattle.std.proofs.Common.{◌≡◌, inl, inr, ℕ, zero, suc, ◌<◌, ◌≤◌, List, [], ◌∷◌, ◌++◌, Some, refl, sym, ap, ◌∙◌, subst, arith, get_or, length, set}
use Rattle.std.specs.Prelude.{Err, Ok, Result, false, replicate, slice_get, slice_index_or, true}
use Rattle.std.proofs.lemmas.Bool.{cases_eq}
use Rattle.std.proofs.lemmas.List.{get_or-replicate, get_or-set_other, get_or-set_same, get_or_past, length-replicate}
use Rattle.std.proofs.lemmas.Option.{slice_get_cases}
use Rattle.om_process.specs.Process.{Program}
use Rattle.om_recover.specs.Rows.{Rows}
use Rattle.om_recover.specs.declared.note.Note.{Note}
use Rattle.om_recover.specs.declared.note.Note.TheVariants.{Known, Noted}
use Rattle.om_recover.specs.declared.row.Row.{Row}
use Rattle.om_manager.specs.Notes.{IsNext, Notes, NotesOutput, NotesUpTo, after_note, with_output}
use Rattle.om_manager.specs.steps.Offers.{Offer}
use Rattle.om_manager.specs.Outputs.{HeldOutput}
use Rattle.om_manager.specs.Rounds.{Fails, Failing, Finishes, Gathers, Joining}
use Rattle.om_manager.specs.Sound.{IsManager}
use Rattle.om_manager.specs.State.{ManagerState, held_by, process_count, released_by}
use Rattle.om_manager.specs.declared.answers.FailError.{FailError}
use Rattle.om_manager.specs.declared.answers.Gathered.{Gathered}
use Rattle.om_manager.specs.declared.answers.Gathered.TheVariants.{Finished, Waiting}
use Rattle.om_manager.specs.declared.answers.JoinError.{JoinError}
use Rattle.om_manager.specs.declared.answers.OutputError.{OutputError}
use Rattle.om_manager.specs.declared.answers.OutputNote.{OutputNote}
use Rattle.om_manager.specs.declared.answers.OutputNote.TheVariants as kept
use Rattle.om_manager.specs.declared.answers.RecordError.{RecordError}
use Rattle.om_manager.specs.declared.presence.Presence.{Presence}
use Rattle.om_board.specs.Made.{HoldsMade, IsMade}
use Rattle.om_board.proofs.BoardLemmas.{refused_fail, refused_join, refused_note, refused_output}
use Rattle.om_board.proofs.ListLemmas.{more_had, none_in}

-- an element of the front of a list
at_front : {A : Type 0} (xs ys : List A) (i : ℕ) (x : A) → slice_get xs i ≡ Some x → slice_get (xs ++ ys) i ≡ Some x
at_front [] ys i x at = absurd (none_in i x at)
at_front (z ∷ xs) ys zero x at = at
at_front (z ∷ xs) ys (suc i) x at = at_front xs ys i x at

-- ---- nothing is held at first, and what is held is as before
pub none_made : (programs : List Program) (n k : ℕ) (m : ManagerState) → m.outputs ≡ replicate k [] → HoldsMade programs n m
none_made programs n k m none p i output at = absurd (none_in i output (subst (λ held. slice_get held i ≡ Some output) (nothing p) at))
  where
    nothing : (p : ℕ) → held_by m p ≡ []
    nothing p = elim (slice_get_cases m.outputs p).1 [
      | inl inside ↦
          let lt = inside.1 in let long = ap length none ∙ length-replicate k [] in
          ap (λ (os : List (List HeldOutput)). slice_index_or os p []) none ∙ get_or-replicate k p [] [] (omega arith)
      | inr past ↦ get_or_past m.outputs p [] past.0
    ]

pub made_same : (programs : List Program) (n : ℕ) (old new : ManagerState) → new.outputs ≡ old.outputs → HoldsMade programs n old → HoldsMade programs n new
made_same programs n old new same made p i output at =
    made p i output (subst (λ (os : List (List HeldOutput)). slice_get (slice_index_or os p []) i ≡ Some output) same at)

-- ---- a row is noted
after_outputs : (m : ManagerState) (note : Note) (rows : Rows) (recovery : List ℕ) → (after_note m note rows recovery).outputs ≡ m.outputs
after_outputs m (Noted true) rows recovery = refl
after_outputs m (Noted false) rows recovery = refl
after_outputs m Known rows recovery = refl

pub noted_outputs : (result : Result Note RecordError) (old new : ManagerState) (round : ℕ) (row : Row) → Notes old round row result new → new.outputs ≡ old.outputs
noted_outputs (Ok note) old new round row is = ap (λ (m : ManagerState). m.outputs) is.3 ∙ after_outputs old note new.rows new.recovery
noted_outputs (Err error) old new round row is = ap (λ (m : ManagerState). m.outputs) (refused_note old new round row error is)

pub noted_made : (programs : List Program) (n : ℕ) (result : Result Note RecordError) (old new : ManagerState) (round : ℕ) (row : Row) → Notes old round row result new
    → HoldsMade programs n old → HoldsMade programs n new
noted_made programs n result old new round row is = made_same programs n old new (noted_outputs result old new round row is)

-- ---- rows are noted at once
pub rows_outputs : (old new : ManagerState) (round count : ℕ) (rows : List Row) (end : Result (Unit {0}) RecordError) → NotesUpTo old round rows count end new → new.outputs ≡ old.outputs
rows_outputs old new round count rows end is = ap (λ (m : ManagerState). m.outputs) is.others

pub rows_made : (programs : List Program) (n : ℕ) (old new : ManagerState) (round count : ℕ) (rows : List Row) (end : Result (Unit {0}) RecordError) → NotesUpTo old round rows count end new
    → HoldsMade programs n old → HoldsMade programs n new
rows_made programs n old new round count rows end is = made_same programs n old new (rows_outputs old new round count rows end is)

-- ---- an output is handed in
with_made : (programs : List Program) (n : ℕ) (old : ManagerState) (p : ℕ) (output : HeldOutput) → p < length old.outputs → IsMade programs n p (length (held_by old p)) output
    → HoldsMade programs n old → HoldsMade programs n (with_output old p output)
with_made programs n old p output inside one made q i o at = elim (cases_eq q p) [
  | inl same ↦
      let more = held_by old p ++ output ∷ [] in
      let here : held_by (with_output old p output) q ≡ more = ap (λ j. get_or (set old.outputs p more) j []) same ∙ get_or-set_same old.outputs p more [] inside in
      let own : IsMade programs n p i o = elim (more_had (held_by old p) i output o (subst (λ held. slice_get held i ≡ Some o) here at)) [
        | inl last ↦ subst (λ k. IsMade programs n p k o) (sym last.0) (subst (IsMade programs n p (length (held_by old p))) (sym last.1) one)
        | inr there ↦ made p i o there
      ] in
      subst (λ j. IsMade programs n j i o) (sym same) own
  | inr apart ↦
      let there : held_by (with_output old p output) q ≡ held_by old q = get_or-set_other old.outputs p q (held_by old p ++ output ∷ []) [] apart in
      made q i o (subst (λ held. slice_get held i ≡ Some o) there at)
]

next_made : (programs : List Program) (n : ℕ) (old new : ManagerState) (offer : Offer) → IsManager old → IsNext old offer.pid offer.round offer.seq offer.output → new ≡ with_output old offer.pid offer.output
    → IsMade programs n offer.pid offer.seq offer.output → HoldsMade programs n old → HoldsMade programs n new
next_made programs n old new offer is next same one made =
    let known = next.current.known in let places = is.places in
    subst (HoldsMade programs n) (sym same)
    (with_made programs n old offer.pid offer.output (omega arith) (subst (λ k. IsMade programs n offer.pid k offer.output) next.next one) made)

pub offered_made : (programs : List Program) (n : ℕ) (result : Result OutputNote OutputError) (old new : ManagerState) (offer : Offer) → IsManager old → NotesOutput old offer.pid offer.round offer.seq offer.output result new
    → IsMade programs n offer.pid offer.seq offer.output → HoldsMade programs n old → HoldsMade programs n new
offered_made programs n (Ok kept.Known) old new offer is notes one made = subst (HoldsMade programs n) (sym notes.2) made
offered_made programs n (Ok kept.Released) old new offer is notes one made = next_made programs n old new offer is notes.0 notes.2 one made
offered_made programs n (Ok kept.Held) old new offer is notes one made = next_made programs n old new offer is notes.0 notes.2 one made
offered_made programs n (Err error) old new offer is notes one made =
    subst (HoldsMade programs n) (sym (refused_output (Err error) old new offer notes)) made

-- ---- a round is finished
pub released_had : (m : ManagerState) (p i : ℕ) (output : HeldOutput) → IsManager m → p < process_count m → slice_get (released_by m p) i ≡ Some output → slice_get (held_by m p) i ≡ Some output
released_had m p i output is within at =
    let prefix = is.released p within in
    subst (λ held. slice_get held i ≡ Some output) prefix.1 (at_front (released_by m p) prefix.0 i output at)

finished_made : (programs : List Program) (n : ℕ) (presences : List Presence) (old new : ManagerState) → IsManager old → Finishes presences old new → HoldsMade programs n old
    → HoldsMade programs n new
finished_made programs n presences old new is done made p i output at =
    let places = is.places in let many = done.places in
    elim (slice_get_cases old.outputs p).1 [
      | inl inside ↦
          let lt = inside.1 in let within : p < process_count old = omega arith in
          made p i output (released_had old p i output is within (subst (λ held. slice_get held i ≡ Some output) (done.outputs p within) at))
      | inr past ↦
          let le = past.0 in let beyond : length new.outputs ≤ p = omega arith in
          absurd (none_in i output (subst (λ held. slice_get held i ≡ Some output) (get_or_past new.outputs p [] beyond) at))
    ]

gathered_made : (programs : List Program) (n : ℕ) (presences : List Presence) (old new : ManagerState) (answer : Gathered) → IsManager old → Gathers presences old answer new
    → HoldsMade programs n old → HoldsMade programs n new
gathered_made programs n presences old new Waiting is gathers made = made_same programs n old new (ap (λ (m : ManagerState). m.outputs) gathers.1) made
gathered_made programs n presences old new Finished is gathers made = finished_made programs n presences old new is gathers.1 made

fails_made : (programs : List Program) (n : ℕ) (old new : ManagerState) (p : ℕ) (answer : Gathered) → IsManager old → Fails old p answer new
    → HoldsMade programs n old → HoldsMade programs n new
fails_made programs n old new p answer is (Fails.first apart gathers) made = gathered_made programs n _ old new answer is gathers made
fails_made programs n old new p answer is (Fails.again failed waits same) made = subst (HoldsMade programs n) (sym same) made

pub failed_made : (programs : List Program) (n : ℕ) (old new : ManagerState) (p round : ℕ) (result : Result Gathered FailError) → IsManager old → Failing old p round result new
    → HoldsMade programs n old → HoldsMade programs n new
failed_made programs n old new p round (Ok answer) is failing made = fails_made programs n old new p answer is failing.2 made
failed_made programs n old new p round (Err error) is failing made = subst (HoldsMade programs n) (sym (refused_fail old new p round error failing)) made

pub joined_made : (programs : List Program) (n : ℕ) (old new : ManagerState) (p round current : ℕ) (result : Result Gathered JoinError) → IsManager old
    → Joining old p round current result new → HoldsMade programs n old → HoldsMade programs n new
joined_made programs n old new p round current (Ok answer) is joining made = gathered_made programs n _ old new answer is joining.1 made
joined_made programs n old new p round current (Err error) is joining made = subst (HoldsMade programs n) (sym (refused_join old new p round current error joining)) made
