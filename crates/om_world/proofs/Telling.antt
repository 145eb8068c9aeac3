-- Rows that the manager is told.
use Rattle.std.proofs.Common.{◌≡◌, inl, inr, ℕ, zero, suc, ◌+◌, ◌≤◌, List, [], ◌∷◌, ◌++◌, length, get_or, true, false, Ok, refl, ap, ◌∙◌, subst, arith, length-append}
use Rattle.std.specs.Prelude.{slice_index, slice_index_or}
use Rattle.om_interval.specs.Vectors.{IsBelow}
use Rattle.om_process.specs.declared.row.PendingRow.{PendingRow}
use Rattle.om_recover.specs.Rows.{HasRow, Rows}
use Rattle.om_recover.specs.declared.row.Row.{Row}
use Rattle.om_recover.specs.declared.note.Note.{Note}
use Rattle.om_recover.specs.declared.note.Note.TheVariants.{Noted, Known}
use Rattle.om_take_up.proofs.RowsLemmas.{told_kept}
use Rattle.om_manager.specs.Notes.{after_note}
use Rattle.om_manager.specs.Outputs.{HeldOutput, within}
use Rattle.om_manager.specs.Sound.{IsManager, KeepsReleased}
use Rattle.om_manager.specs.State.{ManagerState, process_count, released_by}
use Rattle.om_world.specs.steps.Moves.{AreTold, IsTold}
use Rattle.om_world.proofs.Raising.{GoesOn, beyond, less}

-- rows that are told are told in the manager's round
pub told_notes : (old new : ManagerState) (round p : ℕ) (rows : List PendingRow) → AreTold old round p rows new → AreTold old old.round p rows new
told_notes old new round p [] same = same
told_notes old new round p (row ∷ rows) told = subst (λ k. AreTold old k p (row ∷ rows) new) told.2.answers.0 told

-- ---- what a note keeps
after_starts : (m : ManagerState) (note : Note) (rows : Rows) (state : List ℕ) → (after_note m note rows state).starts ≡ m.starts
after_starts m (Noted true) rows state = refl
after_starts m (Noted false) rows state = refl
after_starts m Known rows state = refl

after_round : (m : ManagerState) (note : Note) (rows : Rows) (state : List ℕ) → (after_note m note rows state).round ≡ m.round
after_round m (Noted true) rows state = refl
after_round m (Noted false) rows state = refl
after_round m Known rows state = refl

after_gathering : (m : ManagerState) (note : Note) (rows : Rows) (state : List ℕ) → (after_note m note rows state).gathering ≡ m.gathering
after_gathering m (Noted true) rows state = refl
after_gathering m (Noted false) rows state = refl
after_gathering m Known rows state = refl

after_backs : (m : ManagerState) (note : Note) (rows : Rows) (state : List ℕ) → (after_note m note rows state).backs ≡ m.backs
after_backs m (Noted true) rows state = refl
after_backs m (Noted false) rows state = refl
after_backs m Known rows state = refl

after_last : (m : ManagerState) (note : Note) (rows : Rows) (state : List ℕ) → (after_note m note rows state).last ≡ m.last
after_last m (Noted true) rows state = refl
after_last m (Noted false) rows state = refl
after_last m Known rows state = refl

after_outputs : (m : ManagerState) (note : Note) (rows : Rows) (state : List ℕ) → (after_note m note rows state).outputs ≡ m.outputs
after_outputs m (Noted true) rows state = refl
after_outputs m (Noted false) rows state = refl
after_outputs m Known rows state = refl

-- ---- a manager of which some is released goes on
pub below_all : (low high : List ℕ) (q : ℕ) → IsBelow low high → get_or low q 0 ≤ get_or high q 0
below_all low high q b = elim (less q (length low)) [
  | inl lt ↦ b.each q lt
  | inr ge ↦ let same = b.same_places in let x = beyond low q ge in let y = beyond high q (omega arith) in omega arith
]

no_outputs : (outputs : List (List HeldOutput)) (p : ℕ) → length outputs ≤ p → slice_index_or outputs p [] ≡ []
no_outputs [] p le = refl
no_outputs (x ∷ outputs) zero le = absurd (omega arith)
no_outputs (x ∷ outputs) (suc p) le = no_outputs outputs p (omega arith)

pub released_all : (old new : ManagerState) → IsManager old → KeepsReleased old new → (p : ℕ) → length (released_by old p) ≤ length (released_by new p)
released_all old new is keeps p = elim (less p (process_count old)) [
  | inl lt ↦ let b = keeps p lt in let long : length (released_by old p ++ b.0) ≡ length (released_by old p) + length b.0 = length-append (released_by old p) b.0 in let same = ap length b.1 in omega arith
  | inr ge ↦ let many = is.places in let none : length (released_by old p) ≡ 0 = ap (λ l. length (within l (slice_index old.recovery p))) (no_outputs old.outputs p (omega arith)) in omega arith
]

pub goes_on_by : (old new : ManagerState) → IsManager old → IsBelow old.recovery new.recovery → KeepsReleased old new → ((other : Row) → HasRow old.rows other → HasRow new.rows other)
    → new.starts ≡ old.starts → new.round ≡ old.round → new.gathering ≡ old.gathering → new.backs ≡ old.backs → new.last ≡ old.last → GoesOn old new
goes_on_by old new is below keeps rows starts round gathering backs last = record {
  starts = starts;
  round = round;
  gathering = gathering;
  backs = backs;
  last = last;
  rises = λ q. below_all old.recovery new.recovery q below;
  released = released_all old new is keeps;
  old = λ p kind x o.
      let le = below_all old.recovery new.recovery p below in let w = o.within in
      record { checkpoint = o.checkpoint; there = record { row = o.there.row; there = rows o.there.row o.there.there; kind_is = o.there.kind_is; pid_is = o.there.pid_is; interval_is = o.there.interval_is }; within = omega arith; before = o.before };
}

pub told_goes_on : (old new : ManagerState) (round p : ℕ) (row : PendingRow) (note : Note) → IsManager old → IsTold old round p row (Ok note) new → GoesOn old new
told_goes_on old new round p row note is t =
    let e = t.answers.3 in
    goes_on_by old new is t.keeps.below t.keeps.released (told_kept old new round p row note t)
    (ap (λ (m : ManagerState). m.starts) e ∙ after_starts old note new.rows new.recovery) (ap (λ (m : ManagerState). m.round) e ∙ after_round old note new.rows new.recovery)
    (ap (λ (m : ManagerState). m.gathering) e ∙ after_gathering old note new.rows new.recovery) (ap (λ (m : ManagerState). m.backs) e ∙ after_backs old note new.rows new.recovery)
    (ap (λ (m : ManagerState). m.last) e ∙ after_last old note new.rows new.recovery)

pub told_outputs : (old new : ManagerState) (round p : ℕ) (row : PendingRow) (note : Note) → IsTold old round p row (Ok note) new → new.outputs ≡ old.outputs
told_outputs old new round p row note t = ap (λ (m : ManagerState). m.outputs) t.answers.3 ∙ after_outputs old note new.rows new.recovery
