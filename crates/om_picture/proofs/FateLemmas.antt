-- What becomes of an interval, one event further.
use Rattle.std.proofs.Common.{◌≡◌, ◌∙◌, ◌≤◌, ◌==◌, ◌||◌, ◌&&◌, ℕ, Bool, true, false, not, if◌then◌else◌, is_none, is_some, List, [], ◌∷◌, ◌++◌, Option, Some, None, max, refl, ap, sym, arith, append_assoc}
use Rattle.std.specs.List.{fold}
use Rattle.std.specs.Prelude.{nat_le, slice_index}
use Rattle.std.proofs.Math.Bool.{and-false}
use Rattle.std.proofs.Math.Nat.{le-max_left}
use Rattle.std.proofs.lemmas.Bool.{le-leb, leb-true}
use Rattle.std.proofs.lemmas.List.{append-nil}
use Rattle.om_process.specs.declared.accept.Accept.TheVariants as accepts
use Rattle.om_process.specs.declared.status.Status.{Status}
use Rattle.om_world.specs.declared.event.Answer.{Answer}
use Rattle.om_world.specs.declared.event.Answer.TheVariants as answers
use Rattle.om_world.specs.declared.event.Event.{Event}
use Rattle.om_world.specs.declared.event.Event.TheVariants as events
use Rattle.om_world.specs.declared.event.Refusal.TheVariants as refusals
use Rattle.om_picture.specs.Drawing.{mark_marks, waiting_marks}
use Rattle.om_picture.specs.Fates.{EventRow, Fate, Progress, cuts, ended_after, fate_behind, highest, is_cut, is_saved, next_ended, next_place, next_progress, progress_after, saved}
use Rattle.om_picture.specs.Marks.{EventMark}
use Rattle.om_sheet.specs.Shows.{end_of, is_finished, shown}
use Rattle.om_picture.specs.declared.history.Mark.{Mark}
use Rattle.om_sheet.specs.declared.shown.Shown.TheVariants as shows
use Rattle.om_picture.specs.steps.Adding.{ended_shown, fate_amid, fate_now, kept, progress_shown}

-- ---- places
further : (a b c : ℕ) → a ≤ b → b ≤ c → a ≤ c
further a b c p q = omega arith

le_highest : (p was : ℕ) (rows : List EventRow) → was ≤ highest p was rows
le_highest p was [] = omega arith
le_highest p was (row ∷ rows) =
    further was (next_place p was row) (highest p (next_place p was row) rows) (le-max_left was (slice_index row.recovery p))
    (le_highest p (next_place p was row) rows)

max_again : (a b : ℕ) → max (max a b) b ≡ max a b
max_again a b = omega arith

pub place_again : (p was : ℕ) (row : EventRow) → next_place p (max was (slice_index row.recovery p)) row ≡ next_place p was row
place_again p was row = max_again was (slice_index row.recovery p)

-- ---- fates
abbrev make_fate : Bool → Bool → Bool → Fate
make_fate cut within stored = record { cut = cut; covered = not cut && within; stored = (not cut && within) || stored }

-- the round of an event is finished or not, and its recovery state is told
abbrev fate_at : Bool → ℕ → ℕ → ℕ → Progress → List EventRow → Fate
fate_at finished p i high now later =
    let cut_now = finished && not (nat_le i high) in
    make_fate (cut_now || is_cut p i high later) (nat_le i (highest p high later))
    (if cut_now then nat_le i now.safe else is_saved p i high now later)

not_cut : (p i was : ℕ) (rows : List EventRow) → i ≤ was → is_cut p i was rows ≡ false
not_cut p i was [] within = refl
not_cut p i was (row ∷ rows) within =
    let more : i ≤ next_place p was row = further i was (next_place p was row) within (le-max_left was (slice_index row.recovery p)) in
    let covered : nat_le i (next_place p was row) ≡ true = le-leb i (next_place p was row) more in
    let none : cuts i (next_place p was row) row ≡ false =
    ap (λ (b : Bool). is_finished row.entry.answer && not b) covered ∙ and-false (is_finished row.entry.answer) in
    ap (λ (b : Bool). b || is_cut p i (next_place p was row) rows) none ∙ not_cut p i (next_place p was row) rows more

kept_at : (finished : Bool) (p i high : ℕ) (now : Progress) (later : List EventRow) → i ≤ high → fate_at finished p i high now later ≡ kept
kept_at finished p i high now later within =
    let w : Bool = nat_le i (highest p high later) in
    let s : Bool = if finished && not (nat_le i high) then nat_le i now.safe else is_saved p i high now later in
    let none : ((finished && not (nat_le i high)) || is_cut p i high later) ≡ false =
    ap (λ (b : Bool). (finished && not b) || is_cut p i high later) (le-leb i high within)
    ∙ ap (λ (b : Bool). b || is_cut p i high later) (and-false finished) ∙ not_cut p i high later within in
    ap (λ (b : Bool). make_fate b w s) none
    ∙ ap (λ (b : Bool). make_fate false b s) (le-leb i (highest p high later) (further i high (highest p high later) within
    (le_highest p high later)))

-- an interval that a recovery state covers
pub kept_amid : (row : EventRow) (later : List EventRow) (p i was : ℕ) (now : Progress) → i ≤ was → fate_amid row later p i was now ≡ kept
kept_amid row later p i was now within =
    kept_at (is_finished row.entry.answer) p i (next_place p was row) now later (further i was (next_place p was row) within
    (le-max_left was (slice_index row.recovery p)))

-- its recovery state may be told before
pub amid_again : (row : EventRow) (later : List EventRow) (p i was : ℕ) (now : Progress)
    → fate_amid row later p i (max was (slice_index row.recovery p)) now ≡ fate_amid row later p i was now
amid_again row later p i was now =
    ap (λ (high : ℕ). fate_at (is_finished row.entry.answer) p i high now later) (place_again p was row)

-- the event itself takes the process further, or not
pub first_fate : (row : EventRow) (later : List EventRow) (p i place : ℕ) (was : Progress)
    → fate_behind p i place was (row ∷ later) ≡ fate_amid row later p i place (next_progress p was row)
first_fate row later p i place was = refl

abbrev lost : Bool → Fate
lost stored = record { cut = true; covered = false; stored = stored }

round_at : (p i high : ℕ) (now : Progress) (later : List EventRow)
    → fate_at true p i high now later ≡ fate_now true (nat_le i high) (nat_le i now.safe)
round_at p i high now later = go (nat_le i high) refl
  where
    go : (b : Bool) → nat_le i high ≡ b → fate_at true p i high now later ≡ fate_now true (nat_le i high) (nat_le i now.safe)
    go true is = kept_at true p i high now later (leb-true i high is) ∙ sym (ap (λ (b : Bool). fate_now true b (nat_le i now.safe)) is)
    go false is =
        ap (λ (b : Bool). make_fate ((true && not b) || is_cut p i high later) (nat_le i (highest p high later))
        (if true && not b then nat_le i now.safe else is_saved p i high now later)) is
        ∙ sym (ap (λ (b : Bool). fate_now true b (nat_le i now.safe)) is)

-- a round is finished with the event
pub round_fate : (row : EventRow) (later : List EventRow) (p i was : ℕ) (now : Progress) → is_finished row.entry.answer ≡ true
    → next_place p was row ≡ was
    → fate_amid row later p i was now ≡ fate_now true (nat_le i was) (nat_le i now.safe)
round_fate row later p i was now finished same =
    ap (λ (b : Bool). fate_at b p i (next_place p was row) now later) finished
    ∙ ap (λ (high : ℕ). fate_at true p i high now later) same
    ∙ round_at p i was now later

-- none is
pub open_fate : (row : EventRow) (later : List EventRow) (p i was : ℕ) (now : Progress) → is_finished row.entry.answer ≡ false
    → next_place p was row ≡ was
    → fate_amid row later p i was now ≡ fate_behind p i was now later
open_fate row later p i was now finished same =
    ap (λ (b : Bool). fate_at b p i (next_place p was row) now later) finished
    ∙ ap (λ (high : ℕ). fate_at false p i high now later) same

-- there is no event any more
pub end_fate : (p i was : ℕ) (now : Progress) → fate_behind p i was now [] ≡ fate_now false (nat_le i was) (nat_le i now.safe)
end_fate p i was now = refl

-- ---- marks that wait
pub waiting_alike : (f g : ℕ → Fate) → ((i : ℕ) → f i ≡ g i) → (marks : List Mark) → waiting_marks f marks ≡ waiting_marks g marks
waiting_alike f g same [] = refl
waiting_alike f g same (m ∷ ms) =
    ap (λ (x : Fate). mark_marks m x ++ waiting_marks f ms) (same m.interval)
    ∙ ap (λ (l : List EventMark). mark_marks m (g m.interval) ++ l) (waiting_alike f g same ms)

-- one more
pub waiting_more : (f : ℕ → Fate) (marks : List Mark) (mark : Mark)
    → waiting_marks f (marks ++ mark ∷ []) ≡ waiting_marks f marks ++ mark_marks mark (f mark.interval)
waiting_more f [] mark = append-nil (mark_marks mark (f mark.interval))
waiting_more f (m ∷ ms) mark =
    ap (λ (l : List EventMark). mark_marks m (f m.interval) ++ l) (waiting_more f ms mark)
    ∙ sym (append_assoc (mark_marks m (f m.interval)) (waiting_marks f ms) (mark_marks mark (f mark.interval)))

-- ---- what an event shows
-- a run stores nothing, and changes no interval
run_progress : (b : Bool) (was : Progress) (sent made : ℕ) (ends : Option Status)
    → progress_shown was (if b then shows.Nothing else shows.Run sent made ends) ≡ was
run_progress true was sent made ends = refl
run_progress false was sent made ends = refl

-- what it says of its program's end is known
run_ended : (a b ended : Bool) (sent made : ℕ) (end : Option Status)
    → (let ends : Option Status = if ended then None else end in
    ended_shown ended (if a && (b && is_none ends) then shows.Nothing else shows.Run sent made ends) ≡ (ended || is_some end))
run_ended false b true sent made end = refl
run_ended false b false sent made end = refl
run_ended true false true sent made end = refl
run_ended true false false sent made end = refl
run_ended true true true sent made end = refl
run_ended true true false sent made None = refl
run_ended true true false sent made (Some status) = refl

flush_progress : (b : Bool) (was : Progress)
    → progress_shown was (if b then shows.Nothing else shows.Flush) ≡ (if b then was else saved None was)
flush_progress true was = refl
flush_progress false was = refl

first_progress : (b : Bool) (was : Progress) (many : ℕ)
    → progress_shown was (if b then shows.Nothing else shows.FlushFirst many) ≡ (if b then was else saved (Some many) was)
first_progress true was many = refl
first_progress false was many = refl

first_ended : (b was : Bool) (many : ℕ) → ended_shown was (if b then shows.Nothing else shows.FlushFirst many) ≡ was
first_ended true was many = refl
first_ended false was many = refl

flush_ended : (b was : Bool) → ended_shown was (if b then shows.Nothing else shows.Flush) ≡ was
flush_ended true was = refl
flush_ended false was = refl

resend_progress : (b : Bool) (was : Progress) (sent : ℕ) → progress_shown was (if b then shows.Nothing else shows.Resend sent) ≡ was
resend_progress true was sent = refl
resend_progress false was sent = refl

resend_ended : (b was : Bool) (sent : ℕ) → ended_shown was (if b then shows.Nothing else shows.Resend sent) ≡ was
resend_ended true was sent = refl
resend_ended false was sent = refl

pub progress_told : (ended : Bool) (event : Event) (answer : Answer) (was : Progress)
    → progress_shown was (shown ended event answer) ≡ progress_after event answer was
progress_told ended (events.Run process fuel) (answers.Ran steps status sent made) was =
    let ends : Option Status = if ended then None else end_of status in
    run_progress ((sent == 0) && ((made == 0) && is_none ends)) was sent made ends
progress_told ended (events.Run process fuel) answer was = refl
progress_told ended (events.Give process frame) (answers.Given (accepts.Taken interval)) was = refl
progress_told ended (events.Give process frame) (answers.Given accept) was = refl
progress_told ended (events.Give process frame) (answers.Refused refusals.NoFrame) was = refl
progress_told ended (events.Give process frame) (answers.Refused refusals.NoProcess) was = refl
progress_told ended (events.Give process frame) (answers.Refused why) was = refl
progress_told ended (events.Give process frame) answer was = refl
progress_told ended (events.Flush process) (answers.Noted count) was = flush_progress (count == 0) was
progress_told ended (events.Flush process) answer was = refl
progress_told ended (events.FlushFirst process many) (answers.Noted count) was = first_progress ((count == 0) || (many == 0)) was many
progress_told ended (events.FlushFirst process many) answer was = refl
progress_told ended (events.Checkpoint process) (answers.Noted count) was = refl
progress_told ended (events.Checkpoint process) answer was = refl
progress_told ended (events.Spell process) (answers.Noted count) was = refl
progress_told ended (events.Spell process) answer was = refl
progress_told ended (events.Resend process) (answers.Resent sent) was = resend_progress (sent == 0) was sent
progress_told ended (events.Resend process) answer was = refl
progress_told ended (events.Trim process) answer was = refl
progress_told ended (events.Fail process) (answers.Gathered gathered) was = refl
progress_told ended (events.Fail process) answers.Down was = refl
progress_told ended (events.Fail process) answer was = refl
progress_told ended (events.Join process) (answers.Gathered gathered) was = refl
progress_told ended (events.Join process) answer was = refl
progress_told ended (events.Resume process) (answers.Back interval inc) was = refl
progress_told ended (events.Resume process) answers.GoesOn was = refl
progress_told ended (events.Resume process) answer was = refl
progress_told ended events.Prune answer was = refl
progress_told ended events.Restart answer was = refl

pub ended_told : (ended : Bool) (event : Event) (answer : Answer)
    → ended_shown ended (shown ended event answer) ≡ ended_after event answer ended
ended_told ended (events.Run process fuel) (answers.Ran steps status sent made) =
    run_ended (sent == 0) (made == 0) ended sent made (end_of status)
ended_told ended (events.Run process fuel) answer = refl
ended_told ended (events.Give process frame) (answers.Given (accepts.Taken interval)) = refl
ended_told ended (events.Give process frame) (answers.Given accept) = refl
ended_told ended (events.Give process frame) (answers.Refused refusals.NoFrame) = refl
ended_told ended (events.Give process frame) (answers.Refused refusals.NoProcess) = refl
ended_told ended (events.Give process frame) (answers.Refused why) = refl
ended_told ended (events.Give process frame) answer = refl
ended_told ended (events.Flush process) (answers.Noted count) = flush_ended (count == 0) ended
ended_told ended (events.Flush process) answer = refl
ended_told ended (events.FlushFirst process many) (answers.Noted count) = first_ended ((count == 0) || (many == 0)) ended many
ended_told ended (events.FlushFirst process many) answer = refl
ended_told ended (events.Checkpoint process) (answers.Noted count) = refl
ended_told ended (events.Checkpoint process) answer = refl
ended_told ended (events.Spell process) (answers.Noted count) = refl
ended_told ended (events.Spell process) answer = refl
ended_told ended (events.Resend process) (answers.Resent sent) = resend_ended (sent == 0) ended sent
ended_told ended (events.Resend process) answer = refl
ended_told ended (events.Trim process) answer = refl
ended_told ended (events.Fail process) (answers.Gathered gathered) = refl
ended_told ended (events.Fail process) answers.Down = refl
ended_told ended (events.Fail process) answer = refl
ended_told ended (events.Join process) (answers.Gathered gathered) = refl
ended_told ended (events.Join process) answer = refl
ended_told ended (events.Resume process) (answers.Back interval inc) = refl
ended_told ended (events.Resume process) answers.GoesOn = refl
ended_told ended (events.Resume process) answer = refl
ended_told ended events.Prune answer = refl
ended_told ended events.Restart answer = refl

-- ---- one event more
pub progress_more : (p : ℕ) (was : Progress) (rows : List EventRow) (row : EventRow)
    → fold (next_progress p) was (rows ++ row ∷ []) ≡ next_progress p (fold (next_progress p) was rows) row
progress_more p was [] row = refl
progress_more p was (x ∷ rows) row = progress_more p (next_progress p was x) rows row

pub ended_more : (p : ℕ) (was : Bool) (rows : List EventRow) (row : EventRow)
    → fold (next_ended p) was (rows ++ row ∷ []) ≡ next_ended p (fold (next_ended p) was rows) row
ended_more p was [] row = refl
ended_more p was (x ∷ rows) row = ended_more p (next_ended p was x) rows row

pub highest_more : (p was : ℕ) (rows : List EventRow) (row : EventRow) → highest p was (rows ++ row ∷ []) ≡ next_place p (highest p was rows) row
highest_more p was [] row = refl
highest_more p was (x ∷ rows) row = highest_more p (next_place p was x) rows row
