-- What waits on a lane, one event further.
use Rattle.std.proofs.Common.{◌≡◌, ◌∙◌, ◌<◌, ◌≤◌, ◌&&◌, ◌||◌, ℕ, Bool, true, false, if◌then◌else◌, is_some, List, [], ◌∷◌, ◌++◌, Option, Some, None, refl, ap, sym, append_assoc}
use Rattle.std.specs.Prelude.{nat_le}
use Rattle.std.specs.Option.{option_or}
use Rattle.std.proofs.lemmas.Bool.{le-leb, lt-leb}
use Rattle.std.proofs.lemmas.List.{append-nil}
use Rattle.om_picture.specs.Fates.{EventRow, has_ended, interval_behind, is_of}
use Rattle.om_picture.specs.Held.{Held, covered_by, held_from, left_by, may_wait, next_held, left_behind}
use Rattle.om_sheet.specs.Shows.{shown}

-- ---- what is covered
uncovered_one : (b : Bool) (held : Held) (more some left : List Held) → (if b then held ∷ some else []) ≡ []
    → (if b then left else held ∷ more) ≡ held ∷ more
uncovered_one true held more some left none = cc
uncovered_one false held more some left none = refl

pub uncovered_all : (place : ℕ) (held : List Held) → covered_by place held ≡ [] → left_behind place held ≡ held
uncovered_all place [] none = refl
uncovered_all place (held ∷ more) none =
    uncovered_one (nat_le held.interval place) held more (covered_by place more) (left_behind place more) none

pub covered_first : (place : ℕ) (held : Held) (more : List Held) → held.interval ≤ place
    → covered_by place (held ∷ more) ≡ held ∷ covered_by place more
covered_first place held more within = ap (λ (b : Bool). if b then held ∷ covered_by place more else []) (le-leb held.interval place within)

pub uncovered_first : (place : ℕ) (held : Held) (more : List Held) → held.interval ≤ place
    → left_behind place (held ∷ more) ≡ left_behind place more
uncovered_first place held more within =
    ap (λ (b : Bool). if b then left_behind place more else held ∷ more) (le-leb held.interval place within)

pub covered_none : (place : ℕ) (held : Held) (more : List Held) → place < held.interval → covered_by place (held ∷ more) ≡ []
covered_none place held more beyond = ap (λ (b : Bool). if b then held ∷ covered_by place more else []) (lt-leb held.interval place beyond)

-- ---- one event more
pub held_more : (p : ℕ) (before : List EventRow) (was : List Held) (rows : List EventRow) (row : EventRow)
    → held_from p before was (rows ++ row ∷ []) ≡ next_held p (before ++ rows) (held_from p before was rows) row
held_more p before was [] row = ap (λ (l : List EventRow). next_held p l was row) (sym (append-nil before))
held_more p before was (r ∷ rows) row =
    held_more p (before ++ r ∷ []) (next_held p before was r) rows row
    ∙ ap (λ (l : List EventRow). next_held p l (held_from p (before ++ r ∷ []) (next_held p before was r) rows) row)
    (append_assoc before (r ∷ []) rows)

pub left_none : (p : ℕ) (before : List EventRow) (row : EventRow) → is_of p row ≡ false → left_by p before row ≡ []
left_none p before row other =
    ap (λ (b : Bool). if b && may_wait (shown (has_ended p before) row.entry.event row.entry.answer)
    then record { interval = interval_behind p (before ++ row ∷ []); fresh = row.fresh; x = row.entry.at.x } ∷ [] else []) other

pub left_own : (p : ℕ) (before : List EventRow) (row : EventRow) → is_of p row ≡ true
    → left_by p before row
    ≡ (if may_wait (shown (has_ended p before) row.entry.event row.entry.answer)
    then record { interval = interval_behind p (before ++ row ∷ []); fresh = row.fresh; x = row.entry.at.x } ∷ [] else [])
left_own p before row own =
    ap (λ (b : Bool). if b && may_wait (shown (has_ended p before) row.entry.event row.entry.answer)
    then record { interval = interval_behind p (before ++ row ∷ []); fresh = row.fresh; x = row.entry.at.x } ∷ [] else []) own

-- ---- what was found
pub some_or : {T : Type 0} (a b : Option T) → is_some (option_or a b) ≡ (is_some a || is_some b)
some_or None b = refl
some_or (Some x) b = refl
