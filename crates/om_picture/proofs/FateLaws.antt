-- What is cut and what is stored, told by the event that cut it.
use Rattle.std.proofs.Common.{◌≡◌, ◌∙◌, ◌<◌, ◌≤◌, ◌||◌, ◌&&◌, ◌↔◌, ◌⊎◌, inl, inr, ℕ, Bool, true, false, not, if◌then◌else◌, List, [], ◌∷◌, ◌++◌, refl, ap, sym, subst, arith, append_assoc}
use Rattle.std.specs.List.{fold}
use Rattle.std.specs.Prelude.{nat_le}
use Rattle.std.proofs.Math.Bool.{or-false}
use Rattle.std.proofs.lemmas.Bool.{false≢true, le-leb, leb-true, or_parts}
use Rattle.std.proofs.lemmas.Bool.Decides.{leb_tells}
use Rattle.std.proofs.lemmas.List.{append-nil}
use Rattle.om_picture.specs.Fates.{EventRow, IsCutBy, IsCutWith, IsSavedBy, Progress, cuts, highest, is_cut, is_saved, next_place, next_progress}
use Rattle.om_sheet.specs.Shows.{is_finished}

-- a round that cuts
cuts_beyond : (finished : Bool) (i place : ℕ) → (finished && not (nat_le i place)) ≡ true → (finished ≡ true) × (place < i)
cuts_beyond false i place e = absurd (false≢true e)
cuts_beyond true i place e = elim (leb_tells i place) [
  | inl le ↦ absurd (false≢true (sym (ap not le.0) ∙ e))
  | inr lt ↦ (refl, lt.1)
]

beyond_cuts : (finished : Bool) (i place : ℕ) → finished ≡ true → place < i → (finished && not (nat_le i place)) ≡ true
beyond_cuts finished i place is less = ap (λ (b : Bool). b && not (nat_le i place)) is ∙ elim (leb_tells i place) [
  | inl le ↦ (let h = le.1 in absurd (omega arith))
  | inr lt ↦ ap not lt.0
]

or_true : (a b : Bool) → (a || b) ≡ true → (a ≡ true) ⊎ (b ≡ true)
or_true true b e = inl refl
or_true false b e = inr e

or_second : (a b : Bool) → b ≡ true → (a || b) ≡ true
or_second true b e = refl
or_second false b e = e

or_first : (a b : Bool) → a ≡ true → (a || b) ≡ true
or_first a b e = ap (λ (x : Bool). x || b) e

cut_by : (p i was : ℕ) (rows : List EventRow) → is_cut p i was rows ≡ true → IsCutBy p i was rows
cut_by p i was [] e = absurd (false≢true e)
cut_by p i was (row ∷ rows) e =
    elim (or_true (cuts i (next_place p was row) row) (is_cut p i (next_place p was row) rows) e) [
      | inl here ↦
          let parts = cuts_beyond (is_finished row.entry.answer) i (next_place p was row) here in
          record { before = []; row = row; after = rows; split = refl; finished = parts.0; beyond = parts.1 }
      | inr there ↦
          let by = cut_by p i (next_place p was row) rows there in
          record {
            before = row ∷ by.before;
            row = by.row;
            after = by.after;
            split = ap (λ (l : List EventRow). row ∷ l) by.split;
            finished = by.finished;
            beyond = by.beyond;
          }
    ]

by_cut : (p i was : ℕ) (before : List EventRow) (row : EventRow) (after : List EventRow) → is_finished row.entry.answer ≡ true
    → highest p was (before ++ row ∷ []) < i → is_cut p i was (before ++ row ∷ after) ≡ true
by_cut p i was [] row after finished beyond =
    or_first (cuts i (next_place p was row) row) (is_cut p i (next_place p was row) after)
    (beyond_cuts (is_finished row.entry.answer) i (next_place p was row) finished beyond)
by_cut p i was (x ∷ before) row after finished beyond =
    or_second (cuts i (next_place p was x) x) (is_cut p i (next_place p was x) (before ++ row ∷ after))
    (by_cut p i (next_place p was x) before row after finished beyond)

pub cut_where : (p i was : ℕ) (rows : List EventRow) → is_cut p i was rows ≡ true ↔ IsCutBy p i was rows
cut_where p i was rows = (
  cut_by p i was rows,
  λ (by : IsCutBy p i was rows).
      subst (λ (l : List EventRow). is_cut p i was l ≡ true) (sym by.split) (by_cut p i was by.before by.row by.after by.finished by.beyond),
)

-- ---- what is saved
saved_here : (b : Bool) (here there : Bool) → b ≡ true → (if b then here else there) ≡ here
saved_here b here there is = ap (λ (x : Bool). if x then here else there) is

saved_there : (b : Bool) (here there : Bool) → b ≡ false → (if b then here else there) ≡ there
saved_there b here there is = ap (λ (x : Bool). if x then here else there) is

-- one event more before those that cut it, or not
ends_later : (p i place : ℕ) (row : EventRow) (first after : List EventRow) → cuts i (next_place p place row) row ≡ false
    → ((after ≡ []) × (is_cut p i (next_place p place row) first ≡ false)) ⊎ IsCutWith p i (next_place p place row) first
    → ((after ≡ []) × (is_cut p i place (row ∷ first) ≡ false)) ⊎ IsCutWith p i place (row ∷ first)
ends_later p i place row first after is (inl all) =
    inl (all.0, ap (λ (b : Bool). b || is_cut p i (next_place p place row) first) is ∙ all.1)
ends_later p i place row first after is (inr c) = inr (record {
  before = row ∷ c.before;
  row = c.row;
  split = ap (λ (l : List EventRow). row ∷ l) c.split;
  not_cut = ap (λ (b : Bool). b || is_cut p i (next_place p place row) c.before) is ∙ c.not_cut;
  cut = ap (λ (b : Bool). b || is_cut p i (next_place p place row) first) is ∙ c.cut;
})

saved_first : (p i place : ℕ) (was : Progress) (row : EventRow) (rows : List EventRow) → cuts i (next_place p place row) row ≡ true
    → is_saved p i place was (row ∷ rows) ≡ true → IsSavedBy p i place was (row ∷ rows)
saved_first p i place was row rows is e = record {
  first = row ∷ [];
  after = rows;
  split = refl;
  ends = inr (record {
    before = [];
    row = row;
    split = refl;
    not_cut = refl;
    cut = or_first (cuts i (next_place p place row) row) (is_cut p i (next_place p place row) []) is;
  });
  safe = leb-true i (next_progress p was row).safe
      (sym (saved_here (cuts i (next_place p place row) row) (nat_le i (next_progress p was row).safe)
      (is_saved p i (next_place p place row) (next_progress p was row) rows) is) ∙ e);
}

saved_later : (p i place : ℕ) (was : Progress) (row : EventRow) (rows : List EventRow) → cuts i (next_place p place row) row ≡ false
    → IsSavedBy p i (next_place p place row) (next_progress p was row) rows → IsSavedBy p i place was (row ∷ rows)
saved_later p i place was row rows is by = record {
  first = row ∷ by.first;
  after = by.after;
  split = ap (λ (l : List EventRow). row ∷ l) by.split;
  ends = ends_later p i place row by.first by.after is by.ends;
  safe = by.safe;
}

-- it is one of the two
saved_either : (p i place : ℕ) (was : Progress) (row : EventRow) (rows : List EventRow) (b : Bool) → cuts i (next_place p place row) row ≡ b
    → is_saved p i place was (row ∷ rows) ≡ true
    → (is_saved p i (next_place p place row) (next_progress p was row) rows ≡ true
    → IsSavedBy p i (next_place p place row) (next_progress p was row) rows) → IsSavedBy p i place was (row ∷ rows)
saved_either p i place was row rows true is e by = saved_first p i place was row rows is e
saved_either p i place was row rows false is e by =
    saved_later p i place was row rows is (by
    (sym (saved_there (cuts i (next_place p place row) row) (nat_le i (next_progress p was row).safe)
    (is_saved p i (next_place p place row) (next_progress p was row) rows) is) ∙ e))

saved_by : (p i place : ℕ) (was : Progress) (rows : List EventRow) → is_saved p i place was rows ≡ true → IsSavedBy p i place was rows
saved_by p i place was [] e = record { first = []; after = []; split = refl; ends = inl (refl, refl); safe = leb-true i was.safe e }
saved_by p i place was (row ∷ rows) e =
    saved_either p i place was row rows (cuts i (next_place p place row) row) refl e
    (saved_by p i (next_place p place row) (next_progress p was row) rows)

saved_whole : (p i place : ℕ) (was : Progress) (rows : List EventRow) → is_cut p i place rows ≡ false
    → i ≤ (fold (next_progress p) was rows).safe → is_saved p i place was rows ≡ true
saved_whole p i place was [] kept safe = le-leb i was.safe safe
saved_whole p i place was (row ∷ rows) kept safe =
    let parts = or_parts (cuts i (next_place p place row) row) (is_cut p i (next_place p place row) rows) kept in
    saved_there (cuts i (next_place p place row) row) (nat_le i (next_progress p was row).safe)
    (is_saved p i (next_place p place row) (next_progress p was row) rows) parts.0
    ∙ saved_whole p i (next_place p place row) (next_progress p was row) rows parts.1 safe

saved_cut : (p i place : ℕ) (was : Progress) (before : List EventRow) (row : EventRow) (after : List EventRow)
    → is_cut p i place before ≡ false → is_cut p i place (before ++ row ∷ []) ≡ true
    → i ≤ (fold (next_progress p) was (before ++ row ∷ [])).safe → is_saved p i place was (before ++ row ∷ after) ≡ true
saved_cut p i place was [] row after kept cut safe =
    saved_here (cuts i (next_place p place row) row) (nat_le i (next_progress p was row).safe)
    (is_saved p i (next_place p place row) (next_progress p was row) after)
    (sym (or-false (cuts i (next_place p place row) row)) ∙ cut)
    ∙ le-leb i (next_progress p was row).safe safe
saved_cut p i place was (x ∷ before) row after kept cut safe =
    let parts = or_parts (cuts i (next_place p place x) x) (is_cut p i (next_place p place x) before) kept in
    let there : is_cut p i (next_place p place x) (before ++ row ∷ []) ≡ true =
    sym (ap (λ (b : Bool). b || is_cut p i (next_place p place x) (before ++ row ∷ [])) parts.0) ∙ cut in
    saved_there (cuts i (next_place p place x) x) (nat_le i (next_progress p was x).safe)
    (is_saved p i (next_place p place x) (next_progress p was x) (before ++ row ∷ after)) parts.0
    ∙ saved_cut p i (next_place p place x) (next_progress p was x) before row after parts.1 there safe

by_saved : (p i place : ℕ) (was : Progress) (rows first after : List EventRow) → rows ≡ first ++ after
    → ((after ≡ []) × (is_cut p i place first ≡ false)) ⊎ IsCutWith p i place first
    → i ≤ (fold (next_progress p) was first).safe → is_saved p i place was rows ≡ true
by_saved p i place was rows first after split (inl all) safe =
    let same : rows ≡ first = split ∙ ap (λ (l : List EventRow). first ++ l) all.0 ∙ append-nil first in
    subst (λ (l : List EventRow). is_saved p i place was l ≡ true) (sym same) (saved_whole p i place was first all.1 safe)
by_saved p i place was rows first after split (inr c) safe =
    let same : rows ≡ c.before ++ c.row ∷ after =
    split ∙ ap (λ (l : List EventRow). l ++ after) c.split ∙ append_assoc c.before (c.row ∷ []) after in
    subst (λ (l : List EventRow). is_saved p i place was l ≡ true) (sym same)
    (saved_cut p i place was c.before c.row after c.not_cut
    (subst (λ (l : List EventRow). is_cut p i place l ≡ true) c.split c.cut)
    (subst (λ (l : List EventRow). i ≤ (fold (next_progress p) was l).safe) c.split safe))

pub saved_where : (p i place : ℕ) (was : Progress) (rows : List EventRow) → is_saved p i place was rows ≡ true ↔ IsSavedBy p i place was rows
saved_where p i place was rows = (
  saved_by p i place was rows,
  λ (by : IsSavedBy p i place was rows). by_saved p i place was rows by.first by.after by.split by.ends by.safe,
)
