-- What is released was made before, elsewhere.
use Rattle.std.proofs.Common.{◌≡◌, ◌∙◌, ◌<◌, ◌≤◌, ◌==◌, ◌&&◌, ◌||◌, ◌⊎◌, ℕ, Bool, true, false, not, if◌then◌else◌, List, [], ◌∷◌, ◌++◌, refl, ap, sym, subst, inl, inr, append_assoc}
use Rattle.std.specs.List.{list_any}
use Rattle.std.specs.Prelude.{nat_le, nat_lt}
use Rattle.std.proofs.lemmas.Bool.{eq-eqb, ltb-true}
use Rattle.std.proofs.lemmas.Bool.Decides.{leb_tells}
use Rattle.std.proofs.lemmas.List.{append-nil}
use Rattle.om_picture.specs.Fates.{EventRow, has_ended, highest, interval_behind, is_of}
use Rattle.om_picture.specs.Held.{Held, WereHeld, covered_by, held_behind, held_from, is_elsewhere, left_behind, left_by, may_wait, next_held, releases}
use Rattle.om_sheet.specs.Shows.{is_finished, shown}
use Rattle.om_picture.proofs.HeldLemmas.{covered_first, covered_none}

-- an event of the process left this
record Left (p : ℕ) (rows : List EventRow) (held : Held) : Type 0 where
  before : List EventRow
  row : EventRow
  after : List EventRow
  split : rows ≡ before ++ row ∷ after
  own : is_of p row ≡ true
  is : held ≡ record { interval = interval_behind p (before ++ row ∷ []); fresh = row.fresh; x = row.entry.at.x }

AllLeft : ℕ → List EventRow → List Held → Type 0
AllLeft p rows [] = Unit {0}
AllLeft p rows (held ∷ more) = Left p rows held × AllLeft p rows more

left_more : (p : ℕ) (rows more : List EventRow) (held : Held) → Left p rows held → Left p (rows ++ more) held
left_more p rows more held left = record {
  before = left.before;
  row = left.row;
  after = left.after ++ more;
  split = ap (λ (l : List EventRow). l ++ more) left.split ∙ append_assoc left.before (left.row ∷ left.after) more;
  own = left.own;
  is = left.is;
}

all_more : (p : ℕ) (rows more : List EventRow) (held : List Held) → AllLeft p rows held → AllLeft p (rows ++ more) held
unfolding AllLeft
all_more p rows more [] left = tt
all_more p rows more (h ∷ held) left = (left_more p rows more h left.0, all_more p rows more held left.1)

all_both : (p : ℕ) (rows : List EventRow) (a b : List Held) → AllLeft p rows a → AllLeft p rows b → AllLeft p rows (a ++ b)
unfolding AllLeft
all_both p rows [] b left right = right
all_both p rows (h ∷ a) b left right = (left.0, all_both p rows a b left.1 right)

one_behind : (t : Bool) (p : ℕ) (rows : List EventRow) (h : Held) (held rest : List Held) → Left p rows h → AllLeft p rows held
    → AllLeft p rows rest → AllLeft p rows (if t then rest else h ∷ held)
unfolding AllLeft
one_behind true p rows h held rest first left behind = behind
one_behind false p rows h held rest first left behind = (first, left)

all_behind : (p place : ℕ) (rows : List EventRow) (held : List Held) → AllLeft p rows held → AllLeft p rows (left_behind place held)
unfolding AllLeft
all_behind p place rows [] left = tt
all_behind p place rows (h ∷ held) left =
    one_behind (nat_le h.interval place) p rows h held (left_behind place held) left.0 left.1 (all_behind p place rows held left.1)

one_own : (o w : Bool) (p : ℕ) (before : List EventRow) (row : EventRow) → is_of p row ≡ o
    → AllLeft p (before ++ row ∷ []) (if o && w
    then record { interval = interval_behind p (before ++ row ∷ []); fresh = row.fresh; x = row.entry.at.x } ∷ [] else [])
unfolding AllLeft
one_own true true p before row own = (record { before = before; row = row; after = []; split = refl; own = own; is = refl }, tt)
one_own true false p before row own = tt
one_own false w p before row own = tt

all_own : (p : ℕ) (before : List EventRow) (row : EventRow) → AllLeft p (before ++ row ∷ []) (left_by p before row)
all_own p before row =
    one_own (is_of p row) (may_wait (shown (has_ended p before) row.entry.event row.entry.answer)) p before row refl

all_now : (p : ℕ) (before : List EventRow) (was : List Held) (row : EventRow) → AllLeft p before was
    → AllLeft p (before ++ row ∷ []) (was ++ left_by p before row)
all_now p before was row left =
    all_both p (before ++ row ∷ []) was (left_by p before row) (all_more p before (row ∷ []) was left) (all_own p before row)

none_if : (finished : Bool) (p : ℕ) (rows : List EventRow) (held : List Held) → AllLeft p rows held
    → AllLeft p rows (if finished then [] else held)
unfolding AllLeft
none_if true p rows held left = tt
none_if false p rows held left = left

all_from : (p : ℕ) (before : List EventRow) (was : List Held) (rows : List EventRow) → AllLeft p before was
    → AllLeft p (before ++ rows) (held_from p before was rows)
all_from p before was [] left = subst (λ (l : List EventRow). AllLeft p l was) (sym (append-nil before)) left
all_from p before was (row ∷ rows) left =
    subst (λ (l : List EventRow). AllLeft p l (held_from p (before ++ row ∷ []) (next_held p before was row) rows))
    (append_assoc before (row ∷ []) rows)
    (all_from p (before ++ row ∷ []) (next_held p before was row) rows
    (none_if (is_finished row.entry.answer) p (before ++ row ∷ []) (left_behind (highest p 0 (before ++ row ∷ [])) (was ++ left_by p before row))
    (all_behind p (highest p 0 (before ++ row ∷ [])) (before ++ row ∷ []) (was ++ left_by p before row) (all_now p before was row left))))

all_held : (p : ℕ) (rows : List EventRow) → AllLeft p rows (held_behind p rows)
unfolding AllLeft
all_held p rows = all_from p [] [] rows tt

-- ---- what is found among it
one_true : (a b : Bool) → (a || b) ≡ true → (a ≡ true) ⊎ (b ≡ true)
one_true true b h = inl refl
one_true false b h = inr h

two_true : (a b : Bool) → (a && b) ≡ true → (a ≡ true) × (b ≡ true)
two_true true b h = (refl, h)
two_true false b h = let e : false ≡ true = h in cc

not_true : (b : Bool) → not b ≡ true → b ≡ false
not_true true h = let e : false ≡ true = h in cc
not_true false h = refl

here_held : (p x place : ℕ) (rows : List EventRow) (held : Held) → Left p rows held → held.interval ≤ place → is_elsewhere x held ≡ true
    → WereHeld p rows x place
here_held p x place rows held left within found =
    let parts = two_true (nat_lt 0 held.fresh) (not (held.x == x)) found in
    let fresh : held.fresh ≡ left.row.fresh = ap (λ (h : Held). h.fresh) left.is in
    let at : held.x ≡ left.row.entry.at.x = ap (λ (h : Held). h.x) left.is in
    let interval : held.interval ≡ interval_behind p (left.before ++ left.row ∷ []) = ap (λ (h : Held). h.interval) left.is in
    record {
      before = left.before;
      row = left.row;
      after = left.after;
      split = left.split;
      own = left.own;
      handed = subst (λ (n : ℕ). 0 < n) fresh (ltb-true 0 held.fresh parts.0);
      elsewhere = λ (same : left.row.entry.at.x ≡ x).
          let is : (held.x == x) ≡ true = eq-eqb held.x x (at ∙ same) in
          let e : false ≡ true = sym (not_true (held.x == x) parts.1) ∙ is in
          cc;
      within = subst (λ (n : ℕ). n ≤ place) interval within;
    }

any_held : (p x place : ℕ) (rows : List EventRow) (held : List Held) → AllLeft p rows held
    → list_any (is_elsewhere x) (covered_by place held) ≡ true → WereHeld p rows x place
unfolding AllLeft
any_held p x place rows [] left found = let e : false ≡ true = found in cc
any_held p x place rows (h ∷ held) left found = elim (leb_tells h.interval place) [
  | inl le ↦
      let first : (is_elsewhere x h || list_any (is_elsewhere x) (covered_by place held)) ≡ true =
      ap (λ (l : List Held). list_any (is_elsewhere x) l) (sym (covered_first place h held le.1)) ∙ found in
      elim (one_true (is_elsewhere x h) (list_any (is_elsewhere x) (covered_by place held)) first) [
        | inl this ↦ here_held p x place rows h left.0 le.1 this
        | inr rest ↦ any_held p x place rows held left.1 rest
      ]
  | inr beyond ↦
      let e : false ≡ true = ap (λ (l : List Held). list_any (is_elsewhere x) l) (sym (covered_none place h held beyond.1)) ∙ found in
      cc
]

pub released_were_held : (p : ℕ) (before : List EventRow) (row : EventRow) → releases p before row ≡ true
    → WereHeld p (before ++ row ∷ []) row.entry.at.x (highest p 0 (before ++ row ∷ []))
released_were_held p before row found =
    any_held p row.entry.at.x (highest p 0 (before ++ row ∷ [])) (before ++ row ∷ []) (held_behind p before ++ left_by p before row)
    (all_now p before (held_behind p before) row (all_held p before)) found
