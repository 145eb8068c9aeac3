-- Ranges to which the intervals behind one checkpoint more are added.
use Rattle.std.proofs.Common.{◌≡◌, ◌≢◌, ◌⊎◌, inl, inr, ℕ, ◌+◌, ◌<◌, ◌≤◌, List, [], ◌∷◌, ◌++◌, sym, arith, subst}
use Rattle.om_look.specs.Spans.{AreApart, IsCovered}
use Rattle.om_look.specs.steps.Ranges.{LiesIn}
use Rattle.om_look.specs.declared.gathering.Found.{Found}
use Rattle.om_look.specs.declared.spans.Span.{Span}
use Rattle.om_look.specs.steps.Adding.{Adds, span}
use Rattle.om_look.specs.steps.Found.{AreOrdered, LiesBehind, LiesBehindOne}

-- each range stops below a bound
abbrev pub StopBelow : ℕ → List Span → Type 0
StopBelow b [] = Unit {0}
StopBelow b (s ∷ ss) = (s.stop < b) × StopBelow b ss

below_weaker : (b d : ℕ) (ss : List Span) → b ≤ d → StopBelow b ss → StopBelow d ss
below_weaker b d [] le below = tt
below_weaker b d (s ∷ ss) le below = let here : s.stop < b = below.0 in (omega arith, below_weaker b d ss le below.1)

below_more : (b : ℕ) (ss : List Span) (s : Span) → StopBelow b ss → s.stop < b → StopBelow b (ss ++ s ∷ [])
below_more b [] s below lt = (lt, tt)
below_more b (x ∷ ss) s below lt = (below.0, below_more b ss s below.1 lt)

-- ---- a range at the end
covered_more : (ss : List Span) (s : Span) (y : ℕ) → IsCovered ss y ⊎ LiesIn y s → IsCovered (ss ++ s ∷ []) y
covered_more [] s y (inl none) = absurd none
covered_more [] s y (inr here) = inl here
covered_more (x ∷ ss) s y (inl (inl here)) = inl here
covered_more (x ∷ ss) s y (inl (inr later)) = inr (covered_more ss s y (inl later))
covered_more (x ∷ ss) s y (inr last) = inr (covered_more ss s y (inr last))

covered_either : (ss : List Span) (s : Span) (y : ℕ) → IsCovered (ss ++ s ∷ []) y → IsCovered ss y ⊎ LiesIn y s
covered_either [] s y (inl here) = inr here
covered_either [] s y (inr none) = absurd none
covered_either (x ∷ ss) s y (inl here) = inl (inl here)
covered_either (x ∷ ss) s y (inr later) = later_either (covered_either ss s y later)
  where
    later_either : IsCovered ss y ⊎ LiesIn y s → IsCovered (x ∷ ss) y ⊎ LiesIn y s
    later_either (inl there) = inl (inr there)
    later_either (inr last) = inr last

apart_more : (low : ℕ) (ss : List Span) (s : Span) → AreApart low ss → StopBelow s.first ss → low ≤ s.first → s.first < s.stop → AreApart low (ss ++ s ∷ [])
apart_more low [] s apart below le some = (le, some, tt)
apart_more low (x ∷ ss) s apart below le some = let here : x.stop < s.first = below.0 in (apart.0, apart.1, apart_more (x.stop + 1) ss s apart.2 below.1 (omega arith) some)

-- what holds of the ranges before the last, and of the last
record Parted (low : ℕ) (ss : List Span) (s : Span) : Type 0 where
  apart : AreApart low ss
  below : StopBelow s.first ss
  above : low ≤ s.first
  some : s.first < s.stop

parted : (low : ℕ) (ss : List Span) (s : Span) → AreApart low (ss ++ s ∷ []) → Parted low ss s
parted low [] s apart = record { apart = tt; below = tt; above = apart.0; some = apart.1 }
parted low (x ∷ ss) s apart =
    let rest = parted (x.stop + 1) ss s apart.2 in
    let above : x.stop + 1 ≤ s.first = rest.above in
    let first : low ≤ x.first = apart.0 in
    let some : x.first < x.stop = apart.1 in
    record { apart = (apart.0, apart.1, rest.apart); below = (omega arith, rest.below); above = omega arith; some = rest.some }

-- ---- the ranges so far are of what is found but for the rest
pub record SoFar (all : List Found) (ss : List Span) (rest : List Found) : Type 0 where
  pub bound : ℕ
  pub ordered : AreOrdered bound rest
  pub below : StopBelow (bound + 1) ss
  pub apart : AreApart 0 ss
  pub covered : (y : ℕ) → IsCovered ss y ⊎ LiesBehindOne rest y → LiesBehindOne all y
  pub complete : (y : ℕ) → LiesBehindOne all y → IsCovered ss y ⊎ LiesBehindOne rest y

pub none_so_far : (all : List Found) → AreOrdered 0 all → SoFar all [] all
none_so_far all ordered = record {
  bound = 0;
  ordered = ordered;
  below = tt;
  apart = tt;
  covered = λ y h. elim h [ inl none ↦ absurd none | inr there ↦ there ];
  complete = λ y h. inr h;
}

-- the new ranges are the old ones and the intervals behind one more
record IsMore (ss : List Span) (first stop : ℕ) (new : List Span) : Type 0 where
  apart : AreApart 0 new
  below : StopBelow (stop + 1) new
  covered : (y : ℕ) → IsCovered new y → IsCovered ss y ⊎ ((first ≤ y) × (y < stop))
  complete : (y : ℕ) → IsCovered ss y ⊎ ((first ≤ y) × (y < stop)) → IsCovered new y

more : (bound first stop : ℕ) (ss new : List Span) → bound ≤ first → first ≤ stop → StopBelow (bound + 1) ss → AreApart 0 ss → Adds ss first stop new → IsMore ss first stop new
more bound first stop ss new low high below apart (inl none) =
    let empty : stop ≤ first = none.0 in
    subst (IsMore ss first stop) (sym none.1) (record {
      apart = apart;
      below = below_weaker (bound + 1) (stop + 1) ss (omega arith) below;
      covered = λ y h. inl h;
      complete = λ y h. elim h [ inl there ↦ there | inr lies ↦ absurd (no y lies) ];
    })
  where
    no : (y : ℕ) → (first ≤ y) × (y < stop) → ⊥
    no y lies = let a : first ≤ y = lies.0 in let b : y < stop = lies.1 in let e : stop ≤ first = none.0 in omega arith
more bound first stop ss new low high below apart (inr (inl one)) =
    let some : first < stop = one.0 in
    subst (IsMore ss first stop) (sym one.2) (subst (λ ss. IsMore ss first stop (span first stop ∷ [])) (sym one.1) (record {
      apart = (omega arith, some, tt);
      below = (omega arith, tt);
      covered = λ y h. elim h [ inl here ↦ inr here | inr none ↦ absurd none ];
      complete = λ y h. elim h [ inl none ↦ absurd none | inr here ↦ inl here ];
    }))
more bound first stop ss new low high below apart (inr (inr (inl joined))) =
    let some : first < stop = joined.0 in
    let front = joined.1 in
    let last = joined.2 in
    let at : last.stop ≡ first = joined.4 in
    let parts = parted 0 front last (subst (AreApart 0) joined.3 apart) in
    let within : last.first < last.stop = parts.some in
    subst (IsMore ss first stop) (sym joined.5) (subst (λ ss. IsMore ss first stop (front ++ span last.first stop ∷ [])) (sym joined.3) (record {
      apart = apart_more 0 front (span last.first stop) parts.apart parts.below parts.above (omega arith);
      below = below_more (stop + 1) front (span last.first stop) (below_weaker last.first (stop + 1) front (omega arith) parts.below) (omega arith);
      covered = λ y h. elim (covered_either front (span last.first stop) y h) [
        | inl there ↦ inl (covered_more front last y (inl there))
        | inr lies ↦ split y front last at lies (under y first)
      ];
      complete = λ y h. covered_more front (span last.first stop) y (elim h [
        | inl there ↦ old_one y front last at within (covered_either front last y there)
        | inr lies ↦ inr (new_one y front last at within lies)
      ]);
    }))
  where
    under : (a b : ℕ) → (a < b) ⊎ (b ≤ a)
    under a b = grind arith

    low_stop : (y : ℕ) (last : Span) → last.stop ≡ first → y < first → y < last.stop
    low_stop y last at lt = omega arith

    split : (y : ℕ) (front : List Span) (last : Span) → last.stop ≡ first → LiesIn y (span last.first stop) → (y < first) ⊎ (first ≤ y) → IsCovered (front ++ last ∷ []) y ⊎ ((first ≤ y) × (y < stop))
    split y front last at lies (inl lt) = inl (covered_more front last y (inr (lies.0, low_stop y last at lt)))
    split y front last at lies (inr le) = inr (le, lies.1)

    old_one : (y : ℕ) (front : List Span) (last : Span) → last.stop ≡ first → last.first < last.stop → IsCovered front y ⊎ LiesIn y last → IsCovered front y ⊎ LiesIn y (span last.first stop)
    old_one y front last at within (inl there) = inl there
    old_one y front last at within (inr lies) = let b : y < last.stop = lies.1 in inr (lies.0, omega arith)

    new_one : (y : ℕ) (front : List Span) (last : Span) → last.stop ≡ first → last.first < last.stop → (first ≤ y) × (y < stop) → LiesIn y (span last.first stop)
    new_one y front last at within lies = let a : first ≤ y = lies.0 in (omega arith, lies.1)
more bound first stop ss new low high below apart (inr (inr (inr after))) =
    let some : first < stop = after.0 in
    let front = after.1 in
    let last = after.2 in
    let other : last.stop ≢ first = after.4 in
    let parts = parted 0 front last (subst (AreApart 0) after.3 apart) in
    let within : last.first < last.stop = parts.some in
    let ends : last.stop < bound + 1 = last_below front last (subst (StopBelow (bound + 1)) after.3 below) in
    let before : StopBelow first ss = subst (StopBelow first) (sym after.3) (below_more first front last (below_weaker last.first first front (omega arith) parts.below) (omega arith)) in
    subst (IsMore ss first stop) (sym after.5) (record {
      apart = apart_more 0 ss (span first stop) apart before (omega arith) some;
      below = below_more (stop + 1) ss (span first stop) (below_weaker first (stop + 1) ss (omega arith) before) (omega arith);
      covered = λ y h. covered_either ss (span first stop) y h;
      complete = λ y h. covered_more ss (span first stop) y h;
    })
  where
    last_below : (xs : List Span) (x : Span) → StopBelow (bound + 1) (xs ++ x ∷ []) → x.stop < bound + 1
    last_below [] x b = b.0
    last_below (z ∷ xs) x b = last_below xs x b.1

pub one_so_far : (all : List Found) (ss new : List Span) (f : Found) (rest : List Found) → SoFar all ss (f ∷ rest) → Adds ss f.interval f.stop new → SoFar all new rest
one_so_far all ss new f rest so_far adds =
    let one = more so_far.bound f.interval f.stop ss new so_far.ordered.0 so_far.ordered.1 so_far.below so_far.apart adds in
    record {
      bound = f.stop;
      ordered = so_far.ordered.2;
      below = one.below;
      apart = one.apart;
      covered = λ y h. so_far.covered y (elim h [ inl there ↦ before y (one.covered y there) | inr later ↦ inr (inr later) ]);
      complete = λ y h. behind y one.complete (so_far.complete y h);
    }
  where
    before : (y : ℕ) → IsCovered ss y ⊎ LiesBehind y f → IsCovered ss y ⊎ LiesBehindOne (f ∷ rest) y
    before y (inl there) = inl there
    before y (inr lies) = inr (inl lies)

    behind : (y : ℕ) → ((y : ℕ) → IsCovered ss y ⊎ LiesBehind y f → IsCovered new y) → IsCovered ss y ⊎ LiesBehindOne (f ∷ rest) y → IsCovered new y ⊎ LiesBehindOne rest y
    behind y complete (inl there) = inl (complete y (inl there))
    behind y complete (inr (inl lies)) = inl (complete y (inr lies))
    behind y complete (inr (inr later)) = inr later
