-- Checkpoints as they are found, one more at a time.
use Rattle.std.proofs.Common.{◌≡◌, ◌⊎◌, inl, inr, ℕ, ◌+◌, ◌<◌, ◌≤◌, List, [], ◌∷◌, ◌++◌, sym, ap, ◌∙◌, arith, subst, reverse, append_assoc}
use Rattle.std.specs.Prelude.{Option, None, Some, IsSome}
use Rattle.std.specs.FinMap.{get}
use Rattle.std.proofs.lemmas.List.{append-nil, reverse-append}
use Rattle.om_stable.specs.Content.{Content, IsFree}
use Rattle.om_process.specs.Stored.{anyone, CanReplay}
use Rattle.om_process.specs.declared.limits.TheConstants.{LAST_INTERVAL}
use Rattle.om_look.specs.steps.Ranges.{up_to}
use Rattle.om_look.specs.declared.gathering.Found.{Found}
use Rattle.om_look.specs.steps.Found.{AreFound, AreOrdered, Finds, IsFound, LiesBehind, LiesBehindOne, before, behind, left}
use Rattle.om_look.proofs.Below.{behind_before, left_row, none_left}

abbrev Row : Type 0
Row = ℕ × List ℕ

weaker : (low lower : ℕ) (fs : List Found) → lower ≤ low → AreOrdered low fs → AreOrdered lower fs
weaker low lower [] le ordered = tt
weaker low lower (f ∷ fs) le ordered =
    let above : low ≤ f.interval = ordered.0 in (omega arith, ordered.1, ordered.2)

is_some_none : (o : Option (List ℕ)) → IsSome o → o ≡ None → ⊥
is_some_none None some none = cc
is_some_none (Some bytes) some none = cc

le_cases : (a b : ℕ) → (a ≤ b) ⊎ (b + 1 ≤ a)
le_cases a b = grind arith

under : (a b : ℕ) → (a ≤ b) ⊎ (b < a)
under a b = grind arith

-- there is no checkpoint below
no_more : (held : Content) (to : ℕ) (fs : List Found) → AreFound held (Some to) fs → IsFree held.checkpoints 0 (to + 1) → AreFound held None fs
no_more held to fs a free = record {
  rows = a.rows;
  are_of = a.are_of;
  all = a.all ∙ ap (λ (rows : List Row). rows ++ a.rows) (none_left held to free);
  ordered = weaker (to + 1) 0 fs (omega arith) a.ordered;
  replayed = a.replayed;
  covered = λ y low high can. either y high can (le_cases y to);
}
  where
    either : (y : ℕ) → y ≤ LAST_INTERVAL → CanReplay anyone held y → (y ≤ to) ⊎ (to + 1 ≤ y) → LiesBehindOne fs y
    either y high can (inl le) =
        let e = can.3.begins.effective in
        let within : can.3.checkpoint.head.interval ≤ y = e.within in
        absurd (is_some_none (get held.checkpoints can.3.checkpoint.head.interval) e.has (free can.3.checkpoint.head.interval (omega arith) (omega arith)))
    either y high can (inr lt) = a.covered y lt high can

-- one is
one_more : (held : Content) (to : ℕ) (row : Row) (f : Found) (fs : List Found) → AreFound held (Some to) fs → IsFound held to row f → AreFound held (before row.0) (f ∷ fs)
one_more held to row f fs a is =
    let at : behind (before row.0) ≡ row.0 = behind_before row.0 in
    let interval : f.interval ≡ row.0 = is.interval in
    let above : row.0 ≤ f.stop = is.stops.above in
    record {
      rows = row ∷ a.rows;
      are_of = (is.line, a.are_of);
      all = a.all ∙ ap (λ (rows : List Row). rows ++ a.rows) (left_row held to row is.effective is.stands) ∙ append_assoc (left held (before row.0)) (row ∷ []) a.rows;
      ordered = (omega arith, omega arith, weaker (to + 1) f.stop fs is.stops.within a.ordered);
      replayed = λ y lies. replays y lies;
      covered = λ y from high can. either y (low y from at) high can (le_cases y to);
    }
  where
    low : (y : ℕ) {x z : ℕ} → x ≤ y → x ≡ z → z ≤ y
    low y le same = omega arith

    replays : (y : ℕ) → LiesBehindOne (f ∷ fs) y → CanReplay anyone held y
    replays y (inl here) = is.stops.replayed y (low y here.0 is.interval) here.1
    replays y (inr later) = a.replayed y later

    lies : (y : ℕ) → row.0 ≤ y → y < f.stop → f.interval ≡ row.0 → LiesBehind y f
    lies y le lt same = (omega arith, lt)

    within : (y : ℕ) → row.0 ≤ y → y ≤ to → CanReplay anyone held y → (f.stop ≤ y) ⊎ (y < f.stop) → LiesBehindOne (f ∷ fs) y
    within y from le can (inl beyond) = absurd (is.stops.no_more y beyond le can)
    within y from le can (inr lt) = inl (lies y from lt is.interval)

    either : (y : ℕ) → row.0 ≤ y → y ≤ LAST_INTERVAL → CanReplay anyone held y → (y ≤ to) ⊎ (to + 1 ≤ y) → LiesBehindOne (f ∷ fs) y
    either y from high can (inl le) = within y from le can (under f.stop y)
    either y from high can (inr lt) = inr (a.covered y lt high can)

pub found_next : (held : Content) (to : ℕ) (next : Option ℕ) (old new : List Found) → AreFound held (Some to) (reverse old) → Finds held to old next new → AreFound held next (reverse new)
found_next held to next old new a (inl none) =
    subst (λ n. AreFound held n (reverse new)) (sym none.1) (subst (λ (fs : List Found). AreFound held None (reverse fs)) (sym none.2) (no_more held to (reverse old) a none.0))
found_next held to next old new a (inr one) =
    let turned : reverse (old ++ one.1 ∷ []) ≡ one.1 ∷ reverse old = reverse-append old (one.1 ∷ []) in
    subst (λ n. AreFound held n (reverse new)) (sym one.3)
    (subst (AreFound held (before one.0.0)) (sym (ap reverse one.4 ∙ turned)) (one_more held to one.0 one.1 (reverse old) a one.2))

pub nothing_found : (held : Content) → AreFound held (Some LAST_INTERVAL) []
nothing_found held = record {
  rows = [];
  are_of = tt;
  all = sym (append-nil (up_to held.checkpoints LAST_INTERVAL));
  ordered = tt;
  replayed = λ y none. absurd none;
  covered = λ y low high can. absurd (omega arith);
}
