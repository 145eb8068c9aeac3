use Rattle.std.proofs.Common.{◌≡◌, ℕ, ◌+◌, ◌<◌, ◌≤◌, ◌^◌, inl, inr, subst, ap, arith, IsSome, Some, is_some}
use Rattle.std.specs.FinSet as set
use Rattle.om_recover.specs.Rows.{Rows, Has, IsLawful}
use Rattle.om_recover.specs.Recoverable.{IsStable}
use Rattle.om_recover.specs.Climb.{IsLeastStable}
use Rattle.om_recover.specs.steps.Nearest.{at, IsNearestTo, IsNearestFrom, HasNoneFrom}
use Rattle.om_recover.specs.steps.Bases.{base_entries, IsNewest}
use Rattle.om_recover.specs.steps.Held.{held, AreTrees, AreIndexed, Reaches, IsRun}
use Rattle.om_recover.specs.declared.rows.trees.Base.{Base}
use Rattle.om_recover.specs.declared.rows.trees.Trees.{Trees}
use Rattle.om_recover.specs.declared.row.RowKind.TheVariants.{Checkpoint, Log}
use Rattle.om_recover.specs.declared.row.Row.{Row}
use Rattle.om_recover.proofs.BaseLemmas.{newest_at, to_newest}
use Rattle.om_recover.proofs.HeldLemmas.{some_base, has_base}
use Rattle.om_recover.proofs.StableLemmas.{has_kept, has_inserted, has_before, stable_kept}
use Rattle.om_recover.proofs.NewLemmas.{stable_at_checkpoint, stable_by_log, nothing_new_again, stable_run, stable_by_checkpoint, stable_by_new_log}
use Rattle.om_recover.proofs.ClimbLemmas.{at_most_or_more}

-- an interval is stable where the nearest checkpoint reaches it, and only there
pub stable_within : (trees : Trees) (p y x : ℕ) (base : Base) → AreIndexed trees → IsNearestTo (base_entries trees.bases) p y x base → y ≤ base.last → IsStable (held trees) p y
stable_within trees p y x base indexed near reached = (indexed.reaches p x base near.there).stable y near.within reached

pub reached_by : (trees : Trees) (p y x : ℕ) (base : Base) → AreIndexed trees → IsNearestTo (base_entries trees.bases) p y x base → IsStable (held trees) p y → y ≤ base.last
reached_by trees p y x base indexed near stable = (indexed.reaches p x base near.there).whole y near.within stable (λ other has below. near.nearest other (some_base trees p other indexed.sorted has) below)

-- above an interval that is not stable, the next stable one is that of the next checkpoint
pub checkpoint_from : (trees : Trees) (p from y : ℕ) → AreTrees trees → (IsStable (held trees) p from → ⊥) → IsStable (held trees) p y → from ≤ y
    → (x : ℕ) × IsSome (at (base_entries trees.bases) p x) × (from ≤ x) × (x ≤ y)
checkpoint_from trees p from y sorted none stable above = elim (at_most_or_more from stable.from) [
  | inl far ↦ (stable.from, some_base trees p stable.from sorted stable.checkpoint, far, stable.below)
  | inr near ↦ absurd (none (record {
    from = stable.from;
    checkpoint = stable.checkpoint;
    below = omega (arith, near);
    logged = λ z over under. stable.logged z over (omega (arith, under, above));
  }))
]

pub least_at_checkpoint : (trees : Trees) (p from x : ℕ) (base : Base) → AreTrees trees → (IsStable (held trees) p from → ⊥) → IsNearestFrom (base_entries trees.bases) p from x base → IsLeastStable (held trees) p from x
least_at_checkpoint trees p from x base sorted none near = record {
  stable = stable_at_checkpoint (held trees) p x (has_base trees p x (ap is_some near.there));
  above = near.within;
  least = λ y stable above.
      let next = checkpoint_from trees p from y sorted none stable above in
      omega (arith, near.nearest next.0 next.1 next.2, next.3);
}

pub none_from : (trees : Trees) (p from : ℕ) → AreTrees trees → (IsStable (held trees) p from → ⊥) → HasNoneFrom (base_entries trees.bases) p from → (y : ℕ) → IsStable (held trees) p y → from ≤ y → ⊥
none_from trees p from sorted none no_base y stable above =
    let next = checkpoint_from trees p from y sorted none stable above in
    no_base next.0 next.1 next.2

-- with one row more, an interval is stable that was so before, unless the row stands behind the process's checkpoint at or below it
stable_outside : (rows : Rows) (row : Row) (q x y : ℕ) → Has rows Checkpoint q x → x ≤ y → (row.pid ≡ q → x < row.interval → row.interval ≤ y → ⊥) → IsStable (set.insert rows row) q y → IsStable rows q y
stable_outside rows row q x y has above apart stable = elim (at_most_or_more stable.from x) [
  | inl early ↦ record {
    from = x;
    checkpoint = has;
    below = above;
    logged = λ z over under. has_before rows row Log q z (λ _ same at_z. apart same (omega (arith, at_z, over)) (omega (arith, at_z, under))) (stable.logged z (omega (arith, early, over)) under);
  }
  | inr late ↦ record {
    from = stable.from;
    checkpoint = has_before rows row Checkpoint q stable.from (λ _ same at_from. apart same (omega (arith, at_from, late)) (omega (arith, at_from, stable.below))) stable.checkpoint;
    below = stable.below;
    logged = λ z over under. has_before rows row Log q z (λ _ same at_z. apart same (omega (arith, at_z, late, over)) (omega (arith, at_z, under))) (stable.logged z over under);
  }
]

-- a checkpoint reaches itself
reaches_itself : (rows : Rows) (q x last : ℕ) → Has rows Checkpoint q x → Reaches rows q x last → x ≤ last
reaches_itself rows q x last has reaches = reaches.whole x (omega arith) (stable_at_checkpoint rows q x has) (λ other _ below. below)

-- no interval is stable above where the newest checkpoint reaches
pub ends_with_newest : (trees : Trees) (p x : ℕ) (base : Base) → AreIndexed trees → IsNewest trees.bases.newest.items p x base → (z : ℕ) → IsStable (held trees) p z → z ≤ base.last
ends_with_newest trees p x base indexed own z stable =
    let there : at (base_entries trees.bases) p x ≡ Some base = newest_at trees.bases p x base own in
    let reaches : Reaches (held trees) p x base.last = indexed.reaches p x base there in
    elim (at_most_or_more x z) [
      | inl above ↦ reaches.whole z above stable (λ other has _. to_newest trees.bases p x other base indexed.sorted.bases own (some_base trees p other indexed.sorted has))
      | inr below ↦ omega (arith, below, reaches_itself (held trees) p x base.last (has_base trees p x (ap is_some there)) reaches)
    ]

-- a checkpoint more: the others reach as far as they did
pub reaches_with_checkpoint : (rows : Rows) (row : Row) (q x last : ℕ) → row.kind ≡ Checkpoint → Has rows Checkpoint q x → Reaches rows q x last → Reaches (set.insert rows row) q x last
reaches_with_checkpoint rows row q x last is has reaches = record {
  stable = λ y above below. stable_kept rows row q y (reaches.stable y above below);
  whole = λ y above stable next. reaches.whole y above
      (stable_outside rows row q x y has above (λ same behind under.
      let within : row.interval ≤ x = next row.interval (subst (λ p. Has (set.insert rows row) Checkpoint p row.interval) same (subst (λ kind. Has (set.insert rows row) kind row.pid row.interval) is (has_inserted rows row))) under in
      absurd (omega (arith, within, behind))) stable)
      (λ other has_other below. next other (has_kept rows row Checkpoint q other has_other) below);
}

-- where its interval was stable, the new one reaches as far as the one before it
pub reaches_as_before : (rows : Rows) (row : Row) (x last : ℕ) → Reaches rows row.pid x last → x ≤ row.interval → ((other : ℕ) → Has rows Checkpoint row.pid other → other ≤ row.interval → other ≤ x)
    → row.interval ≤ last → Reaches (set.insert rows row) row.pid row.interval last
reaches_as_before rows row x last reaches behind nearest reached = record {
  stable = λ y above below. stable_kept rows row row.pid y (reaches.stable y (omega (arith, behind, above)) below);
  whole = λ y above stable next. reaches.whole y (omega (arith, behind, above))
      (nothing_new_again rows row (reaches.stable row.interval behind reached) y stable)
      (λ other has below. nearest other has (next other (has_kept rows row Checkpoint row.pid other has) below));
}

-- else as far as the logs that follow on it
pub reaches_its_run : (n : ℕ) (rows : Rows) (row : Row) (last : ℕ) → IsLawful n rows → row.kind ≡ Checkpoint → IsRun rows row.pid row.interval last → Reaches (set.insert rows row) row.pid row.interval last
reaches_its_run n rows row last lawful is run = record {
  stable = stable_run (set.insert rows row) row.pid row.interval last (stable_by_checkpoint rows row is) (λ z over under. has_kept rows row Log row.pid z (run.logs z over under));
  whole = λ y above stable next. elim (at_most_or_more y last) [
    | inl within ↦ within
    | inr past ↦
        let early : stable.from ≤ row.interval = next stable.from stable.checkpoint stable.below in
        let log : Has rows Log row.pid (last + 1) = has_before rows row Log row.pid (last + 1) (λ kind_is _ _. absurd (cc)) (stable.logged (last + 1) (omega (arith, early, run.above)) (omega (arith, past))) in
        let numbered : last + 1 < 2 ^ 32 = omega (arith, lawful.numbered log.row log.there, log.interval_is) in
        let behind : last + 1 ≤ row.interval = next (last + 1) (has_kept rows row Checkpoint row.pid (last + 1) (run.ends log numbered)) (omega (arith, past)) in
        absurd (omega (arith, behind, run.above))
  ];
}

-- a log more: a checkpoint reaches as far as it did, unless the log is the next behind that
pub reaches_with_log : (rows : Rows) (row : Row) (q x last : ℕ) → row.kind ≡ Log → Has rows Checkpoint q x → Reaches rows q x last
    → (row.pid ≡ q → x < row.interval → ((other : ℕ) → Has rows Checkpoint q other → other ≤ row.interval → other ≤ x) → last + 1 ≡ row.interval → ⊥)
    → Reaches (set.insert rows row) q x last
reaches_with_log rows row q x last is has reaches apart = record {
  stable = λ y above below. stable_kept rows row q y (reaches.stable y above below);
  whole = λ y above stable next. elim (at_most_or_more y last) [
    | inl within ↦ within
    | inr past ↦
        let itself : x ≤ last = reaches_itself rows q x last has reaches in
        let early : stable.from ≤ x = next stable.from stable.checkpoint stable.below in
        let nearest = λ (other : ℕ) (has_other : Has rows Checkpoint q other) (below : other ≤ y). next other (has_kept rows row Checkpoint q other has_other) below in
        let log : Has rows Log q (last + 1) = has_before rows row Log q (last + 1)
        (λ _ same at_next. apart same (omega (arith, itself, at_next)) (λ other has_other below. nearest other has_other (omega (arith, below, at_next, past))) (omega (arith, at_next)))
        (stable.logged (last + 1) (omega (arith, early, itself)) (omega (arith, past))) in
        let farther : last + 1 ≤ last = reaches.whole (last + 1) (omega (arith, itself)) (stable_by_log rows q last (reaches.stable last itself (omega arith)) log)
        (λ other has_other below. nearest other has_other (omega (arith, below, past))) in
        absurd (omega (arith, farther))
  ];
}

-- which makes it reach on along the logs that follow
pub reaches_on : (n : ℕ) (rows : Rows) (row : Row) (x last next_last : ℕ) → IsLawful n rows → row.interval < 2 ^ 32 → row.kind ≡ Log → Has rows Checkpoint row.pid x → Reaches rows row.pid x last → last + 1 ≡ row.interval
    → IsRun (set.insert rows row) row.pid row.interval next_last → Reaches (set.insert rows row) row.pid x next_last
reaches_on n rows row x last next_last lawful in_range is has reaches next_is run =
    let itself : x ≤ last = reaches_itself rows row.pid x last has reaches in
    let own : IsStable (set.insert rows row) row.pid row.interval = stable_by_new_log rows row last is (omega (arith, next_is)) (reaches.stable last itself (omega arith)) in
    record {
      stable = λ y above below. elim (at_most_or_more y last) [
        | inl within ↦ stable_kept rows row row.pid y (reaches.stable y above within)
        | inr past ↦ stable_run (set.insert rows row) row.pid row.interval next_last own run.logs y (omega (arith, past, next_is)) below
      ];
      whole = λ y above stable next. elim (at_most_or_more y next_last) [
        | inl within ↦ within
        | inr past ↦
            let early : stable.from ≤ x = next stable.from stable.checkpoint stable.below in
            let log : Has (set.insert rows row) Log row.pid (next_last + 1) = stable.logged (next_last + 1) (omega (arith, early, itself, next_is, run.above)) (omega (arith, past)) in
            let before : Has rows Log row.pid (next_last + 1) = has_before rows row Log row.pid (next_last + 1) (λ _ _ at_next. absurd (omega (arith, at_next, run.above))) log in
            let numbered : next_last + 1 < 2 ^ 32 = omega (arith, lawful.numbered before.row before.there, before.interval_is) in
            let behind : next_last + 1 ≤ x = next (next_last + 1) (run.ends log numbered) (omega (arith, past)) in
            absurd (omega (arith, behind, itself, next_is, run.above))
      ];
    }
