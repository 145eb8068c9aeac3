use Rattle.std.proofs.Common.{◌≡◌, ℕ, ◌+◌, ◌-◌, ◌<◌, ◌≤◌, inl, inr, sym, subst, arith, List, slice_index}
use Rattle.std.proofs.lemmas.Bool.{cases_order}
use Rattle.std.proofs.lemmas.List.{get_or_past}
use Rattle.std.specs.FinSet as set
use Rattle.om_interval.specs.Vectors.{IsBelow}
use Rattle.om_recover.specs.Rows.{Rows, Has, IsLawful}
use Rattle.om_recover.specs.Recoverable.{IsStable, IsRecoverable}
use Rattle.om_recover.specs.Climb.{IsNeeded, starts, follows}
use Rattle.om_recover.specs.Counted.{IsLeastNew}
use Rattle.om_recover.specs.declared.row.RowKind.{RowKind}
use Rattle.om_recover.specs.declared.row.RowKind.TheVariants.{Checkpoint, Log}
use Rattle.om_recover.specs.declared.row.Row.{Row}
use Rattle.om_recover.proofs.StableLemmas.{has_before, has_inserted, stable_before, stable_kept}
use Rattle.om_recover.proofs.ClimbLemmas.{at_most_or_more, vec_below}

pub stable_at_checkpoint : (rows : Rows) (p y : ℕ) → Has rows Checkpoint p y → IsStable rows p y
stable_at_checkpoint rows p y has = record { from = y; checkpoint = has; below = omega arith; logged = λ z above below. absurd (omega (arith, above, below)) }

pub stable_by_log : (rows : Rows) (p y : ℕ) → IsStable rows p y → Has rows Log p (y + 1) → IsStable rows p (y + 1)
stable_by_log rows p y stable has = record {
  from = stable.from;
  checkpoint = stable.checkpoint;
  below = omega (arith, stable.below);
  logged = λ z above below. elim (cases_order z (y + 1)) [
    | inl is ↦ subst (λ w. Has rows Log p w) (sym is) has
    | inr apart ↦ elim apart [ inl less ↦ stable.logged z above (omega (arith, less)) | inr more ↦ absurd (omega (arith, more, below)) ]
  ];
}

-- above a stable interval at or above the added row's, nothing becomes stable that was not
stable_beyond : (rows : Rows) (row : Row) (p low y : ℕ) → (row.pid ≡ p → row.interval ≤ low) → IsStable rows p low → low ≤ y → IsStable (set.insert rows row) p y → IsStable rows p y
stable_beyond rows row p low y behind known at_least stable = elim (at_most_or_more stable.from low) [
  | inl from_below ↦ record {
    from = known.from;
    checkpoint = known.checkpoint;
    below = omega (arith, known.below, at_least);
    logged = λ z above below. elim (at_most_or_more z low) [
      | inl short ↦ known.logged z above short
      | inr past ↦ has_before rows row Log p z (λ _ same at. absurd (omega (arith, behind same, at, past))) (stable.logged z (omega (arith, from_below, past)) below)
    ];
  }
  | inr from_above ↦ record {
    from = stable.from;
    checkpoint = has_before rows row Checkpoint p stable.from (λ _ same at. absurd (omega (arith, behind same, at, from_above))) stable.checkpoint;
    below = stable.below;
    logged = λ z above below. has_before rows row Log p z (λ _ same at. absurd (omega (arith, behind same, at, from_above, above))) (stable.logged z above below);
  }
]

-- a row at or below the state makes nothing stable above it
pub nothing_new_above : (rows : Rows) (row : Row) (floor : ℕ) → IsStable rows row.pid floor → row.interval ≤ floor → (y : ℕ) → IsStable (set.insert rows row) row.pid y → floor < y → IsStable rows row.pid y
nothing_new_above rows row floor known at_most y stable above = stable_beyond rows row row.pid floor y (λ _. at_most) known (omega (arith, above)) stable

-- nor does a row whose interval was stable
pub nothing_new_again : (rows : Rows) (row : Row) → IsStable rows row.pid row.interval → (y : ℕ) → IsStable (set.insert rows row) row.pid y → IsStable rows row.pid y
nothing_new_again rows row known y stable = elim (at_most_or_more row.interval y) [
  | inl at_least ↦ stable_beyond rows row row.pid row.interval y (λ _. omega arith) known at_least stable
  | inr below ↦ stable_before rows row row.pid y (λ _. below) stable
]

-- nor a row whose interval does not become stable
pub nothing_new_unstable : (rows : Rows) (row : Row) → (IsStable (set.insert rows row) row.pid row.interval → ⊥) → (y : ℕ) → IsStable (set.insert rows row) row.pid y → IsStable rows row.pid y
nothing_new_unstable rows row unstable y stable = elim (at_most_or_more row.interval y) [
  | inr below ↦ stable_before rows row row.pid y (λ _. below) stable
  | inl at_least ↦ elim (at_most_or_more stable.from row.interval) [
    | inl from_below ↦ absurd (unstable (record { from = stable.from; checkpoint = stable.checkpoint; below = from_below; logged = λ z above below. stable.logged z above (omega (arith, below, at_least)) }))
    | inr from_above ↦ record {
      from = stable.from;
      checkpoint = has_before rows row Checkpoint row.pid stable.from (λ _ _ at. absurd (omega (arith, at, from_above))) stable.checkpoint;
      below = stable.below;
      logged = λ z above below. has_before rows row Log row.pid z (λ _ _ at. absurd (omega (arith, at, from_above, above))) (stable.logged z above below);
    }
  ]
]

-- the least interval that a row makes stable is its own
pub least_new : (rows : Rows) (row : Row) (floor : ℕ) → floor < row.interval → (IsStable rows row.pid row.interval → ⊥) → IsStable (set.insert rows row) row.pid row.interval → IsLeastNew rows (set.insert rows row) row.pid floor row.interval
least_new rows row floor above new stable = record {
  stable = stable;
  new = new;
  above = above;
  least = λ y is _ below. stable_before rows row row.pid y (λ _. below) is;
}

-- what a raised process needs, every recoverable state above has
pub needed_forced : (n : ℕ) (rows : Rows) (state other : List ℕ) (p x q y : ℕ) → IsLawful n rows → IsRecoverable n rows other → x ≤ slice_index other p → IsNeeded rows state p x q y → y ≤ slice_index other q
needed_forced n rows state other p x q y lawful of_other started starts = started
needed_forced n rows state other p x q y lawful of_other started (follows row _ _ before there beyond least) =
    let so_far = needed_forced n rows state other p x row.pid row.interval lawful of_other started before in
    let read : IsBelow row.vec other = vec_below n rows other row lawful of_other there so_far in
    elim (at_most_or_more n q) [
      | inr within ↦ least.least (slice_index other q) (of_other.stable q within) (read.each q (omega (arith, within, (lawful.fair row there).vec_places)))
      | inl past ↦ absurd (omega (arith, beyond, get_or_past row.vec q 0 (omega (arith, past, (lawful.fair row there).vec_places))))
    ]

-- and all of the run is stable
pub stable_run : (rows : Rows) (p x last : ℕ) → IsStable rows p x → ((z : ℕ) → x < z → z ≤ last → Has rows Log p z) → (y : ℕ) → x ≤ y → y ≤ last → IsStable rows p y
stable_run rows p x last stable logs y at_least within = record {
  from = stable.from;
  checkpoint = stable.checkpoint;
  below = omega (arith, stable.below, at_least);
  logged = λ z above below. elim (at_most_or_more z x) [
    | inl short ↦ stable.logged z above short
    | inr past ↦ logs z past (omega (arith, below, within))
  ];
}

-- a row that is no checkpoint makes its interval stable only where that right below is
pub unstable_log : (rows : Rows) (row : Row) → (row.kind ≡ Checkpoint → ⊥) → (IsStable rows row.pid row.interval → ⊥)
    → ((before : ℕ) → before + 1 ≡ row.interval → IsStable rows row.pid before → ⊥) → IsStable (set.insert rows row) row.pid row.interval → ⊥
unstable_log rows row no_checkpoint unstable none_before stable = elim (cases_order stable.from row.interval) [
  | inl at ↦ unstable (stable_at_checkpoint rows row.pid row.interval (subst (Has rows Checkpoint row.pid) at (has_before rows row Checkpoint row.pid stable.from (λ kind_is _ _. no_checkpoint kind_is) stable.checkpoint)))
  | inr apart ↦ elim apart [
    | inl less ↦ none_before (row.interval - 1) (omega (arith, less)) (stable_before rows row row.pid (row.interval - 1) (λ _. omega (arith, less)) (record {
      from = stable.from;
      checkpoint = stable.checkpoint;
      below = omega (arith, less);
      logged = λ y above below. stable.logged y above (omega (arith, below));
    }))
    | inr more ↦ absurd (omega (arith, more, stable.below))
  ]
]

-- a checkpoint makes its interval stable
pub stable_by_checkpoint : (rows : Rows) (row : Row) → row.kind ≡ Checkpoint → IsStable (set.insert rows row) row.pid row.interval
stable_by_checkpoint rows row is = stable_at_checkpoint (set.insert rows row) row.pid row.interval (subst (λ kind. Has (set.insert rows row) kind row.pid row.interval) is (has_inserted rows row))

-- and so does a log right above a stable interval
pub stable_by_new_log : (rows : Rows) (row : Row) (before : ℕ) → row.kind ≡ Log → row.interval ≡ before + 1 → IsStable rows row.pid before → IsStable (set.insert rows row) row.pid row.interval
stable_by_new_log rows row before is at stable =
    subst (IsStable (set.insert rows row) row.pid) (sym at) (stable_by_log (set.insert rows row) row.pid before (stable_kept rows row row.pid before stable)
    (subst (λ kind. Has (set.insert rows row) kind row.pid (before + 1)) is (subst (Has (set.insert rows row) row.kind row.pid) at (has_inserted rows row))))

-- a log is no checkpoint
pub log_is_none : (kind : RowKind) → kind ≡ Log → kind ≡ Checkpoint → ⊥
log_is_none kind is other = absurd (cc)
