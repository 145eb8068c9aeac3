use Rattle.std.proofs.Common.{◌≡◌, ℕ, ◌⊎◌, ◌||◌, inl, inr, refl, sym, ◌∙◌, ap, subst, Bool, true, false, true≢false, IsSome, is_some, Option, Some, None, map}
use Rattle.std.specs.FinSet as set
use Rattle.om_recover.specs.Rows.{HasRow, Has}
use Rattle.om_recover.specs.steps.Nearest.{at}
use Rattle.om_recover.specs.steps.Bases.{base_entries}
use Rattle.om_recover.specs.steps.Logs.{log_entries}
use Rattle.om_recover.specs.steps.Held.{row_of, log_row, base_row, held, AreTrees}
use Rattle.om_recover.specs.declared.rows.trees.Vectors.{Vectors}
use Rattle.om_recover.specs.declared.rows.trees.Base.{Base}
use Rattle.om_recover.specs.declared.rows.trees.Trees.{Trees}
use Rattle.om_recover.specs.declared.row.RowKind.TheVariants.{Checkpoint, Log}
use Rattle.om_recover.specs.declared.row.Row.{Row}
use Rattle.om_recover.proofs.RowsLemmas.{rows_total}
use Rattle.om_recover.proofs.EntryLemmas.{to_rows}
use Rattle.om_recover.proofs.BaseLemmas.{of_base_rows}
use Rattle.om_recover.proofs.LogsLemmas.{of_log_rows}

both_false : (a b : Bool) → (a || b) ≡ true → (a ≡ true) ⊎ (b ≡ true)
both_false true b is = inl refl
both_false false b is = inr is

or_left : (a b : Bool) → a ≡ true → (a || b) ≡ true
or_left true b is = refl
or_left false b is = absurd (true≢false (sym is))

or_right : (a b : Bool) → b ≡ true → (a || b) ≡ true
or_right true b is = refl
or_right false b is = is

-- a log, and a checkpoint, that the trees have is one of their rows
pub held_log : (trees : Trees) (p x : ℕ) (vectors : Vectors) → at (log_entries trees.logs) p x ≡ Some vectors → HasRow (held trees) (row_of Log p x vectors)
held_log trees p x vectors is =
    set.contains-union rows_total (set.from_list (map log_row (log_entries trees.logs))) (set.from_list (map base_row (base_entries trees.bases))) (row_of Log p x vectors)
    ∙ or_left _ _ (to_rows log_row (log_entries trees.logs) p x vectors is)

pub held_base : (trees : Trees) (p x : ℕ) (base : Base) → at (base_entries trees.bases) p x ≡ Some base → HasRow (held trees) (row_of Checkpoint p x base.vectors)
held_base trees p x base is =
    set.contains-union rows_total (set.from_list (map log_row (log_entries trees.logs))) (set.from_list (map base_row (base_entries trees.bases))) (row_of Checkpoint p x base.vectors)
    ∙ or_right _ _ (to_rows base_row (base_entries trees.bases) p x base is)

-- what the trees have of a row
pub data IsAt (trees : Trees) (row : Row) : Type 0 where
  as_log : (vectors : Vectors) → row.kind ≡ Log → at (log_entries trees.logs) row.pid row.interval ≡ Some vectors → row ≡ row_of Log row.pid row.interval vectors → IsAt trees row
  as_base : (base : Base) → row.kind ≡ Checkpoint → at (base_entries trees.bases) row.pid row.interval ≡ Some base → row ≡ row_of Checkpoint row.pid row.interval base.vectors → IsAt trees row

-- each of their rows is a log or a checkpoint that they have
pub held_at : (trees : Trees) (row : Row) → AreTrees trees → HasRow (held trees) row → IsAt trees row
held_at trees row sorted there =
    elim (both_false _ _ (sym (set.contains-union rows_total (set.from_list (map log_row (log_entries trees.logs))) (set.from_list (map base_row (base_entries trees.bases))) row) ∙ there)) [
      | inl among ↦
          let found = of_log_rows trees.logs row sorted.logs among in
          subst (IsAt trees) (sym found.4) (as_log found.2 refl found.3 refl)
      | inr among ↦
          let found = of_base_rows trees.bases row sorted.bases among in
          subst (IsAt trees) (sym found.4) (as_base found.2 refl found.3 refl)
    ]

some_value : {X : Type 0} (entry : Option X) → IsSome entry → (value : X) × (entry ≡ Some value)
some_value None is = absurd (true≢false (sym is))
some_value (Some value) is = (value, refl)

-- a record of an interval is a log or a checkpoint that the trees have there
pub log_of_has : (trees : Trees) (p x : ℕ) → AreTrees trees → Has (held trees) Log p x → (vectors : Vectors) × (at (log_entries trees.logs) p x ≡ Some vectors)
log_of_has trees p x sorted has = elim (held_at trees has.row sorted has.there) [
  | as_log vectors kind_is is _ ↦ (vectors, subst (λ q. at (log_entries trees.logs) q x ≡ Some vectors) has.pid_is (subst (λ y. at (log_entries trees.logs) has.row.pid y ≡ Some vectors) has.interval_is is))
  | as_base base kind_is is _ ↦ (let log_is = has.kind_is in absurd (cc))
]

pub base_of_has : (trees : Trees) (p x : ℕ) → AreTrees trees → Has (held trees) Checkpoint p x → (base : Base) × (at (base_entries trees.bases) p x ≡ Some base)
base_of_has trees p x sorted has = elim (held_at trees has.row sorted has.there) [
  | as_base base kind_is is _ ↦ (base, subst (λ q. at (base_entries trees.bases) q x ≡ Some base) has.pid_is (subst (λ y. at (base_entries trees.bases) has.row.pid y ≡ Some base) has.interval_is is))
  | as_log vectors kind_is is _ ↦ (let base_is = has.kind_is in absurd (cc))
]

-- and the other way round
pub has_log : (trees : Trees) (p x : ℕ) → IsSome (at (log_entries trees.logs) p x) → Has (held trees) Log p x
has_log trees p x some =
    let value = some_value (at (log_entries trees.logs) p x) some in
    record { row = row_of Log p x value.0; there = held_log trees p x value.0 value.1; kind_is = refl; pid_is = refl; interval_is = refl }

pub has_base : (trees : Trees) (p x : ℕ) → IsSome (at (base_entries trees.bases) p x) → Has (held trees) Checkpoint p x
has_base trees p x some =
    let value = some_value (at (base_entries trees.bases) p x) some in
    record { row = row_of Checkpoint p x value.0.vectors; there = held_base trees p x value.0 value.1; kind_is = refl; pid_is = refl; interval_is = refl }

pub some_log : (trees : Trees) (p x : ℕ) → AreTrees trees → Has (held trees) Log p x → IsSome (at (log_entries trees.logs) p x)
some_log trees p x sorted has = ap is_some (log_of_has trees p x sorted has).1

pub some_base : (trees : Trees) (p x : ℕ) → AreTrees trees → Has (held trees) Checkpoint p x → IsSome (at (base_entries trees.bases) p x)
some_base trees p x sorted has = ap is_some (base_of_has trees p x sorted has).1

-- of a kind there is one record of an interval
pub one_of_a_kind : (trees : Trees) (one other : Row) → AreTrees trees → HasRow (held trees) one → HasRow (held trees) other → other.kind ≡ one.kind → other.pid ≡ one.pid → other.interval ≡ one.interval → other ≡ one
one_of_a_kind trees one other sorted there also kind_is pid_is interval_is = elim (held_at trees one sorted there) [
  | as_log v one_kind one_at one_is ↦ elim (held_at trees other sorted also) [
    | as_log w other_kind other_at other_is ↦
        let moved : at (log_entries trees.logs) one.pid one.interval ≡ Some w = subst (λ p. at (log_entries trees.logs) p one.interval ≡ Some w) pid_is (subst (λ x. at (log_entries trees.logs) other.pid x ≡ Some w) interval_is other_at) in
        let same : w ≡ v = cc in
        other_is ∙ (λ i. row_of Log (pid_is i) (interval_is i) (same i)) ∙ sym one_is
    | as_base w other_kind _ _ ↦ absurd (cc)
  ]
  | as_base v one_kind one_at one_is ↦ elim (held_at trees other sorted also) [
    | as_base w other_kind other_at other_is ↦
        let moved : at (base_entries trees.bases) one.pid one.interval ≡ Some w = subst (λ p. at (base_entries trees.bases) p one.interval ≡ Some w) pid_is (subst (λ x. at (base_entries trees.bases) other.pid x ≡ Some w) interval_is other_at) in
        let same : w ≡ v = cc in
        other_is ∙ (λ i. row_of Checkpoint (pid_is i) (interval_is i) (same i).vectors) ∙ sym one_is
    | as_log w other_kind _ _ ↦ absurd (cc)
  ]
]
