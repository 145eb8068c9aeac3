use Rattle.std.proofs.Common.{◌≡◌, ℕ, ◌+◌, ◌<◌, ◌≤◌, ◌⊎◌, ◌^◌, inl, inr, refl, sym, ◌∙◌, subst, ap, arith, is_some, Option, None, Some, List, Bool, true, false, true≢false}
use Rattle.std.proofs.lemmas.Bool.{cases_order}
use Rattle.std.specs.FinSet as set
use Rattle.om_recover.specs.Rows.{Rows, HasRow, Has, IsLawful, row_cmp}
use Rattle.om_recover.specs.steps.Nearest.{at, IsNearestTo}
use Rattle.om_recover.specs.steps.Bases.{AreBases, AreSameBases, IsStored, base_entries}
use Rattle.om_recover.specs.steps.Logs.{AreLogs, AreSame, IsLaid, log_entries}
use Rattle.om_recover.specs.steps.Held.{held, row_of, AreTrees, AreIndexed, Hold, IsFree, Reaches, IsRun}
use Rattle.om_recover.specs.declared.rows.trees.Vectors.{Vectors}
use Rattle.om_recover.specs.declared.rows.trees.Base.{Base}
use Rattle.om_recover.specs.declared.rows.trees.Bases.{Bases}
use Rattle.om_recover.specs.declared.rows.trees.Logs.{Logs}
use Rattle.om_recover.specs.declared.rows.trees.Trees.{Trees}
use Rattle.om_recover.specs.declared.row.RowKind.{RowKind}
use Rattle.om_recover.specs.declared.row.RowKind.TheVariants.{Checkpoint, Log}
use Rattle.om_recover.specs.declared.row.Row.{Row}
use Rattle.om_recover.proofs.RowsLemmas.{rows_total, exact_rows, of_inserted, inserted, kept}
use Rattle.om_recover.proofs.HeldLemmas.{as_log, as_base, held_at, held_log, held_base, some_base, has_base, has_log}
use Rattle.om_recover.proofs.ReachLemmas.{reaches_with_checkpoint, reaches_as_before, reaches_with_log, reaches_on}

alike : (a b : Bool) → (a ≡ true → b ≡ true) → (b ≡ true → a ≡ true) → a ≡ b
alike true b to from = sym (to refl)
alike false true to from = from refl
alike false false to from = refl

-- sets with the same rows are one
pub same_rows : (one other : Rows) → ((row : Row) → HasRow one row → HasRow other row) → ((row : Row) → HasRow other row → HasRow one row) → one ≡ other
same_rows one other to from = set.same_set rows_total exact_rows one other (λ row. alike _ _ (to row) (from row))

-- the same place, or another
same_place : (p x q y : ℕ) → ((q ≡ p) × (y ≡ x)) ⊎ (q ≡ p → y ≡ x → ⊥)
same_place p x q y = elim (cases_order q p) [
  | inl same ↦ elim (cases_order y x) [
    | inl here ↦ inl (same, here)
    | inr apart ↦ inr (λ _ here. omega (arith, here, apart))
  ]
  | inr apart ↦ inr (λ same _. omega (arith, same, apart))
]

at_moved : {X : Type 0} (entries : List ((ℕ × ℕ) × X)) (p x q y : ℕ) (value : Option X) → q ≡ p → y ≡ x → at entries p x ≡ value → at entries q y ≡ value
at_moved entries p x q y value same here is = subst (λ p. at entries p y ≡ value) (sym same) (subst (λ x. at entries p x ≡ value) (sym here) is)

-- with a log more, the trees hold one row more
pub held_with_log : (before after : Trees) (p x : ℕ) (vectors : Vectors) → AreTrees before → AreTrees after → IsFree (held before) (row_of Log p x vectors)
    → IsLaid before.logs after.logs p x vectors → after.bases ≡ before.bases → held after ≡ set.insert (held before) (row_of Log p x vectors)
held_with_log before after p x vectors sorted sorted_after free put same_bases = same_rows _ _
    (λ row there. elim (held_at after row sorted_after there) [
      | as_log v kind_is is row_is ↦ elim (same_place p x row.pid row.interval) [
        | inl same ↦
            let moved : at (log_entries after.logs) row.pid row.interval ≡ Some vectors = at_moved (log_entries after.logs) p x row.pid row.interval (Some vectors) same.0 same.1 put.here in
            let value : v ≡ vectors = cc in
            subst (HasRow (set.insert (held before) (row_of Log p x vectors))) (sym (row_is ∙ (λ i. row_of Log (same.0 i) (same.1 i) (value i)))) (inserted (held before) (row_of Log p x vectors))
        | inr apart ↦ subst (HasRow (set.insert (held before) (row_of Log p x vectors))) (sym row_is)
            (kept (held before) (row_of Log p x vectors) _ (held_log before row.pid row.interval v (sym (put.others row.pid row.interval apart) ∙ is)))
      ]
      | as_base b kind_is is row_is ↦ subst (HasRow (set.insert (held before) (row_of Log p x vectors))) (sym row_is)
          (kept (held before) (row_of Log p x vectors) _ (held_base before row.pid row.interval b (subst (λ (bases : Bases). at (base_entries bases) row.pid row.interval ≡ Some b) same_bases is)))
    ])
    (λ row there. elim (of_inserted (held before) (row_of Log p x vectors) row there) [
      | inl is ↦ subst (HasRow (held after)) (sym is) (held_log after p x vectors put.here)
      | inr old ↦ elim (held_at before row sorted old) [
        | as_log v kind_is is row_is ↦ elim (same_place p x row.pid row.interval) [
          | inl same ↦ absurd (free (record { row = row; there = old; kind_is = kind_is; pid_is = same.0; interval_is = same.1 }))
          | inr apart ↦ subst (HasRow (held after)) (sym row_is) (held_log after row.pid row.interval v (put.others row.pid row.interval apart ∙ is))
        ]
        | as_base b kind_is is row_is ↦ subst (HasRow (held after)) (sym row_is)
            (held_base after row.pid row.interval b (subst (λ (bases : Bases). at (base_entries bases) row.pid row.interval ≡ Some b) (sym same_bases) is))
      ]
    ])

-- and with a checkpoint more
pub held_with_base : (before after : Trees) (p x : ℕ) (base : Base) → AreTrees before → AreTrees after → IsFree (held before) (row_of Checkpoint p x base.vectors)
    → IsStored before.bases after.bases p x base → after.logs ≡ before.logs → held after ≡ set.insert (held before) (row_of Checkpoint p x base.vectors)
held_with_base before after p x base sorted sorted_after free put same_logs = same_rows _ _
    (λ row there. elim (held_at after row sorted_after there) [
      | as_base b kind_is is row_is ↦ elim (same_place p x row.pid row.interval) [
        | inl same ↦
            let moved : at (base_entries after.bases) row.pid row.interval ≡ Some base = at_moved (base_entries after.bases) p x row.pid row.interval (Some base) same.0 same.1 put.here in
            let value : b ≡ base = cc in
            subst (HasRow (set.insert (held before) (row_of Checkpoint p x base.vectors))) (sym (row_is ∙ (λ i. row_of Checkpoint (same.0 i) (same.1 i) (value i).vectors))) (inserted (held before) (row_of Checkpoint p x base.vectors))
        | inr apart ↦ subst (HasRow (set.insert (held before) (row_of Checkpoint p x base.vectors))) (sym row_is)
            (kept (held before) (row_of Checkpoint p x base.vectors) _ (held_base before row.pid row.interval b (sym (put.others row.pid row.interval apart) ∙ is)))
      ]
      | as_log v kind_is is row_is ↦ subst (HasRow (set.insert (held before) (row_of Checkpoint p x base.vectors))) (sym row_is)
          (kept (held before) (row_of Checkpoint p x base.vectors) _ (held_log before row.pid row.interval v (subst (λ (logs : Logs). at (log_entries logs) row.pid row.interval ≡ Some v) same_logs is)))
    ])
    (λ row there. elim (of_inserted (held before) (row_of Checkpoint p x base.vectors) row there) [
      | inl is ↦ subst (HasRow (held after)) (sym is) (held_base after p x base put.here)
      | inr old ↦ elim (held_at before row sorted old) [
        | as_base b kind_is is row_is ↦ elim (same_place p x row.pid row.interval) [
          | inl same ↦ absurd (free (record { row = row; there = old; kind_is = kind_is; pid_is = same.0; interval_is = same.1 }))
          | inr apart ↦ subst (HasRow (held after)) (sym row_is) (held_base after row.pid row.interval b (put.others row.pid row.interval apart ∙ is))
        ]
        | as_log v kind_is is row_is ↦ subst (HasRow (held after)) (sym row_is)
            (held_log after row.pid row.interval v (subst (λ (logs : Logs). at (log_entries logs) row.pid row.interval ≡ Some v) (sym same_logs) is))
      ]
    ])

-- how far a checkpoint reaches is no matter of rows
pub held_when_set : (before after : Trees) (p x last : ℕ) (base : Base) → AreTrees before → AreTrees after → at (base_entries before.bases) p x ≡ Some base
    → IsStored before.bases after.bases p x (record base { last = last }) → after.logs ≡ before.logs → held after ≡ held before
held_when_set before after p x last base sorted sorted_after was put same_logs = same_rows _ _
    (λ row there. elim (held_at after row sorted_after there) [
      | as_base b kind_is is row_is ↦ elim (same_place p x row.pid row.interval) [
        | inl same ↦
            let moved : at (base_entries after.bases) row.pid row.interval ≡ Some (record base { last = last }) = at_moved (base_entries after.bases) p x row.pid row.interval _ same.0 same.1 put.here in
            let value : b ≡ record base { last = last } = cc in
            subst (HasRow (held before)) (sym (row_is ∙ (λ i. row_of Checkpoint row.pid row.interval (value i).vectors))) (held_base before row.pid row.interval base (at_moved (base_entries before.bases) p x row.pid row.interval (Some base) same.0 same.1 was))
        | inr apart ↦ subst (HasRow (held before)) (sym row_is) (held_base before row.pid row.interval b (sym (put.others row.pid row.interval apart) ∙ is))
      ]
      | as_log v kind_is is row_is ↦ subst (HasRow (held before)) (sym row_is)
          (held_log before row.pid row.interval v (subst (λ (logs : Logs). at (log_entries logs) row.pid row.interval ≡ Some v) same_logs is))
    ])
    (λ row there. elim (held_at before row sorted there) [
      | as_base b kind_is is row_is ↦ elim (same_place p x row.pid row.interval) [
        | inl same ↦
            let moved : at (base_entries before.bases) row.pid row.interval ≡ Some base = at_moved (base_entries before.bases) p x row.pid row.interval (Some base) same.0 same.1 was in
            let value : b ≡ base = cc in
            subst (HasRow (held after)) (sym (row_is ∙ (λ i. row_of Checkpoint row.pid row.interval (value i).vectors)))
            (held_base after row.pid row.interval (record base { last = last }) (at_moved (base_entries after.bases) p x row.pid row.interval _ same.0 same.1 put.here))
        | inr apart ↦ subst (HasRow (held after)) (sym row_is) (held_base after row.pid row.interval b (put.others row.pid row.interval apart ∙ is))
      ]
      | as_log v kind_is is row_is ↦ subst (HasRow (held after)) (sym row_is)
          (held_log after row.pid row.interval v (subst (λ (logs : Logs). at (log_entries logs) row.pid row.interval ≡ Some v) (sym same_logs) is))
    ])

-- a row of a kind
pub of_kind : (row : Row) (kind : RowKind) → row.kind ≡ kind → row ≡ row_of kind row.pid row.interval (record { vec = row.vec; got = row.got })
of_kind row kind is i = record { kind = is i; pid = row.pid; interval = row.interval; vec = row.vec; got = row.got }

-- a checkpoint reaches as far as the nearest one that reaches it
pub reaches_nearest : (trees : Trees) (row : Row) (x : ℕ) (base : Base) → AreIndexed trees → IsNearestTo (base_entries trees.bases) row.pid row.interval x base → row.interval ≤ base.last
    → Reaches (set.insert (held trees) row) row.pid row.interval base.last
reaches_nearest trees row x base indexed near reached =
    reaches_as_before (held trees) row x base.last (indexed.reaches row.pid x base near.there) near.within (λ other has below. near.nearest other (some_base trees row.pid other indexed.sorted has) below) reached

-- the trees with a checkpoint more
pub hold_with_base : (before after : Trees) (p x : ℕ) (base : Base) → AreIndexed before → IsFree (held before) (row_of Checkpoint p x base.vectors)
    → IsStored before.bases after.bases p x base → after.logs ≡ before.logs
    → Reaches (set.insert (held before) (row_of Checkpoint p x base.vectors)) p x base.last → Hold after (set.insert (held before) (row_of Checkpoint p x base.vectors))
hold_with_base before after p x base indexed free put same_logs reaches =
    let sorted : AreTrees after = record { logs = subst AreLogs (sym same_logs) indexed.sorted.logs; bases = put.sorted } in
    let is = held_with_base before after p x base indexed.sorted sorted free put same_logs in
    record {
      indexed = record {
        sorted = sorted;
        reaches = λ q y b there. subst (λ (rows : Rows). Reaches rows q y b.last) (sym is) (elim (same_place p x q y) [
          | inl same ↦
              let moved : at (base_entries after.bases) q y ≡ Some base = at_moved (base_entries after.bases) p x q y (Some base) same.0 same.1 put.here in
              let value : base ≡ b = cc in
              subst (λ (b : Base). Reaches (set.insert (held before) (row_of Checkpoint p x base.vectors)) q y b.last) value
              (subst (λ q. Reaches (set.insert (held before) (row_of Checkpoint p x base.vectors)) q y base.last) (sym same.0) (subst (λ y. Reaches (set.insert (held before) (row_of Checkpoint p x base.vectors)) p y base.last) (sym same.1) reaches))
          | inr apart ↦
              let old = sym (put.others q y apart) ∙ there in
              reaches_with_checkpoint (held before) (row_of Checkpoint p x base.vectors) q y b.last refl (has_base before q y (ap is_some old)) (indexed.reaches q y b old)
        ]);
      };
      are = is;
    }

-- the trees with a log more that no checkpoint comes to reach
pub hold_with_log : (before after : Trees) (p x : ℕ) (vectors : Vectors) → AreIndexed before → IsFree (held before) (row_of Log p x vectors)
    → IsLaid before.logs after.logs p x vectors → after.bases ≡ before.bases
    → ((y : ℕ) (b : Base) → IsNearestTo (base_entries before.bases) p x y b → b.last + 1 ≡ x → ⊥) → Hold after (set.insert (held before) (row_of Log p x vectors))
hold_with_log before after p x vectors indexed free put same_bases apart =
    let sorted : AreTrees after = record { logs = put.sorted; bases = subst AreBases (sym same_bases) indexed.sorted.bases } in
    let is = held_with_log before after p x vectors indexed.sorted sorted free put same_bases in
    record {
      indexed = record {
        sorted = sorted;
        reaches = λ q y b there.
            let old : at (base_entries before.bases) q y ≡ Some b = subst (λ (bases : Bases). at (base_entries bases) q y ≡ Some b) same_bases there in
            subst (λ (rows : Rows). Reaches rows q y b.last) (sym is)
            (reaches_with_log (held before) (row_of Log p x vectors) q y b.last refl (has_base before q y (ap is_some old)) (indexed.reaches q y b old)
            (λ same behind nearest next. apart y b (record {
              there = subst (λ q. at (base_entries before.bases) q y ≡ Some b) (sym same) old;
              within = omega (arith, behind);
              nearest = λ z some below. nearest z (subst (λ q. Has (held before) Checkpoint q z) same (has_base before p z some)) below;
            }) next));
      };
      are = is;
    }

-- the trees with a log more that the nearest checkpoint comes to reach
pub hold_with_log_reached : (n : ℕ) (before middle after : Trees) (p x c last : ℕ) (vectors : Vectors) (base : Base) → IsLawful n (held before) → x < 2 ^ 32 → AreIndexed before → IsFree (held before) (row_of Log p x vectors)
    → IsLaid before.logs middle.logs p x vectors → middle.bases ≡ before.bases → IsNearestTo (base_entries before.bases) p x c base → base.last + 1 ≡ x
    → IsRun (held middle) p x last → IsStored middle.bases after.bases p c (record base { last = last }) → after.logs ≡ middle.logs
    → Hold after (set.insert (held before) (row_of Log p x vectors))
hold_with_log_reached n before middle after p x c last vectors base lawful in_range indexed free put same_bases near next run put_base same_logs =
    let sorted_middle : AreTrees middle = record { logs = put.sorted; bases = subst AreBases (sym same_bases) indexed.sorted.bases } in
    let sorted : AreTrees after = record { logs = subst AreLogs (sym same_logs) sorted_middle.logs; bases = put_base.sorted } in
    let middle_is = held_with_log before middle p x vectors indexed.sorted sorted_middle free put same_bases in
    let was : at (base_entries middle.bases) p c ≡ Some base = subst (λ (bases : Bases). at (base_entries bases) p c ≡ Some base) (sym same_bases) near.there in
    let is = held_when_set middle after p c last base sorted_middle sorted was put_base same_logs ∙ middle_is in
    let row = row_of Log p x vectors in
    record {
      indexed = record {
        sorted = sorted;
        reaches = λ q y b there. subst (λ (rows : Rows). Reaches rows q y b.last) (sym is) (elim (same_place p c q y) [
          | inl same ↦
              let moved : at (base_entries after.bases) q y ≡ Some (record base { last = last }) = at_moved (base_entries after.bases) p c q y _ same.0 same.1 put_base.here in
              let value : record base { last = last } ≡ b = cc in
              let reached : Reaches (set.insert (held before) row) p c last = reaches_on n (held before) row c base.last last lawful in_range refl (has_base before p c (ap is_some near.there)) (indexed.reaches p c base near.there) next
              (subst (λ (rows : Rows). IsRun rows p x last) middle_is run) in
              subst (λ (b : Base). Reaches (set.insert (held before) row) q y b.last) value
              (subst (λ q. Reaches (set.insert (held before) row) q y last) (sym same.0) (subst (λ y. Reaches (set.insert (held before) row) p y last) (sym same.1) reached))
          | inr apart ↦
              let old : at (base_entries before.bases) q y ≡ Some b = subst (λ (bases : Bases). at (base_entries bases) q y ≡ Some b) same_bases (sym (put_base.others q y apart) ∙ there) in
              reaches_with_log (held before) row q y b.last refl (has_base before q y (ap is_some old)) (indexed.reaches q y b old)
              (λ same behind nearest _.
              let own : at (base_entries before.bases) p y ≡ Some b = subst (λ q. at (base_entries before.bases) q y ≡ Some b) (sym same) old in
              let lower : y ≤ c = near.nearest y (ap is_some own) (omega (arith, behind)) in
              let higher : c ≤ y = nearest c (subst (λ q. Has (held before) Checkpoint q c) same (has_base before p c (ap is_some near.there))) near.within in
              apart (sym same) (omega (arith, lower, higher)))
        ]);
      };
      are = is;
    }

-- trees of nothing have no rows
pub hold_nothing : (trees : Trees) → AreTrees trees → ((p x : ℕ) → at (log_entries trees.logs) p x ≡ None) → ((p x : ℕ) → at (base_entries trees.bases) p x ≡ None) → Hold trees set.empty
hold_nothing trees sorted no_logs no_bases = record {
  indexed = record {
    sorted = sorted;
    reaches = λ p x base there. let none : at (base_entries trees.bases) p x ≡ None = no_bases p x in absurd (cc);
  };
  are = same_rows _ _
      (λ row there. elim (held_at trees row sorted there) [
        | as_log v _ is _ ↦ (let none : at (log_entries trees.logs) row.pid row.interval ≡ None = no_logs row.pid row.interval in absurd (cc))
        | as_base b _ is _ ↦ (let none : at (base_entries trees.bases) row.pid row.interval ≡ None = no_bases row.pid row.interval in absurd (cc))
      ])
      (λ row there. absurd (true≢false (sym there ∙ set.contains-empty row_cmp row)));
}

-- no log stands where none is
pub free_log : (trees : Trees) (row : Row) → row.kind ≡ Log → IsFree (held trees) row → at (log_entries trees.logs) row.pid row.interval ≡ None
free_log trees row kind_is free = elim (at (log_entries trees.logs) row.pid row.interval) as (λ entry. at (log_entries trees.logs) row.pid row.interval ≡ entry → entry ≡ None) [
  | None ↦ λ _. refl
  | Some vectors ↦ λ is. absurd (free (subst (λ kind. Has (held trees) kind row.pid row.interval) (sym kind_is) (has_log trees row.pid row.interval (ap is_some is))))
] refl

-- the trees whose logs are as they were
pub hold_same : (before after : Trees) → AreIndexed before → AreSame before.logs after.logs → AreSameBases before.bases after.bases → Hold after (held before)
hold_same before after indexed same same_bases =
    let bases_at = same_bases.same in
    let sorted : AreTrees after = record { logs = same.sorted; bases = same_bases.sorted } in
    let are : held after ≡ held before = same_rows _ _
    (λ row there. elim (held_at after row sorted there) [
      | as_log v kind_is is row_is ↦ subst (HasRow (held before)) (sym row_is) (held_log before row.pid row.interval v (sym (same.same row.pid row.interval) ∙ is))
      | as_base b kind_is is row_is ↦ subst (HasRow (held before)) (sym row_is) (held_base before row.pid row.interval b (sym (bases_at row.pid row.interval) ∙ is))
    ])
    (λ row there. elim (held_at before row indexed.sorted there) [
      | as_log v kind_is is row_is ↦ subst (HasRow (held after)) (sym row_is) (held_log after row.pid row.interval v (same.same row.pid row.interval ∙ is))
      | as_base b kind_is is row_is ↦ subst (HasRow (held after)) (sym row_is) (held_base after row.pid row.interval b (bases_at row.pid row.interval ∙ is))
    ]) in
    record {
      indexed = record {
        sorted = sorted;
        reaches = λ p x base there. subst (λ (rows : Rows). Reaches rows p x base.last) (sym are) (indexed.reaches p x base (sym (bases_at p x) ∙ there));
      };
      are = are;
    }

-- no checkpoint stands where none is
pub free_base : (trees : Trees) (row : Row) → row.kind ≡ Checkpoint → IsFree (held trees) row → at (base_entries trees.bases) row.pid row.interval ≡ None
free_base trees row kind_is free = elim (at (base_entries trees.bases) row.pid row.interval) as (λ entry. at (base_entries trees.bases) row.pid row.interval ≡ entry → entry ≡ None) [
  | None ↦ λ _. refl
  | Some base ↦ λ is. absurd (free (subst (λ kind. Has (held trees) kind row.pid row.interval) (sym kind_is) (has_base trees row.pid row.interval (ap is_some is))))
] refl

pub same_bases : (bases : Bases) → AreBases bases → AreSameBases bases bases
same_bases bases are = record { sorted = are; same = λ p x. refl }

pub logs_stay : (logs : Logs) → AreLogs logs → AreSame logs logs
logs_stay logs are = record { sorted = are; same = λ p x. refl }
