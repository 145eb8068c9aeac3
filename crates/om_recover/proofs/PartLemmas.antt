use Rattle.std.proofs.Common.{◌≡◌, ℕ, ◌≤◌, refl, sym, ◌∙◌, subst, ap, arith, Option, None, Some, List, [], ◌∷◌, Bool, true, false, inl, inr, cond, slice_index, min}
use Rattle.std.specs.Option.{option_map}
use Rattle.std.specs.Cmp.{Equal-is}
use Rattle.std.specs.Map.Calls.{RetainsPairs}
use Rattle.std.specs.BTreeMap.{is_at}
use Rattle.std.specs.FinSet as set
use Rattle.om_recover.specs.Rows.{Rows, HasRow, Has}
use Rattle.om_recover.specs.Recoverable.{IsStable}
use Rattle.om_recover.specs.Cutting.{cut_to, pruned_to}
use Rattle.om_recover.specs.steps.Nearest.{place_cmp, at}
use Rattle.om_recover.specs.steps.Bases.{AreBasesPart, base_entries}
use Rattle.om_recover.specs.steps.Logs.{ArePart, log_entries}
use Rattle.om_recover.specs.steps.Held.{row_of, held, AreTrees, Reaches}
use Rattle.om_recover.specs.declared.rows.trees.Base.{Base}
use Rattle.om_recover.specs.declared.rows.trees.Bases.{Bases}
use Rattle.om_recover.specs.declared.rows.trees.Trees.{Trees}
use Rattle.om_recover.specs.declared.row.RowKind.TheVariants.{Checkpoint, Log}
use Rattle.om_recover.proofs.PlaceLemmas.{exact_places}
use Rattle.om_recover.proofs.HeldLemmas.{as_log, as_base, held_at, held_log, held_base}
use Rattle.om_recover.proofs.AddingLemmas.{same_rows}
use Rattle.om_recover.proofs.StableLemmas.{stable_by_records, record_of_stable}
use Rattle.om_recover.proofs.ClimbLemmas.{at_most_or_more}
use Rattle.om_recover.proofs.CuttingLemmas.{of_retained, retained, of_cut, of_pruned, has_among, has_after_cut, has_after_prune}

-- the entries that pass a test, each with its value changed
abbrev pub changed : {K X : Type 0} → (K → Bool) → (K → X → X) → List (K × X) → List (K × X)
changed test change [] = []
changed test change (e ∷ entries) = cond (test e.0) ((e.0, change e.0 e.1) ∷ changed test change entries) (changed test change entries)

-- what a closure retains that tests the key, changes the value, and stays as it is
pub changed_pairs : {F K X : Type 0} (T : F → K → X → Bool → X → F → Type 0) (test : K → Bool) (change : K → X → X) (f : F)
    → ((k : K) (v : X) (b : Bool) (w : X) (f' : F) → T f k v b w f' → (b ≡ test k) × (w ≡ change k v) × (f' ≡ f))
    → (entries kept : List (K × X)) → RetainsPairs T f entries kept → kept ≡ changed test change entries
changed_pairs T test change f called [] kept ran = ran
changed_pairs {F} {K} {X} T test change f called (e ∷ entries) kept ran =
    let one = called e.0 e.1 ran.0 ran.1 ran.2 ran.4 in
    let rest = changed_pairs T test change f called entries ran.3 (subst (λ (g : F). RetainsPairs T g entries ran.3) one.2 ran.5) in
    ran.6 ∙ ap (λ b. cond b ((e.0, ran.1) ∷ ran.3) ran.3) one.0 ∙ (λ i. cond (test e.0) ((e.0, one.1 i) ∷ rest i) (rest i))

-- what is left at a place
pub at_changed : {X : Type 0} (test : ℕ × ℕ → Bool) (change : ℕ × ℕ → X → X) (entries : List ((ℕ × ℕ) × X)) (p x : ℕ)
    → at (changed test change entries) p x ≡ cond (test (p, x)) (option_map (change (p, x)) (at entries p x)) None
at_changed {X} test change [] p x = elim (test (p, x)) as (λ b. ◌≡◌ {A = Option X} None (cond b None None)) [ true ↦ refl | false ↦ refl ]
at_changed {X} test change (e ∷ entries) p x =
    let rest = at_changed test change entries p x in
    let same = λ (is : is_at (place_cmp (p, x)) e.0 ≡ true). exact_places (p, x) e.0 ((Equal-is (place_cmp (p, x) e.0)).0 is) in
    elim (is_at (place_cmp (p, x)) e.0) as (λ here. is_at (place_cmp (p, x)) e.0 ≡ here
    → at (cond (test e.0) ((e.0, change e.0 e.1) ∷ changed test change entries) (changed test change entries)) p x ≡ cond (test (p, x)) (option_map (change (p, x)) (cond here (Some e.1) (at entries p x))) None) [
      | true ↦ λ is. elim (test e.0) as (λ b. test e.0 ≡ b → at (cond b ((e.0, change e.0 e.1) ∷ changed test change entries) (changed test change entries)) p x ≡ cond (test (p, x)) (Some (change (p, x) e.1)) None) [
        | true ↦ λ passes.
            let one : cond (test (p, x)) (Some (change (p, x) e.1)) None ≡ Some (change e.0 e.1) = ap (λ b. cond b (Some (change (p, x) e.1)) None) (ap test (same is) ∙ passes) ∙ ap (λ (place : ℕ × ℕ). Some (change place e.1)) (same is) in
            ap (λ b. cond b (Some (change e.0 e.1)) (at (changed test change entries) p x)) is ∙ sym one
        | false ↦ λ fails. rest ∙ ap (λ b. cond b (option_map (change (p, x)) (at entries p x)) None) (ap test (same is) ∙ fails) ∙ sym (ap (λ b. cond b (Some (change (p, x) e.1)) None) (ap test (same is) ∙ fails))
      ] refl
      | false ↦ λ is. elim (test e.0) as (λ b. at (cond b ((e.0, change e.0 e.1) ∷ changed test change entries) (changed test change entries)) p x ≡ cond (test (p, x)) (option_map (change (p, x)) (at entries p x)) None) [
        | true ↦ ap (λ b. cond b (Some (change e.0 e.1)) (at (changed test change entries) p x)) is ∙ rest
        | false ↦ rest
      ]
    ] refl

-- what some mapped value comes from
mapped : {X : Type 0} (f : X → X) (entry : Option X) (value : X) → option_map f entry ≡ Some value → (old : X) × (entry ≡ Some old) × (f old ≡ value)
mapped f None value is = absurd (cc)
mapped f (Some old) value is = let one : f old ≡ value = cc in (old, refl, one)

passed : {X : Type 0} (b : Bool) (entry : Option X) (value : X) → cond b entry None ≡ Some value → (b ≡ true) × (entry ≡ Some value)
passed true entry value is = (refl, is)
passed false entry value is = absurd (cc)

-- of the checkpoints that were kept, what each was
pub base_was_kept : (test : ℕ × ℕ → Bool) (change : ℕ × ℕ → Base → Base) (old new : Bases) (p x : ℕ) (value : Base) → AreBasesPart test change old new → at (base_entries new) p x ≡ Some value
    → (before : Base) × (test (p, x) ≡ true) × (at (base_entries old) p x ≡ Some before) × (change (p, x) before ≡ value)
base_was_kept test change old new p x value part there =
    let found = passed (test (p, x)) (option_map (change (p, x)) (at (base_entries old) p x)) value (sym (part.part p x) ∙ there) in
    let from = mapped (change (p, x)) (at (base_entries old) p x) value found.1 in
    (from.0, found.0, from.1, from.2)

pub base_is_kept : (test : ℕ × ℕ → Bool) (change : ℕ × ℕ → Base → Base) (old new : Bases) (p x : ℕ) (value : Base) → AreBasesPart test change old new → test (p, x) ≡ true → at (base_entries old) p x ≡ Some value
    → at (base_entries new) p x ≡ Some (change (p, x) value)
base_is_kept test change old new p x value part passes there =
    part.part p x ∙ ap (λ b. cond b (option_map (change (p, x)) (at (base_entries old) p x)) None) passes ∙ ap (option_map (change (p, x))) there

-- the rows that are left where both trees keep the places that pass a test
pub held_part : (before after : Trees) (test : ℕ × ℕ → Bool) (change : ℕ × ℕ → Base → Base) → ((place : ℕ × ℕ) (base : Base) → (change place base).vectors ≡ base.vectors) → AreTrees before → AreTrees after
    → ArePart test before.logs after.logs → AreBasesPart test change before.bases after.bases
    → held after ≡ set.retain (held before) (λ row. test (row.pid, row.interval))
held_part before after test change kept_vectors sorted sorted_after logs_are bases_are = same_rows _ _
    (λ row there. elim (held_at after row sorted_after there) [
      | as_log v kind_is is row_is ↦
          let was = passed (test (row.pid, row.interval)) (at (log_entries before.logs) row.pid row.interval) v (sym (logs_are.part row.pid row.interval) ∙ is) in
          retained (held before) _ row (subst (HasRow (held before)) (sym row_is) (held_log before row.pid row.interval v was.1)) was.0
      | as_base b kind_is is row_is ↦
          let was = base_was_kept test change before.bases after.bases row.pid row.interval b bases_are is in
          let vectors = ap (λ (b : Base). b.vectors) (sym was.3) ∙ kept_vectors (row.pid, row.interval) was.0 in
          retained (held before) _ row (subst (HasRow (held before)) (sym (row_is ∙ ap (row_of Checkpoint row.pid row.interval) vectors)) (held_base before row.pid row.interval was.0 was.2)) was.1
    ])
    (λ row there.
    let old = of_retained (held before) _ row there in
    elim (held_at before row sorted old.0) [
      | as_log v kind_is is row_is ↦ subst (HasRow (held after)) (sym row_is)
          (held_log after row.pid row.interval v (logs_are.part row.pid row.interval ∙ ap (λ b. cond b (at (log_entries before.logs) row.pid row.interval) None) old.1 ∙ is))
      | as_base b kind_is is row_is ↦
          subst (HasRow (held after)) (sym (row_is ∙ ap (row_of Checkpoint row.pid row.interval) (sym (kept_vectors (row.pid, row.interval) b))))
          (held_base after row.pid row.interval (change (row.pid, row.interval) b) (base_is_kept test change before.bases after.bases row.pid row.interval b bases_are old.1 is))
    ])

-- how far a checkpoint reaches after a cut
pub reaches_after_cut : (rows : Rows) (state : List ℕ) (p x last : ℕ) → Reaches rows p x last → Reaches (cut_to rows state) p x (min last (slice_index state p))
reaches_after_cut rows state p x last reaches = record {
  stable = λ y above below. stable_by_records rows (cut_to rows state) p y (λ kind z under has. has_after_cut rows state kind p z (omega (arith, under, below)) has) (reaches.stable y above (omega (arith, below)));
  whole = λ y above stable next.
      let has = (record_of_stable (cut_to rows state) p y stable).1 in
      let within : has.row.interval ≤ slice_index state p = subst (λ q. has.row.interval ≤ slice_index state q) has.pid_is (of_cut rows state has.row has.there).1 in
      let before : IsStable rows p y = stable_by_records (cut_to rows state) rows p y (λ kind z _. has_among (cut_to rows state) rows kind p z (λ row there. (of_cut rows state row there).0)) stable in
      let reached : y ≤ last = reaches.whole y above before (λ other has_other below. next other (has_after_cut rows state Checkpoint p other (omega (arith, below, within, has.interval_is)) has_other) below) in
      omega (arith, reached, within, has.interval_is);
}

-- and after a prune
pub reaches_after_prune : (rows : Rows) (checkpoints : List ℕ) (p x last : ℕ) → slice_index checkpoints p ≤ x → Has rows Checkpoint p x → Reaches rows p x last → Reaches (pruned_to rows checkpoints) p x last
reaches_after_prune rows checkpoints p x last far has reaches = record {
  stable = λ y above below.
      let before = reaches.stable y above below in
      elim (at_most_or_more before.from x) [
        | inl early ↦ record {
          from = x;
          checkpoint = has_after_prune rows checkpoints Checkpoint p x far has;
          below = above;
          logged = λ z over under. has_after_prune rows checkpoints Log p z (omega (arith, far, over)) (before.logged z (omega (arith, early, over)) under);
        }
        | inr late ↦ record {
          from = before.from;
          checkpoint = has_after_prune rows checkpoints Checkpoint p before.from (omega (arith, far, late)) before.checkpoint;
          below = before.below;
          logged = λ z over under. has_after_prune rows checkpoints Log p z (omega (arith, far, late, over)) (before.logged z over under);
        }
      ];
  whole = λ y above stable next. reaches.whole y above
      (stable_by_records (pruned_to rows checkpoints) rows p y (λ kind z _. has_among (pruned_to rows checkpoints) rows kind p z (λ row there. (of_pruned rows checkpoints row there).0)) stable)
      (λ other has_other below. elim (at_most_or_more other x) [
        | inl within ↦ within
        | inr past ↦ next other (has_after_prune rows checkpoints Checkpoint p other (omega (arith, far, past)) has_other) below
      ]);
}
