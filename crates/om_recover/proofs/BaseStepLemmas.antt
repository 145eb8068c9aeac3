use Rattle.std.proofs.Common.{◌≡◌, ℕ, zero, suc, ◌+◌, ◌<◌, ◌≤◌, inl, inr, refl, sym, ◌∙◌, ap, subst, arith, Bool, true, false, true≢false, is_some, IsSome, Option, Some, None, List, [], ◌∷◌, ◌++◌, cond, length, slice_get, slice_index_or, slice_set}
use Rattle.std.specs.Option.{option_map}
use Rattle.std.proofs.lemmas.Bool.{cases_eq, cases_lt}
use Rattle.std.proofs.lemmas.Option.{slice_get_read, slice_get_past, slice_get_cases, get_or_from_slice_get}
use Rattle.om_recover.specs.steps.Nearest.{at, AreSorted, IsPut, IsNearestFrom, HasNoneFrom}
use Rattle.om_recover.specs.steps.Bases.{newest_of, base_entries, newest_part, IsNewest, HasNoNewest, AreBases, IsStored, AreSameBases, AreBasesPart, AreNewestPart, IsShelved, IsTop, HaveNoBases}
use Rattle.om_recover.specs.declared.rows.trees.Base.{Base}
use Rattle.om_recover.specs.declared.rows.trees.Newest.{Newest}
use Rattle.om_recover.specs.declared.rows.trees.Bases.{Bases}
use Rattle.om_recover.proofs.BaseLemmas.{newest_at, no_newest_at, newest_cases, one_newest, beside_newest, to_newest}
use Rattle.om_recover.proofs.RunLemmas.{get_set_same, get_set_other}

interval_is : (x y : ℕ) (one other : Base) → newest_of x one ≡ newest_of y other → x ≡ y
interval_is x y one other same = ap (λ (n : Newest). n.interval) same

-- a place of the checkpoints, where the newest or the tree says it
same_place : (old new : Bases) (q y : ℕ) → ((base : Base) → IsNewest old.newest.items q y base → IsNewest new.newest.items q y base)
    → ((base : Base) → IsNewest new.newest.items q y base → IsNewest old.newest.items q y base) → at new.others.entries q y ≡ at old.others.entries q y → at (base_entries new) q y ≡ at (base_entries old) q y
same_place old new q y to from same = elim (newest_cases old.newest.items q) [
  | inl newest ↦ elim (cases_eq newest.0 y) [
    | inl is ↦
        let own : IsNewest old.newest.items q y newest.1 = subst (λ z. IsNewest old.newest.items q z newest.1) is newest.2 in
        newest_at new q y newest.1 (to newest.1 own) ∙ sym (newest_at old q y newest.1 own)
    | inr apart ↦
        let none = λ (base : Base) (own : IsNewest old.newest.items q y base). apart (interval_is newest.0 y newest.1 base (one_newest old.newest.items q newest.0 y newest.1 base newest.2 own)) in
        no_newest_at new q y (λ base own. none base (from base own)) ∙ same ∙ sym (no_newest_at old q y none)
  ]
  | inr none ↦ no_newest_at new q y (λ base own. none y base (from base own)) ∙ same ∙ sym (no_newest_at old q y (λ base own. none y base own))
]

-- the checkpoints where their tree has one more, below the newest
pub stored_below : (old new : Bases) (p x : ℕ) (base : Base) → AreBases old → at (base_entries old) p x ≡ None → ((y : ℕ) (other : Base) → IsNewest old.newest.items p y other → x < y)
    → new.newest ≡ old.newest → IsPut old.others.entries new.others.entries p x base → IsStored old new p x base
stored_below old new p x base are free above same put =
    let is : new.newest.items ≡ old.newest.items = ap (λ (newest : _). newest.items) same in
    let to = λ (q y : ℕ) (other : Base) (own : IsNewest old.newest.items q y other). subst (λ newest. IsNewest newest q y other) (sym is) own in
    let from = λ (q y : ℕ) (other : Base) (own : IsNewest new.newest.items q y other). subst (λ newest. IsNewest newest q y other) is own in
    record {
      sorted = record {
        sorted = put.sorted;
        below = λ q y z other some own. elim (cases_eq q p) [
          | inl same_process ↦ elim (cases_eq y x) [
            | inl here ↦ omega (arith, above z other (subst (λ q. IsNewest old.newest.items q z other) same_process (from q z other own)), here)
            | inr elsewhere ↦ are.below q y z other (subst IsSome (put.others q y (λ _ here. elsewhere here)) some) (from q z other own)
          ]
          | inr elsewhere ↦ are.below q y z other (subst IsSome (put.others q y (λ own_process _. elsewhere own_process)) some) (from q z other own)
        ];
      };
      here = no_newest_at new p x (λ other own. absurd (omega (arith, above x other (from p x other own)))) ∙ put.here;
      others = λ q y elsewhere. same_place old new q y (to q y) (from q y) (put.others q y elsewhere);
    }

-- or the tree is as it was
pub same_tree : (old new : Bases) → AreBases old → new.newest ≡ old.newest → new.others.entries ≡ old.others.entries → AreSameBases old new
same_tree old new are same others =
    let is : new.newest.items ≡ old.newest.items = ap (λ (newest : _). newest.items) same in
    let others_at = λ (q y : ℕ). ap (λ (entries : List ((ℕ × ℕ) × Base)). at entries q y) others in
    record {
      sorted = record {
        sorted = subst (λ (entries : List ((ℕ × ℕ) × Base)). AreSorted entries) (sym others) are.sorted;
        below = λ q y z other some own. are.below q y z other (subst IsSome (others_at q y) some) (subst (λ newest. IsNewest newest q z other) is own);
      };
      same = λ q y. same_place old new q y (λ other own. subst (λ newest. IsNewest newest q y other) (sym is) own) (λ other own. subst (λ newest. IsNewest newest q y other) is own) (others_at q y);
    }

tree_some : (bases : Bases) (q y : ℕ) → AreBases bases → IsSome (at bases.others.entries q y) → IsSome (at (base_entries bases) q y)
tree_some bases q y are some =
    subst IsSome (sym (no_newest_at bases q y (λ base own. absurd (omega (arith, are.below q y y base some own))))) some

shelved_beside : (old middle : Bases) (p q y : ℕ) → (q ≡ p → ⊥) → IsShelved old middle p → at middle.others.entries q y ≡ at old.others.entries q y
shelved_beside old middle p q y apart shelved = elim (newest_cases old.newest.items p) [
  | inl newest ↦ (shelved.put newest.0 newest.1 newest.2).others q y (λ own _. apart own)
  | inr none ↦ ap (λ (others : _). at others.entries q y) (shelved.left none)
]

shelved_at : (old middle : Bases) (p y : ℕ) → IsShelved old middle p → at middle.others.entries p y ≡ at (base_entries old) p y
shelved_at old middle p y shelved = elim (newest_cases old.newest.items p) [
  | inl newest ↦
      let put = shelved.put newest.0 newest.1 newest.2 in
      elim (cases_eq y newest.0) [
        | inl here ↦ subst (λ y. at middle.others.entries p y ≡ at (base_entries old) p y) (sym here) (put.here ∙ sym (newest_at old p newest.0 newest.1 newest.2))
        | inr apart ↦ put.others p y (λ _ here. apart here) ∙ sym (beside_newest old p newest.0 y newest.1 newest.2 apart)
      ]
  | inr none ↦ ap (λ (others : _). at others.entries p y) (shelved.left none) ∙ sym (no_newest_at old p y (λ base own. none y base own))
]

-- what the tree has once the newest is put there too
shelved_some : (old middle : Bases) (p q y : ℕ) → AreBases old → IsShelved old middle p → IsSome (at middle.others.entries q y) → IsSome (at (base_entries old) q y) × ((q ≡ p → ⊥) → IsSome (at old.others.entries q y))
shelved_some old middle p q y are shelved some = elim (newest_cases old.newest.items p) [
  | inl newest ↦
      let put = shelved.put newest.0 newest.1 newest.2 in
      elim (cases_eq q p) [
        | inl same ↦ elim (cases_eq y newest.0) [
          | inl here ↦ (
            subst (λ q. IsSome (at (base_entries old) q y)) (sym same) (subst (λ y. IsSome (at (base_entries old) p y)) (sym here) (ap is_some (newest_at old p newest.0 newest.1 newest.2))),
            λ apart. absurd (apart same),
          )
          | inr apart ↦
              let there : IsSome (at old.others.entries q y) = subst IsSome (put.others q y (λ _ here. apart here)) some in
              (tree_some old q y are there, λ _. there)
        ]
        | inr apart ↦
            let there : IsSome (at old.others.entries q y) = subst IsSome (put.others q y (λ own _. apart own)) some in
            (tree_some old q y are there, λ _. there)
      ]
  | inr none ↦
      let there : IsSome (at old.others.entries q y) = subst IsSome (ap (λ (others : _). at others.entries q y) (shelved.left none)) some in
      (tree_some old q y are there, λ _. there)
]

-- the checkpoints with a newest one
pub stored_on_top : (old middle new : Bases) (p x : ℕ) (base : Base) → AreBases old → IsTop old p x → IsShelved old middle p → new.newest.items ≡ slice_set middle.newest.items p (Some (newest_of x base))
    → new.others ≡ middle.others → IsStored old new p x base
stored_on_top old middle new p x base are top shelved newest_is others_is =
    let items : new.newest.items ≡ slice_set old.newest.items p (Some (newest_of x base)) = newest_is ∙ ap (λ (newest : _). slice_set newest.items p (Some (newest_of x base))) shelved.newest in
    let own : IsNewest new.newest.items p x base = ap (λ newest. slice_get newest p) items ∙ get_set_same old.newest.items p (Some (newest_of x base)) top.slot top.own in
    let beside = λ (q : ℕ) (apart : q ≡ p → ⊥). ap (λ newest. slice_get newest q) items ∙ get_set_other old.newest.items p q (Some (newest_of x base)) apart in
    let tree_at = λ (q y : ℕ). ap (λ (others : _). at others.entries q y) others_is in
    record {
      sorted = record {
        sorted = subst (λ (others : _). AreSorted others.entries) (sym others_is) shelved.sorted;
        below = λ q y z other some is.
            let known = shelved_some old middle p q y are shelved (subst IsSome (tree_at q y) some) in
            elim (cases_eq q p) [
              | inl same ↦
                  let at_x : z ≡ x = interval_is z x other base (one_newest new.newest.items p z x other base (subst (λ q. IsNewest new.newest.items q z other) same is) own) in
                  omega (arith, top.above y (subst (λ q. IsSome (at (base_entries old) q y)) same known.0), at_x)
              | inr apart ↦ are.below q y z other (known.1 apart) (sym (beside q apart) ∙ is)
            ];
      };
      here = newest_at new p x base own;
      others = λ q y elsewhere. elim (cases_eq q p) [
        | inl same ↦
            let off : y ≡ x → ⊥ = λ here. elsewhere same here in
            subst (λ q. at (base_entries new) q y ≡ at (base_entries old) q y) (sym same) (beside_newest new p x y base own off ∙ tree_at p y ∙ shelved_at old middle p y shelved)
        | inr apart ↦ same_place old new q y (λ other is. beside q apart ∙ is) (λ other is. sym (beside q apart) ∙ is) (tree_at q y ∙ shelved_beside old middle p q y apart shelved)
      ];
    }

-- the checkpoints where one comes to reach another
pub set_in_newest : (old new : Bases) (p x : ℕ) (was is : Base) → AreBases old → IsNewest old.newest.items p x was → new.newest.items ≡ slice_set old.newest.items p (Some (newest_of x is)) → new.others ≡ old.others → IsStored old new p x is
set_in_newest old new p x was is are own items others_is =
    let own_new : IsNewest new.newest.items p x is = ap (λ newest. slice_get newest p) items ∙ get_set_same old.newest.items p (Some (newest_of x is)) (Some (newest_of x was)) own in
    let beside = λ (q : ℕ) (apart : q ≡ p → ⊥). ap (λ newest. slice_get newest q) items ∙ get_set_other old.newest.items p q (Some (newest_of x is)) apart in
    let tree_at = λ (q y : ℕ). ap (λ (others : _). at others.entries q y) others_is in
    record {
      sorted = record {
        sorted = subst (λ (others : _). AreSorted others.entries) (sym others_is) are.sorted;
        below = λ q y z other some there. elim (cases_eq q p) [
          | inl same ↦
              let at_x : z ≡ x = interval_is z x other is (one_newest new.newest.items p z x other is (subst (λ q. IsNewest new.newest.items q z other) same there) own_new) in
              omega (arith, are.below p y x was (subst (λ q. IsSome (at old.others.entries q y)) same (subst IsSome (tree_at q y) some)) own, at_x)
          | inr apart ↦ are.below q y z other (subst IsSome (tree_at q y) some) (sym (beside q apart) ∙ there)
        ];
      };
      here = newest_at new p x is own_new;
      others = λ q y elsewhere. elim (cases_eq q p) [
        | inl same ↦
            let off : y ≡ x → ⊥ = λ here. elsewhere same here in
            subst (λ q. at (base_entries new) q y ≡ at (base_entries old) q y) (sym same) (beside_newest new p x y is own_new off ∙ tree_at p y ∙ sym (beside_newest old p x y was own off))
        | inr apart ↦ same_place old new q y (λ other there. beside q apart ∙ there) (λ other there. sym (beside q apart) ∙ there) (tree_at q y)
      ];
    }

pub set_in_tree : (old new : Bases) (p x : ℕ) (was is : Base) → AreBases old → ((base : Base) → IsNewest old.newest.items p x base → ⊥) → at old.others.entries p x ≡ Some was → new.newest ≡ old.newest
    → IsPut old.others.entries new.others.entries p x is → IsStored old new p x is
set_in_tree old new p x was is are off there same put =
    let items : new.newest.items ≡ old.newest.items = ap (λ (newest : _). newest.items) same in
    let to = λ (q y : ℕ) (other : Base) (own : IsNewest old.newest.items q y other). subst (λ newest. IsNewest newest q y other) (sym items) own in
    let from = λ (q y : ℕ) (other : Base) (own : IsNewest new.newest.items q y other). subst (λ newest. IsNewest newest q y other) items own in
    record {
      sorted = record {
        sorted = put.sorted;
        below = λ q y z other some own. elim (cases_eq q p) [
          | inl same_process ↦ elim (cases_eq y x) [
            | inl here ↦ omega (arith, are.below p x z other (ap is_some there) (subst (λ q. IsNewest old.newest.items q z other) same_process (from q z other own)), here)
            | inr elsewhere ↦ are.below q y z other (subst IsSome (put.others q y (λ _ here. elsewhere here)) some) (from q z other own)
          ]
          | inr elsewhere ↦ are.below q y z other (subst IsSome (put.others q y (λ own_process _. elsewhere own_process)) some) (from q z other own)
        ];
      };
      here = no_newest_at new p x (λ other own. off other (from p x other own)) ∙ put.here;
      others = λ q y elsewhere. same_place old new q y (to q y) (from q y) (put.others q y elsewhere);
    }

-- the newest checkpoints of the processes before one have their part, the others are as they were
pub record AreNewestPartBelow (test : ℕ × ℕ → Bool) (change : ℕ × ℕ → Base → Base) (p : ℕ) (old new : List (Option Newest)) : Type 0 where
  pub before : (q : ℕ) → q < p → slice_get new q ≡ option_map (newest_part test change q) (slice_get old q)
  pub behind : (q : ℕ) → p ≤ q → slice_get new q ≡ slice_get old q

pub newest_start : (test : ℕ × ℕ → Bool) (change : ℕ × ℕ → Base → Base) (newest : List (Option Newest)) → AreNewestPartBelow test change 0 newest newest
newest_start test change newest = record { before = λ q below. absurd (omega (arith, below)); behind = λ q _. refl }

pub newest_step : (test : ℕ × ℕ → Bool) (change : ℕ × ℕ → Base → Base) (old newest : List (Option Newest)) (p : ℕ) (was is : Option Newest) → p < length newest → was ≡ slice_index_or newest p was → is ≡ newest_part test change p was
    → AreNewestPartBelow test change p old newest → AreNewestPartBelow test change (p + 1) old (slice_set newest p is)
newest_step test change old newest p was is within read part so_far =
    let own : slice_get newest p ≡ Some was = slice_get_read newest (length newest) p was refl within read in
    record {
      before = λ q below. elim (cases_eq q p) [
        | inl same ↦ subst (λ q. slice_get (slice_set newest p is) q ≡ option_map (newest_part test change q) (slice_get old q)) (sym same)
            (get_set_same newest p is was own ∙ ap Some part ∙ ap (option_map (newest_part test change p)) (sym own ∙ so_far.behind p (omega arith)))
        | inr apart ↦ get_set_other newest p q is apart ∙ so_far.before q (omega (arith, below, apart))
      ];
      behind = λ q far. get_set_other newest p q is (λ same. omega (arith, same, far)) ∙ so_far.behind q (omega (arith, far));
    }

pub newest_ends : (test : ℕ × ℕ → Bool) (change : ℕ × ℕ → Base → Base) (p : ℕ) (old new : List (Option Newest)) → length new ≤ p → AreNewestPartBelow test change p old new → AreNewestPart test change old new
newest_ends test change p old new all part q = elim (cases_lt q p) [
  | inl below ↦ part.before q below
  | inr far ↦
      let none : slice_get new q ≡ None = slice_get_past new q (omega (arith, all, far)) in
      none ∙ ap (option_map (newest_part test change q)) (sym none ∙ part.behind q far)
]

-- what a process's newest is after that, and what it was
newest_was : (test : ℕ × ℕ → Bool) (change : ℕ × ℕ → Base → Base) (q y : ℕ) (other : Base) (slot : Option (Option Newest)) → option_map (newest_part test change q) slot ≡ Some (Some (newest_of y other))
    → (was : Base) × (slot ≡ Some (Some (newest_of y was))) × (test (q, y) ≡ true) × (other ≡ change (q, y) was)
newest_was test change q y other None is = absurd (cc)
newest_was test change q y other (Some None) is = absurd (cc)
newest_was test change q y other (Some (Some newest)) is =
    elim (test (q, newest.interval)) as (λ b. test (q, newest.interval) ≡ b → ◌≡◌ {A = Option (Option Newest)} (Some (cond b (Some (newest_of newest.interval (change (q, newest.interval) newest.base))) None)) (Some (Some (newest_of y other)))
    → (was : Base) × (◌≡◌ {A = Option (Option Newest)} (Some (Some newest)) (Some (Some (newest_of y was)))) × (test (q, y) ≡ true) × (other ≡ change (q, y) was)) [
      | true ↦ λ passes same.
          let one : newest_of newest.interval (change (q, newest.interval) newest.base) ≡ newest_of y other = cc in
          let at_y : newest.interval ≡ y = ap (λ (n : Newest). n.interval) one in
          let based : change (q, newest.interval) newest.base ≡ other = ap (λ (n : Newest). n.base) one in
          (newest.base, (λ i. Some (Some (newest_of (at_y i) newest.base))), subst (λ y. test (q, y) ≡ true) at_y passes, sym based ∙ ap (λ y. change (q, y) newest.base) at_y)
      | false ↦ λ _ same. absurd (cc)
    ] refl is

newest_stays : (test : ℕ × ℕ → Bool) (change : ℕ × ℕ → Base → Base) (old new : List (Option Newest)) (q y : ℕ) (was : Base) → AreNewestPart test change old new → IsNewest old q y was → test (q, y) ≡ true → IsNewest new q y (change (q, y) was)
newest_stays test change old new q y was part own passes =
    part q ∙ ap (option_map (newest_part test change q)) own ∙ ap (λ b. Some (cond b (Some (newest_of y (change (q, y) was))) None)) passes

some_left : (b : Bool) (o : Option Base) (f : Base → Base) → IsSome (cond b (option_map f o) None) → IsSome o
some_left true None f some = absurd (true≢false (sym some))
some_left true (Some value) f some = refl
some_left false o f some = absurd (true≢false (sym some))

-- what is left of checkpoints
pub bases_part : (test : ℕ × ℕ → Bool) (change : ℕ × ℕ → Base → Base) (old new : Bases) → AreBases old → AreSorted new.others.entries
    → ((p x : ℕ) → at new.others.entries p x ≡ cond (test (p, x)) (option_map (change (p, x)) (at old.others.entries p x)) None)
    → AreNewestPart test change old.newest.items new.newest.items → AreBasesPart test change old new
bases_part test change old new are sorted others_at newest =
    let was = λ (q y : ℕ) (other : Base) (own : IsNewest new.newest.items q y other). newest_was test change q y other (slice_get old.newest.items q) (sym (newest q) ∙ own) in
    record {
      sorted = record {
        sorted = sorted;
        below = λ q y z other some own. are.below q y z (was q z other own).0 (some_left (test (q, y)) (at old.others.entries q y) (change (q, y)) (subst IsSome (others_at q y) some)) (was q z other own).1;
      };
      part = λ p x. elim (newest_cases old.newest.items p) [
        | inl found ↦ elim (cases_eq found.0 x) [
          | inl same ↦
              let own : IsNewest old.newest.items p x found.1 = subst (λ z. IsNewest old.newest.items p z found.1) same found.2 in
              let old_at = newest_at old p x found.1 own in
              elim (test (p, x)) as (λ b. test (p, x) ≡ b → at (base_entries new) p x ≡ cond b (option_map (change (p, x)) (at (base_entries old) p x)) None) [
                | true ↦ λ passes. newest_at new p x (change (p, x) found.1) (newest_stays test change old.newest.items new.newest.items p x found.1 newest own passes) ∙ ap (option_map (change (p, x))) (sym old_at)
                | false ↦ λ fails.
                    no_newest_at new p x (λ other is. absurd (true≢false (sym (was p x other is).2 ∙ fails))) ∙ others_at p x ∙ ap (λ b. cond b (option_map (change (p, x)) (at old.others.entries p x)) None) fails
              ] refl
          | inr apart ↦
              no_newest_at new p x (λ other is. apart (interval_is found.0 x found.1 (was p x other is).0 (one_newest old.newest.items p found.0 x found.1 (was p x other is).0 found.2 (was p x other is).1))) ∙ others_at p x
              ∙ ap (λ (o : Option Base). cond (test (p, x)) (option_map (change (p, x)) o) None) (sym (beside_newest old p found.0 x found.1 found.2 (λ same. apart (sym same))))
        ]
        | inr none ↦
            no_newest_at new p x (λ other is. none x (was p x other is).0 (was p x other is).1) ∙ others_at p x
            ∙ ap (λ (o : Option Base). cond (test (p, x)) (option_map (change (p, x)) o) None) (sym (no_newest_at old p x (λ other own. none x other own)))
      ];
    }

pub none_more : (newest : List (Option Newest)) → ((p : ℕ) → HasNoNewest newest p) → (p : ℕ) → HasNoNewest (newest ++ None ∷ []) p
none_more [] none zero x base own = absurd (cc)
none_more [] none (suc p) x base own = absurd (cc)
none_more (n ∷ newest) none zero x base own = none zero x base own
none_more (n ∷ newest) none (suc p) x base own = none_more newest (λ p. none (suc p)) p x base own

-- no checkpoints
pub no_bases : (bases : Bases) → ((p : ℕ) → HasNoNewest bases.newest.items p) → AreSorted bases.others.entries → bases.others.entries ≡ [] → HaveNoBases bases
no_bases bases none sorted empty = record {
  sorted = record { sorted = sorted; below = λ p x y base _ own. absurd (none p y base own) };
  none = λ p x. no_newest_at bases p x (λ base own. none p x base own) ∙ ap (λ (entries : List ((ℕ × ℕ) × Base)). at entries p x) empty;
}

-- where no checkpoint is at the interval or above, the next is the newest
pub is_top_of : (bases : Bases) (p i x : ℕ) → i ≡ p → i < length bases.newest.items → HasNoneFrom (base_entries bases) p x → IsTop bases p x
is_top_of bases p i x same within none = elim (slice_get_cases bases.newest.items p).1 [
  | inl found ↦ record { slot = found.0; own = found.2; above = λ y some. elim (cases_lt y x) [ inl below ↦ below | inr far ↦ absurd (none y some far) ] }
  | inr past ↦ absurd (omega (arith, past.0, within, same))
]

-- and else the newest is above
pub above_free : (bases : Bases) (p x y z : ℕ) (base near : Base) → AreBases bases → IsNearestFrom (base_entries bases) p x z near → IsNewest bases.newest.items p y base → at (base_entries bases) p x ≡ None → x < y
above_free bases p x y z base near are nearest own free =
    let at_least : x ≤ y = omega (arith, nearest.within, to_newest bases p y z base are own (ap is_some nearest.there)) in
    elim (cases_eq x y) [
      | inl same ↦ let there : at (base_entries bases) p x ≡ Some base = subst (λ y. at (base_entries bases) p y ≡ Some base) (sym same) (newest_at bases p y base own) in absurd (cc)
      | inr apart ↦ omega (arith, at_least, apart)
    ]

-- what was read at a process's place is its newest
pub slot_is : (newest : List (Option Newest)) (p i x : ℕ) (base : Base) (slot : Option Newest) → i ≡ p → IsNewest newest p x base → slot ≡ slice_index_or newest i slot → slot ≡ Some (newest_of x base)
slot_is newest p i x base slot same own read =
    let at_p : slot ≡ slice_index_or newest p slot = subst (λ i. slot ≡ slice_index_or newest i slot) same read in
    at_p ∙ get_or_from_slice_get newest p (Some (newest_of x base)) slot own
