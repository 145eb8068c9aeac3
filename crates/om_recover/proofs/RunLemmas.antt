use Rattle.std.proofs.Common.{◌≡◌, ℕ, zero, suc, ◌+◌, ◌-◌, ◌<◌, ◌≤◌, ◌⊎◌, inl, inr, refl, sym, ◌∙◌, ap, subst, arith, true, true≢false, is_some, IsSome, Option, Some, None, Result, Ok, Err, OnErr, MatchOption, List, [], ◌∷◌, ◌++◌, length, slice_get, slice_index_or, slice_set, nat_lt}
use Rattle.std.proofs.lemmas.Bool.{cases_order, cases_eq, cases_lt, ltb-true}
use Rattle.std.proofs.lemmas.Option.{slice_get_read, slice_get_within, get_or_from_slice_get}
use Rattle.om_recover.specs.steps.Nearest.{at, AreSorted, IsNearestTo, IsNearestFrom, HasNoneTo, HasNoneFrom, IsPut}
use Rattle.om_recover.specs.steps.Logs.{log_entries, IsInRun, IsOutside, IsInRuns, IsOutsideRuns, AreLogs, IsRunTo, IsRunFrom, HasNoRunTo, HasNoRunFrom, IsLaid, AreSame, IsLonger, IsSameRun, ArePushed, AreSameRuns}
use Rattle.om_recover.specs.declared.rows.trees.Vectors.{Vectors}
use Rattle.om_recover.specs.declared.rows.trees.Run.{Run}
use Rattle.om_recover.specs.declared.rows.trees.Logs.{Logs}
use Rattle.om_recover.proofs.LogsLemmas.{in_runs_at, outside_at, runs_cases, outside_runs}

-- what was read of a list
pub read_at : {X : Type 0} (xs : List X) (p i : ℕ) (x : X) → i ≡ p → true ≡ nat_lt i (length xs) → x ≡ slice_index_or xs i x → slice_get xs p ≡ Some x
read_at xs p i x same within is = subst (λ i. slice_get xs i ≡ Some x) same (slice_get_read xs (length xs) i x refl (ltb-true i (length xs) (sym within)) is)

pub either_way : {A : Type 0} {N M : Type 0} {P Q : A → Type 0} (o : Option A) → (N → M) → ((a : A) → P a → Q a) → MatchOption o N P → MatchOption o M Q
either_way None none some is = none is
either_way (Some a) none some is = some a is

pub after_error : {A E : Type 0} (result : Result A E) (P : Type 0) → P → OnErr result P
after_error (Ok a) P holds = tt
after_error (Err e) P holds = holds

-- where the logs have one, a run has it or the tree
pub some_log_at : (logs : Logs) (p y : ℕ) → IsSome (at (log_entries logs) p y) → ((vectors : Vectors) × IsInRuns logs.runs.items p y vectors) ⊎ IsSome (at logs.others.entries p y)
some_log_at logs p y some = elim (runs_cases logs.runs.items p y) [
  | inl among ↦ inl among
  | inr outside ↦ inr (subst IsSome (outside_at logs p y outside) some)
]

-- what the tree has, the logs have
pub other_there : (logs : Logs) (p y : ℕ) (vectors : Vectors) → AreLogs logs → at logs.others.entries p y ≡ Some vectors → at (log_entries logs) p y ≡ Some vectors
other_there logs p y vectors are there = outside_at logs p y (are.apart p y (ap is_some there)) ∙ there

-- the nearest log at or below a bound
pub none_to : (logs : Logs) (p to : ℕ) → HasNoRunTo logs.runs.items p to → HasNoneTo logs.others.entries p to → HasNoneTo (log_entries logs) p to
none_to logs p to no_run none y some within = elim (some_log_at logs p y some) [ inl ran ↦ no_run y ran.0 ran.1 within | inr other ↦ none y other within ]

pub other_to : (logs : Logs) (p to x : ℕ) (vectors : Vectors) → AreLogs logs → ((y : ℕ) (other : Vectors) → IsInRuns logs.runs.items p y other → y ≤ to → y ≤ x)
    → IsNearestTo logs.others.entries p to x vectors → IsNearestTo (log_entries logs) p to x vectors
other_to logs p to x vectors are runs near = record {
  there = other_there logs p x vectors are near.there;
  within = near.within;
  nearest = λ y some below. elim (some_log_at logs p y some) [ inl ran ↦ runs y ran.0 ran.1 below | inr other ↦ near.nearest y other below ];
}

pub run_to : (logs : Logs) (p to x : ℕ) (vectors : Vectors) → ((y : ℕ) → IsSome (at logs.others.entries p y) → y ≤ to → y ≤ x)
    → IsRunTo logs.runs.items p to x vectors → IsNearestTo (log_entries logs) p to x vectors
run_to logs p to x vectors others near = record {
  there = in_runs_at logs p x vectors near.there;
  within = near.within;
  nearest = λ y some below. elim (some_log_at logs p y some) [ inl ran ↦ near.nearest y ran.0 ran.1 below | inr other ↦ others y other below ];
}

-- and at or above one
pub none_from : (logs : Logs) (p from : ℕ) → HasNoRunFrom logs.runs.items p from → HasNoneFrom logs.others.entries p from → HasNoneFrom (log_entries logs) p from
none_from logs p from no_run none y some within = elim (some_log_at logs p y some) [ inl ran ↦ no_run y ran.0 ran.1 within | inr other ↦ none y other within ]

pub other_from : (logs : Logs) (p from x : ℕ) (vectors : Vectors) → AreLogs logs → ((y : ℕ) (other : Vectors) → IsInRuns logs.runs.items p y other → from ≤ y → x ≤ y)
    → IsNearestFrom logs.others.entries p from x vectors → IsNearestFrom (log_entries logs) p from x vectors
other_from logs p from x vectors are runs near = record {
  there = other_there logs p x vectors are near.there;
  within = near.within;
  nearest = λ y some above. elim (some_log_at logs p y some) [ inl ran ↦ runs y ran.0 ran.1 above | inr other ↦ near.nearest y other above ];
}

pub run_from : (logs : Logs) (p from x : ℕ) (vectors : Vectors) → ((y : ℕ) → IsSome (at logs.others.entries p y) → from ≤ y → x ≤ y)
    → IsRunFrom logs.runs.items p from x vectors → IsNearestFrom (log_entries logs) p from x vectors
run_from logs p from x vectors others near = record {
  there = in_runs_at logs p x vectors near.there;
  within = near.within;
  nearest = λ y some above. elim (some_log_at logs p y some) [ inl ran ↦ near.nearest y ran.0 ran.1 above | inr other ↦ others y other above ];
}

-- a process has one run
pub one_run : (runs : List Run) (p y : ℕ) (run : Run) (vectors : Vectors) → slice_get runs p ≡ Some run → IsInRuns runs p y vectors → IsInRun run y vectors
one_run runs p y run vectors own among = let own_too = among.own in let same : among.run ≡ run = cc in subst (λ (run : Run). IsInRun run y vectors) same among.within

-- a run's logs stand from its first interval on
pub in_bounds : (run : Run) (y : ℕ) (vectors : Vectors) → IsInRun run y vectors → (run.first ≤ y) × (y < run.first + length run.logs)
in_bounds run y vectors within = let below = slice_get_within run.logs within.place vectors within.there in (omega (arith, within.stands_at), omega (arith, within.stands_at, below))

pub is_run_to : (runs : List Run) (p to x : ℕ) (run : Run) (vectors : Vectors) → slice_get runs p ≡ Some run → IsInRun run x vectors → x ≤ to → (to < run.first + length run.logs → to ≤ x)
    → (run.first + length run.logs ≤ to → run.first + length run.logs ≤ x + 1) → IsRunTo runs p to x vectors
is_run_to runs p to x run vectors own within below near far = record {
  there = record { run = run; own = own; within = within };
  within = below;
  nearest = λ y other among under.
      let bounds = in_bounds run y other (one_run runs p y run other own among) in
      elim (cases_lt to (run.first + length run.logs)) [
        | inl inside ↦ omega (arith, near inside, under)
        | inr past ↦ omega (arith, far past, bounds.1)
      ];
}

pub is_run_from : (runs : List Run) (p from x : ℕ) (run : Run) (vectors : Vectors) → slice_get runs p ≡ Some run → IsInRun run x vectors → from ≤ x → ((x ≤ from) ⊎ (x ≤ run.first)) → IsRunFrom runs p from x vectors
is_run_from runs p from x run vectors own within above least = record {
  there = record { run = run; own = own; within = within };
  within = above;
  nearest = λ y other among over.
      let bounds = in_bounds run y other (one_run runs p y run other own among) in
      elim least [ inl at ↦ omega (arith, at, over) | inr first ↦ omega (arith, first, bounds.0) ];
}

pub no_run_from : (runs : List Run) (p from : ℕ) (run : Run) → slice_get runs p ≡ Some run → length run.logs ≤ from - run.first → HasNoRunFrom runs p from
no_run_from runs p from run own past y other among above = let bounds = in_bounds run y other (one_run runs p y run other own among) in omega (arith, past, bounds.0, bounds.1, above)

-- a list in which one item was set
pub get_set_same : {X : Type 0} (xs : List X) (i : ℕ) (x y : X) → slice_get xs i ≡ Some y → slice_get (slice_set xs i x) i ≡ Some x
get_set_same [] i x y there = absurd (cc)
get_set_same (z ∷ xs) zero x y there = refl
get_set_same (z ∷ xs) (suc i) x y there = get_set_same xs i x y there

pub get_set_other : {X : Type 0} (xs : List X) (i j : ℕ) (x : X) → (j ≡ i → ⊥) → slice_get (slice_set xs i x) j ≡ slice_get xs j
get_set_other [] i j x apart = refl
get_set_other (z ∷ xs) zero zero x apart = absurd (apart refl)
get_set_other (z ∷ xs) zero (suc j) x apart = refl
get_set_other (z ∷ xs) (suc i) zero x apart = refl
get_set_other (z ∷ xs) (suc i) (suc j) x apart = get_set_other xs i j x (λ same. apart (ap suc same))

-- what becomes of the logs where one process's run is another
pub set_kept : (runs : List Run) (p : ℕ) (was is : Run) (Stays : ℕ → ℕ → Vectors → Type 0) → slice_get runs p ≡ Some was
    → ((y : ℕ) (other : Vectors) → Stays p y other → IsInRun was y other → IsInRun is y other)
    → (q y : ℕ) (other : Vectors) → Stays q y other → IsInRuns runs q y other → IsInRuns (slice_set runs p is) q y other
set_kept runs p was is Stays own kept q y other stays among = elim (cases_eq q p) [
  | inl same ↦
      let among_p : IsInRuns runs p y other = subst (λ q. IsInRuns runs q y other) same among in
      subst (λ q. IsInRuns (slice_set runs p is) q y other) (sym same)
      (record { run = is; own = get_set_same runs p is was own; within = kept y other (subst (λ q. Stays q y other) same stays) (one_run runs p y was other own among_p) })
  | inr apart ↦ record { run = among.run; own = get_set_other runs p q is apart ∙ among.own; within = among.within }
]

pub set_apart : (runs : List Run) (p : ℕ) (was is : Run) (Stays : ℕ → ℕ → Type 0) → slice_get runs p ≡ Some was
    → ((y : ℕ) → Stays p y → IsOutside was y → IsOutside is y)
    → (q y : ℕ) → Stays q y → IsOutsideRuns runs q y → IsOutsideRuns (slice_set runs p is) q y
set_apart runs p was is Stays own stay q y stays outside = elim (cases_eq q p) [
  | inl same ↦
      let out : IsOutside was y = outside was (subst (λ q. slice_get runs q ≡ Some was) (sym same) own) in
      subst (λ q. IsOutsideRuns (slice_set runs p is) q y) (sym same)
      (outside_runs (slice_set runs p is) p y is (get_set_same runs p is was own) (stay y (subst (λ q. Stays q y) same stays) out))
  | inr apart ↦ λ run there. outside run (sym (get_set_other runs p q is apart) ∙ there)
]

get_first : {X : Type 0} (xs ys : List X) (i : ℕ) (x : X) → slice_get xs i ≡ Some x → slice_get (xs ++ ys) i ≡ Some x
get_first [] ys i x there = absurd (cc)
get_first (z ∷ xs) ys zero x there = there
get_first (z ∷ xs) ys (suc i) x there = get_first xs ys i x there

get_last : {X : Type 0} (xs : List X) (x : X) → slice_get (xs ++ x ∷ []) (length xs) ≡ Some x
get_last [] x = refl
get_last (z ∷ xs) x = get_last xs x

length_more : {X : Type 0} (xs : List X) (x : X) → length (xs ++ x ∷ []) ≡ length xs + 1
length_more [] x = refl
length_more (z ∷ xs) x = omega (arith, length_more xs x)

-- a run with a log more
longer_here : (old new : Run) (x : ℕ) (vectors : Vectors) → IsLonger old new x vectors → IsInRun new x vectors
longer_here old new x vectors longer = record {
  place = length old.logs;
  stands_at = longer.ends;
  there = ap (λ items. slice_get items (length old.logs)) longer.logs ∙ get_last old.logs vectors;
}

longer_kept : (old new : Run) (x : ℕ) (vectors : Vectors) → IsLonger old new x vectors → (y : ℕ) (other : Vectors) → IsInRun old y other → IsInRun new y other
longer_kept old new x vectors longer y other within =
    let some = slice_get_within old.logs within.place other within.there in
    let first : new.first ≡ old.first = elim longer.first [ inl none ↦ absurd (omega (arith, none, some)) | inr same ↦ same ] in
    record {
      place = within.place;
      stands_at = omega (arith, first, within.stands_at);
      there = ap (λ items. slice_get items within.place) longer.logs ∙ get_first old.logs (vectors ∷ []) within.place other within.there;
    }

longer_apart : (old new : Run) (x : ℕ) (vectors : Vectors) → IsLonger old new x vectors → (y : ℕ) → (y ≡ x → ⊥) → IsOutside old y → IsOutside new y
longer_apart old new x vectors longer y apart outside =
    let ends = longer.ends in
    let count : length new.logs ≡ length old.logs + 1 = ap length longer.logs ∙ length_more old.logs vectors in
    elim longer.first [
      | inl none ↦ elim (cases_order y x) [
        | inl same ↦ absurd (apart same)
        | inr other ↦ elim other [ inl less ↦ inl (omega (arith, less, ends, none)) | inr more ↦ inr (omega (arith, more, ends, none, count)) ]
      ]
      | inr same ↦ elim outside [
        | inl less ↦ inl (omega (arith, less, same))
        | inr more ↦ elim (cases_order y x) [
          | inl here ↦ absurd (apart here)
          | inr other ↦ elim other [ inl less ↦ absurd (omega (arith, less, more, ends, same)) | inr past ↦ inr (omega (arith, past, ends, same, count)) ]
        ]
      ]
    ]

-- what stands at a process's place is its run
pub own_run : (runs : List Run) (p i : ℕ) (run was : Run) → i ≡ p → slice_get runs p ≡ Some run → was ≡ slice_index_or runs i was → was ≡ run
own_run runs p i run was same own read =
    let at_p : was ≡ slice_index_or runs p was = subst (λ i. was ≡ slice_index_or runs i was) same read in
    at_p ∙ get_or_from_slice_get runs p run was own

-- runs of which one has a log more
pub pushed : (runs : List Run) (p i x : ℕ) (run was longer : Run) (vectors : Vectors) → i ≡ p → slice_get runs p ≡ Some run → was ≡ slice_index_or runs i was → IsLonger was longer x vectors
    → ArePushed runs (slice_set runs i longer) p x vectors
pushed runs p i x run was longer vectors same own read grown =
    let at_p : was ≡ slice_index_or runs p was = subst (λ i. was ≡ slice_index_or runs i was) same read in
    let is : was ≡ run = at_p ∙ get_or_from_slice_get runs p run was own in
    let own_was : slice_get runs p ≡ Some was = own ∙ ap Some (sym is) in
    subst (λ i. ArePushed runs (slice_set runs i longer) p x vectors) (sym same) (record {
      here = record { run = longer; own = get_set_same runs p longer was own_was; within = longer_here was longer x vectors grown };
      kept = λ q y other among. set_kept runs p was longer (λ _ _ _. Unit {0}) own_was (λ y other _ within. longer_kept was longer x vectors grown y other within) q y other tt among;
      apart = λ q y outside elsewhere. set_apart runs p was longer (λ q y. q ≡ p → y ≡ x → ⊥) own_was (λ y elsewhere out. longer_apart was longer x vectors grown y (elsewhere refl) out) q y elsewhere outside;
    })

-- runs of which one is as it was
same_kept : (old new : Run) → IsSameRun old new → (y : ℕ) (other : Vectors) → IsInRun old y other → IsInRun new y other
same_kept old new same y other within = record {
  place = within.place;
  stands_at = omega (arith, same.first, within.stands_at);
  there = ap (λ items. slice_get items within.place) same.logs ∙ within.there;
}

same_apart : (old new : Run) → IsSameRun old new → (y : ℕ) → IsOutside old y → IsOutside new y
same_apart old new same y outside =
    let count : length new.logs ≡ length old.logs = ap length same.logs in
    elim outside [ inl less ↦ inl (omega (arith, less, same.first)) | inr more ↦ inr (omega (arith, more, same.first, count)) ]

pub not_pushed : (runs : List Run) (p i : ℕ) (run was new : Run) → i ≡ p → slice_get runs p ≡ Some run → was ≡ slice_index_or runs i was → IsSameRun was new → AreSameRuns runs (slice_set runs i new)
not_pushed runs p i run was new same own read still =
    let at_p : was ≡ slice_index_or runs p was = subst (λ i. was ≡ slice_index_or runs i was) same read in
    let is : was ≡ run = at_p ∙ get_or_from_slice_get runs p run was own in
    let own_was : slice_get runs p ≡ Some was = own ∙ ap Some (sym is) in
    subst (λ i. AreSameRuns runs (slice_set runs i new)) (sym same) (record {
      kept = λ q y other among. set_kept runs p was new (λ _ _ _. Unit {0}) own_was (λ y other _ within. same_kept was new still y other within) q y other tt among;
      apart = λ q y outside. set_apart runs p was new (λ _ _. Unit {0}) own_was (λ y _ out. same_apart was new still y out) q y tt outside;
    })

-- the logs where their runs have one more
pub laid_in_run : (old new : Logs) (p x : ℕ) (vectors : Vectors) → AreLogs old → at (log_entries old) p x ≡ None → new.others ≡ old.others → ArePushed old.runs.items new.runs.items p x vectors → IsLaid old new p x vectors
laid_in_run old new p x vectors are free same runs =
    let others_at = λ (q y : ℕ). ap (λ (others : _). at others.entries q y) same in
    record {
      sorted = record {
        sorted = subst (λ (others : _). AreSorted others.entries) (sym same) are.sorted;
        apart = λ q y some.
            let some_old : IsSome (at old.others.entries q y) = subst IsSome (others_at q y) some in
            runs.apart q y (are.apart q y some_old) (λ same_process here.
            let there : IsSome (at (log_entries old) q y) = subst IsSome (sym (outside_at old q y (are.apart q y some_old))) some_old in
            let none : at (log_entries old) q y ≡ None = subst (λ q. at (log_entries old) q y ≡ None) (sym same_process) (subst (λ y. at (log_entries old) p y ≡ None) (sym here) free) in
            true≢false (sym there ∙ ap is_some none));
      };
      here = in_runs_at new p x vectors runs.here;
      others = λ q y elsewhere. elim (runs_cases old.runs.items q y) [
        | inl among ↦ in_runs_at new q y among.0 (runs.kept q y among.0 among.1) ∙ sym (in_runs_at old q y among.0 among.1)
        | inr outside ↦ outside_at new q y (runs.apart q y outside elsewhere) ∙ others_at q y ∙ sym (outside_at old q y outside)
      ];
    }

-- or are as they were
pub same_logs : (old new : Logs) → AreLogs old → new.others ≡ old.others → AreSameRuns old.runs.items new.runs.items → AreSame old new
same_logs old new are same runs =
    let others_at = λ (q y : ℕ). ap (λ (others : _). at others.entries q y) same in
    record {
      sorted = record {
        sorted = subst (λ (others : _). AreSorted others.entries) (sym same) are.sorted;
        apart = λ q y some. runs.apart q y (are.apart q y (subst IsSome (others_at q y) some));
      };
      same = λ q y. elim (runs_cases old.runs.items q y) [
        | inl among ↦ in_runs_at new q y among.0 (runs.kept q y among.0 among.1) ∙ sym (in_runs_at old q y among.0 among.1)
        | inr outside ↦ outside_at new q y (runs.apart q y outside) ∙ others_at q y ∙ sym (outside_at old q y outside)
      ];
    }

-- the logs where their tree has one more
pub laid_in_tree : (old new : Logs) (p x : ℕ) (vectors : Vectors) → AreLogs old → at (log_entries old) p x ≡ None → new.runs ≡ old.runs → IsPut old.others.entries new.others.entries p x vectors → IsLaid old new p x vectors
laid_in_tree old new p x vectors are free same put =
    let runs_are : new.runs.items ≡ old.runs.items = ap (λ (runs : _). runs.items) same in
    let moved = λ (q y : ℕ) (outside : IsOutsideRuns old.runs.items q y). subst (λ runs. IsOutsideRuns runs q y) (sym runs_are) outside in
    let free_of_runs : IsOutsideRuns old.runs.items p x = elim (runs_cases old.runs.items p x) [
      | inl among ↦ let there = in_runs_at old p x among.0 among.1 in absurd (cc)
      | inr outside ↦ outside
    ] in
    record {
      sorted = record {
        sorted = put.sorted;
        apart = λ q y some. elim (cases_eq q p) [
          | inl same_process ↦ elim (cases_eq y x) [
            | inl here ↦ subst (λ q. IsOutsideRuns new.runs.items q y) (sym same_process) (subst (λ y. IsOutsideRuns new.runs.items p y) (sym here) (moved p x free_of_runs))
            | inr elsewhere ↦ moved q y (are.apart q y (subst IsSome (put.others q y (λ _ here. elsewhere here)) some))
          ]
          | inr elsewhere ↦ moved q y (are.apart q y (subst IsSome (put.others q y (λ own _. elsewhere own)) some))
        ];
      };
      here = outside_at new p x (moved p x free_of_runs) ∙ put.here;
      others = λ q y elsewhere. elim (runs_cases old.runs.items q y) [
        | inl among ↦ in_runs_at new q y among.0 (subst (λ runs. IsInRuns runs q y among.0) (sym runs_are) among.1) ∙ sym (in_runs_at old q y among.0 among.1)
        | inr outside ↦ outside_at new q y (moved q y outside) ∙ put.others q y elsewhere ∙ sym (outside_at old q y outside)
      ];
    }

-- logs are the same as themselves, and as those that are the same as others
pub still : (logs : Logs) → AreLogs logs → AreSame logs logs
still logs are = record { sorted = are; same = λ p x. refl }

pub same_again : (old middle new : Logs) → AreSame old middle → AreSame middle new → AreSame old new
same_again old middle new first second = record { sorted = second.sorted; same = λ p x. second.same p x ∙ first.same p x }

pub laid_again : (old middle new : Logs) (p x : ℕ) (vectors : Vectors) → IsLaid old middle p x vectors → AreSame middle new → IsLaid old new p x vectors
laid_again old middle new p x vectors laid same = record {
  sorted = same.sorted;
  here = same.same p x ∙ laid.here;
  others = λ q y elsewhere. same.same q y ∙ laid.others q y elsewhere;
}

moved_elsewhere : (old new : Logs) (q y : ℕ) → ((q y : ℕ) (other : Vectors) → IsInRuns old.runs.items q y other → IsInRuns new.runs.items q y other)
    → (IsOutsideRuns old.runs.items q y → IsOutsideRuns new.runs.items q y) → at new.others.entries q y ≡ at old.others.entries q y → at (log_entries new) q y ≡ at (log_entries old) q y
moved_elsewhere old new q y kept apart same = elim (runs_cases old.runs.items q y) [
  | inl among ↦ in_runs_at new q y among.0 (kept q y among.0 among.1) ∙ sym (in_runs_at old q y among.0 among.1)
  | inr outside ↦ outside_at new q y (apart outside) ∙ same ∙ sym (outside_at old q y outside)
]

-- a log that moved from the tree to a run is still there
pub moved_to_run : (old new : Logs) (p x : ℕ) (vectors : Vectors) → AreLogs old → at old.others.entries p x ≡ Some vectors → ArePushed old.runs.items new.runs.items p x vectors
    → AreSorted new.others.entries → at new.others.entries p x ≡ None → ((q y : ℕ) → (q ≡ p → y ≡ x → ⊥) → at new.others.entries q y ≡ at old.others.entries q y) → AreSame old new
moved_to_run old new p x vectors are there runs sorted gone left = record {
  sorted = record {
    sorted = sorted;
    apart = λ q y some. elim (cases_eq q p) [
      | inl same_process ↦ elim (cases_eq y x) [
        | inl here ↦
            let none : at new.others.entries q y ≡ None = subst (λ q. at new.others.entries q y ≡ None) (sym same_process) (subst (λ y. at new.others.entries p y ≡ None) (sym here) gone) in
            absurd (true≢false (sym some ∙ ap is_some none))
        | inr elsewhere ↦ runs.apart q y (are.apart q y (subst IsSome (left q y (λ _ here. elsewhere here)) some)) (λ _ here. elsewhere here)
      ]
      | inr elsewhere ↦ runs.apart q y (are.apart q y (subst IsSome (left q y (λ own _. elsewhere own)) some)) (λ own _. elsewhere own)
    ];
  };
  same = λ q y. elim (cases_eq q p) [
    | inl same_process ↦ elim (cases_eq y x) [
      | inl here ↦ subst (λ q. at (log_entries new) q y ≡ at (log_entries old) q y) (sym same_process) (subst (λ y. at (log_entries new) p y ≡ at (log_entries old) p y) (sym here)
          (in_runs_at new p x vectors runs.here ∙ sym (other_there old p x vectors are there)))
      | inr elsewhere ↦ moved_elsewhere old new q y runs.kept (λ outside. runs.apart q y outside (λ _ here. elsewhere here)) (left q y (λ _ here. elsewhere here))
    ]
    | inr elsewhere ↦ moved_elsewhere old new q y runs.kept (λ outside. runs.apart q y outside (λ own _. elsewhere own)) (left q y (λ own _. elsewhere own))
  ];
}
