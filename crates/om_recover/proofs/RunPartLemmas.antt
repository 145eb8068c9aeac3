use Rattle.std.proofs.Common.{◌≡◌, ℕ, zero, suc, ◌+◌, ◌-◌, ◌<◌, ◌≤◌, ◌⊎◌, inl, inr, refl, sym, ◌∙◌, ap, subst, arith, Bool, true, false, true≢false, IsSome, Option, Some, None, List, [], ◌∷◌, ◌++◌, cond, drop, take, min, length, slice_get, slice_index_or, slice_set, nat_le}
use Rattle.std.specs.Option.{option_map}
use Rattle.std.proofs.lemmas.Bool.{cases_eq, cases_lt, leb-true, leb-false}
use Rattle.std.proofs.lemmas.List.{length-drop, length-take, drop_min}
use Rattle.std.proofs.lemmas.Option.{slice_get_read, slice_get_within}
use Rattle.om_recover.specs.steps.Nearest.{at, AreSorted}
use Rattle.om_recover.specs.steps.Logs.{log_entries, IsOutside, IsInRuns, IsOutsideRuns, AreLogs, ArePart, IsRunPart, AreRunsPart, AreEmpty, HaveNone}
use Rattle.om_recover.specs.declared.rows.trees.Vectors.{Vectors}
use Rattle.om_recover.specs.declared.rows.trees.Run.{Run}
use Rattle.om_recover.specs.declared.rows.trees.Logs.{Logs}
use Rattle.om_recover.proofs.LogsLemmas.{in_runs_at, outside_at, runs_cases, outside_runs}
use Rattle.om_recover.proofs.RunLemmas.{get_set_same, set_kept, set_apart}
use Rattle.om_recover.proofs.PartLemmas.{changed, at_changed}

-- runs of which those before a process have the logs whose places pass a test, and the others all
pub record ArePartBelow (test : ℕ × ℕ → Bool) (p : ℕ) (old new : List Run) : Type 0 where
  pub kept : (q y : ℕ) (other : Vectors) → IsInRuns old q y other → (q < p → test (q, y) ≡ true) → IsInRuns new q y other
  pub apart : (q y : ℕ) → IsOutsideRuns old q y → IsOutsideRuns new q y
  pub dropped : (q y : ℕ) → q < p → test (q, y) ≡ false → IsOutsideRuns new q y

pub part_start : (test : ℕ × ℕ → Bool) (runs : List Run) → ArePartBelow test 0 runs runs
part_start test runs = record { kept = λ q y other among _. among; apart = λ q y outside. outside; dropped = λ q y below _. absurd (omega (arith, below)) }

pub part_step : (test : ℕ × ℕ → Bool) (old runs : List Run) (p : ℕ) (was run : Run) → p < length runs → was ≡ slice_index_or runs p was → IsRunPart (λ y. test (p, y)) was run
    → ArePartBelow test p old runs → ArePartBelow test (p + 1) old (slice_set runs p run)
part_step test old runs p was run within read part so_far =
    let own : slice_get runs p ≡ Some was = slice_get_read runs (length runs) p was refl within read in
    record {
      kept = λ q y other among passes. set_kept runs p was run (λ q y _. q ≡ p → test (p, y) ≡ true) own (λ y other stays in_run. part.kept y other in_run (stays refl)) q y other
          (λ same. subst (λ q. test (q, y) ≡ true) same (passes (omega (arith, same)))) (so_far.kept q y other among (λ below. passes (omega (arith, below))));
      apart = λ q y outside. set_apart runs p was run (λ _ _. Unit {0}) own (λ y _ out. part.apart y out) q y tt (so_far.apart q y outside);
      dropped = λ q y below fails. elim (cases_eq q p) [
        | inl same ↦ subst (λ q. IsOutsideRuns (slice_set runs p run) q y) (sym same)
            (outside_runs (slice_set runs p run) p y run (get_set_same runs p run was own) (part.dropped y (subst (λ q. test (q, y) ≡ false) same fails)))
        | inr apart ↦ set_apart runs p was run (λ q _. q ≡ p → ⊥) own (λ y elsewhere out. absurd (elsewhere refl)) q y apart (so_far.dropped q y (omega (arith, below, apart)) fails)
      ];
    }

pub part_ends : (test : ℕ × ℕ → Bool) (p : ℕ) (old new : List Run) → length new ≤ p → ArePartBelow test p old new → AreRunsPart test old new
part_ends test p old new all part = record {
  kept = λ q y other among passes. part.kept q y other among (λ _. passes);
  apart = part.apart;
  dropped = λ q y fails run own. part.dropped q y (omega (arith, all, slice_get_within new q run own)) fails run own;
}

-- a run without the logs in front of an interval
get_drop : {X : Type 0} (n : ℕ) (xs : List X) (i : ℕ) → slice_get (drop n xs) i ≡ slice_get xs (n + i)
get_drop zero xs i = ap (slice_get xs) (omega arith)
get_drop (suc n) [] i = refl
get_drop {X} (suc n) (x ∷ xs) i =
    let moved : suc n + i ≡ suc (n + i) = omega arith in
    get_drop n xs i ∙ ap (slice_get (x ∷ xs)) (sym moved)

pub items_left : {X : Type 0} (xs left : List X) (before gone : ℕ) → gone ≡ min before (length xs) → left ≡ drop gone xs → left ≡ drop before xs
items_left xs left before gone gone_is left_is = left_is ∙ ap (λ n. drop n xs) gone_is ∙ drop_min before xs

pub pruned_run : (old new : Run) (from before : ℕ) → from ≡ old.first + before → new.first ≡ from → new.logs ≡ drop before old.logs → IsRunPart (λ y. nat_le from y) old new
pruned_run old new from before from_is first_is items_are =
    let count : length new.logs ≡ length old.logs - before = ap length items_are ∙ length-drop before old.logs in
    record {
      kept = λ y other within passes.
          let far : from ≤ y = leb-true from y passes in
          let place : before + (within.place - before) ≡ within.place = omega (arith, far, from_is, within.stands_at) in
          record {
            place = within.place - before;
            stands_at = omega (arith, first_is, from_is, within.stands_at, far);
            there = ap (λ items. slice_get items (within.place - before)) items_are ∙ get_drop before old.logs (within.place - before) ∙ ap (slice_get old.logs) place ∙ within.there;
          };
      apart = λ y outside. elim (cases_lt y new.first) [
        | inl low ↦ inl low
        | inr high ↦ elim outside [
          | inl less ↦ inl (omega (arith, less, first_is, from_is, high))
          | inr more ↦ inr (omega (arith, more, first_is, from_is, high, count))
        ]
      ];
      dropped = λ y fails. inl (omega (arith, leb-false from y fails, first_is));
    }

-- a run without the logs behind an interval
get_take : {X : Type 0} (n : ℕ) (xs : List X) (i : ℕ) → i < n → slice_get (take n xs) i ≡ slice_get xs i
get_take zero xs i within = absurd (omega (arith, within))
get_take (suc n) [] i within = refl
get_take (suc n) (x ∷ xs) zero within = refl
get_take (suc n) (x ∷ xs) (suc i) within = get_take n xs i (omega (arith, within))

pub cut_to_interval : (old new : Run) (to kept : ℕ) → ((to < old.first) × (kept ≡ 0)) ⊎ (to + 1 ≡ old.first + kept) → new.first ≡ old.first → new.logs ≡ take kept old.logs → IsRunPart (λ y. nat_le y to) old new
cut_to_interval old new to kept far first_is items_are =
    let count : length new.logs ≡ min kept (length old.logs) = ap length items_are ∙ length-take kept old.logs in
    record {
      kept = λ y other within passes.
          let near : y ≤ to = leb-true y to passes in
          let inside : within.place < kept = elim far [
            | inl none ↦ absurd (omega (arith, none.0, near, within.stands_at))
            | inr some ↦ omega (arith, some, near, within.stands_at)
          ] in
          record {
            place = within.place;
            stands_at = omega (arith, within.stands_at, first_is);
            there = ap (λ items. slice_get items within.place) items_are ∙ get_take kept old.logs within.place inside ∙ within.there;
          };
      apart = λ y outside. elim outside [ inl less ↦ inl (omega (arith, less, first_is)) | inr more ↦ inr (omega (arith, more, first_is, count)) ];
      dropped = λ y fails.
          let behind : to < y = leb-false y to fails in
          elim far [
            | inl none ↦ elim (cases_lt y new.first) [ inl low ↦ inl low | inr high ↦ inr (omega (arith, high, none.1, count)) ]
            | inr some ↦ inr (omega (arith, some, behind, first_is, count))
          ];
    }

-- a run that begins at the interval or above stays
pub unpruned_run : (run : Run) (from : ℕ) → from < run.first → IsRunPart (λ y. nat_le from y) run run
unpruned_run run from below = record {
  kept = λ y other within _. within;
  apart = λ y outside. outside;
  dropped = λ y fails. inl (omega (arith, leb-false from y fails, below));
}

pub same_value : {X : Type 0} (o : Option X) → option_map (λ value. value) o ≡ o
same_value None = refl
same_value (Some value) = refl

-- what is left of a tree
pub others_part : {X : Type 0} (test : ℕ × ℕ → Bool) (old new : List ((ℕ × ℕ) × X)) (p x : ℕ) → new ≡ changed test (λ _ value. value) old → at new p x ≡ cond (test (p, x)) (at old p x) None
others_part {X} test old new p x is = ap (λ (entries : List ((ℕ × ℕ) × X)). at entries p x) is ∙ at_changed test (λ _ value. value) old p x ∙ ap (λ (o : Option X). cond (test (p, x)) o None) (same_value (at old p x))

some_passed : {X : Type 0} (b : Bool) (o : Option X) → IsSome (cond b o None) → (b ≡ true) × IsSome o
some_passed true o some = (refl, some)
some_passed false o some = absurd (true≢false (sym some))

-- what is left of logs
pub part_of : (test : ℕ × ℕ → Bool) (old new : Logs) → AreLogs old → AreSorted new.others.entries
    → ((p x : ℕ) → at new.others.entries p x ≡ cond (test (p, x)) (at old.others.entries p x) None) → AreRunsPart test old.runs.items new.runs.items → ArePart test old new
part_of test old new are sorted others_at runs =
    record {
      sorted = record {
        sorted = sorted;
        apart = λ p x some. runs.apart p x (are.apart p x (some_passed (test (p, x)) (at old.others.entries p x) (subst IsSome (others_at p x) some)).1);
      };
      part = λ p x. elim (test (p, x)) as (λ b. test (p, x) ≡ b → at (log_entries new) p x ≡ cond b (at (log_entries old) p x) None) [
        | true ↦ λ passes. elim (runs_cases old.runs.items p x) [
          | inl among ↦ in_runs_at new p x among.0 (runs.kept p x among.0 among.1 passes) ∙ sym (in_runs_at old p x among.0 among.1)
          | inr outside ↦ outside_at new p x (runs.apart p x outside) ∙ others_at p x ∙ ap (λ b. cond b (at old.others.entries p x) None) passes ∙ sym (outside_at old p x outside)
        ]
        | false ↦ λ fails. outside_at new p x (runs.dropped p x fails) ∙ others_at p x ∙ ap (λ b. cond b (at old.others.entries p x) None) fails
      ] refl;
    }

-- runs of nothing
pub empty_more : (runs : List Run) (run : Run) → length run.logs ≡ 0 → AreEmpty runs → AreEmpty (runs ++ run ∷ [])
empty_more [] run none empty zero x other own =
    let same : run ≡ other = cc in
    subst (λ (run : Run). IsOutside run x) same (elim (cases_lt x run.first) [ inl low ↦ inl low | inr high ↦ inr (omega (arith, none, high)) ])
empty_more [] run none empty (suc p) x other own = absurd (cc)
empty_more (r ∷ runs) run none empty zero x other own = empty zero x other own
empty_more (r ∷ runs) run none empty (suc p) x other own = empty_more runs run none (λ p x. empty (suc p) x) p x other own

pub none_held : (logs : Logs) → AreEmpty logs.runs.items → AreSorted logs.others.entries → logs.others.entries ≡ [] → HaveNone logs
none_held logs empty sorted none = record {
  sorted = record { sorted = sorted; apart = λ p x _. empty p x };
  none = λ p x. outside_at logs p x (empty p x) ∙ ap (λ (entries : List ((ℕ × ℕ) × Vectors)). at entries p x) none;
}
