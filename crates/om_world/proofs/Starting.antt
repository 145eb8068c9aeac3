-- Processes that are started one after another.
use Rattle.std.proofs.Common.{◌≡◌, ◌≢◌, ◌↔◌, ◌⊎◌, inl, inr, ℕ, zero, suc, ◌+◌, ◌%◌, ◌≤◌, ◌<◌, List, [], ◌∷◌, ◌++◌, length, set, Option, Some, None, Bool, Result, Ok, Err, refl, sym, ap, ◌∙◌, subst, arith, length-set, length-append}
use Rattle.std.specs.Prelude.{IfOk, IsErrOf, IsSome, IsTrue, OnOk, slice_get}
use Rattle.std.specs.FinMap.{get}
use Rattle.om_interval.specs.declared.pid.TheConstants.{MAX_PROCESSES}
use Rattle.om_isa.specs.Memory.{IsMemorySize}
use Rattle.om_isa.specs.declared.memory.TheConstants.{MAX_MEMORY, MIN_MEMORY}
use Rattle.om_stable.specs.Calls.{IsCleanCall}
use Rattle.om_stable.specs.Content.{Content}
use Rattle.om_stable.specs.Count.{Rose}
use Rattle.om_process.specs.declared.start.StartFault.{StartFault}
use Rattle.om_process.specs.declared.start.StartFault.TheVariants.{BadPlace, BadSize, ImageTooLong, Present, Fault, Memory}
use Rattle.om_process.specs.Process.{Program}
use Rattle.om_process.specs.Core.{CoreState}
use Rattle.om_process.specs.Starting.{IsPlace, started_core}
use Rattle.om_process.specs.Stores.{HasGainedCheckpoint}
use Rattle.om_world.specs.Started.{IsLoadable, IsRefusedAt, IsWhy}
use Rattle.om_world.specs.steps.Starting.{AreStarted, IsStart, IsStartedOver}
use Rattle.om_world.proofs.Lists.{either, none_in, once, set_apart}
use Rattle.om_world.proofs.Raising.{less}

is_size : (size : ℕ) → IsMemorySize size ⊎ ¬ IsMemorySize size
is_size size = elim (less size MIN_MEMORY) [
  | inl lt ↦ inr (λ s. let a = s.least in absurd (omega arith))
  | inr least ↦ elim (less MAX_MEMORY size) [
    | inl lt ↦ inr (λ s. let a = s.greatest in absurd (omega arith))
    | inr greatest ↦ elim (either (size % 4) 0) [
      | inl in_words ↦ inl (record { least = least; greatest = greatest; in_words = in_words })
      | inr not ↦ inr (λ s. not s.in_words)
    ]
  ]
]

-- what a start of a process says
pub record Says {S : Type 0} (content : S → Content) (failed : S → ℕ) (is_clean : S → Bool) (IsSound : S → Type 0) (program : Program) (p n : ℕ) (before after : S) (result : Result CoreState StartFault) : Type 0 where
  pub started : IfOk result (λ core. core ≡ started_core program p n)
  pub stored : IsCleanCall is_clean IsSound before after → IfOk result (λ core. HasGainedCheckpoint core (content before) (content after))
  pub bad_place : (result ≡ Err BadPlace) ↔ ¬ IsPlace p n
  pub bad_size : (result ≡ Err BadSize) ↔ (IsPlace p n × ¬ IsMemorySize program.size)
  pub too_long : (result ≡ Err ImageTooLong) ↔ (IsPlace p n × IsMemorySize program.size × (program.size < length program.image))
  pub free : IsCleanCall is_clean IsSound before after → OnOk result (get (content before).checkpoints 0 ≡ None)
  pub present : IsCleanCall is_clean IsSound before after → IsErrOf result Present → IsSome (get (content before).checkpoints 0)
  pub fault : IsErrOf result Fault → Rose (failed before) (failed after)
  pub clean : IsTrue (is_clean after) → IsTrue (is_clean before)
  pub sound : IsTrue (is_clean after) → IsSound before → IsSound after

loadable : {S : Type 0} (content : S → Content) (failed : S → ℕ) (is_clean : S → Bool) (IsSound : S → Type 0) (program : Program) (p n : ℕ) (before after : S) (core : CoreState) → IsPlace p n → Says content failed is_clean IsSound program p n before after (Ok core) → IsLoadable program
loadable content failed is_clean IsSound program p n before after core place s = elim (is_size program.size) [
  | inr not ↦ absurd (apart BadSize (s.bad_size.1 (place, not)))
  | inl size ↦ elim (less program.size (length program.image)) [
    | inl long ↦ absurd (apart ImageTooLong (s.too_long.1 (place, size, long)))
    | inr fits ↦ record { size = size; fits = fits }
  ]
]
  where
    apart : (why : StartFault) → Ok core ≡ Err why → ⊥
    apart why e = cc

why_not : {S : Type 0} (content : S → Content) (failed : S → ℕ) (is_clean : S → Bool) (IsSound : S → Type 0) (program : Program) (p n : ℕ) (before after : S) (fault : StartFault) → IsPlace p n → Says content failed is_clean IsSound program p n before after (Err fault) → IsWhy content failed is_clean IsSound program fault before after
why_not content failed is_clean IsSound program p n before after BadPlace place s = s.bad_place.0 refl place
why_not content failed is_clean IsSound program p n before after BadSize place s = (s.bad_size.0 refl).1
why_not content failed is_clean IsSound program p n before after ImageTooLong place s = let l = s.too_long.0 refl in (l.1, l.2)
why_not content failed is_clean IsSound program p n before after Present place s = λ k. s.present k refl
why_not content failed is_clean IsSound program p n before after Fault place s = s.fault refl
why_not content failed is_clean IsSound program p n before after Memory place s = tt

pub is_start : {S : Type 0} (content : S → Content) (failed : S → ℕ) (is_clean : S → Bool) (IsSound : S → Type 0) (program : Program) (p n : ℕ) (before after : S) (result : Result CoreState StartFault) → p < n → n ≤ MAX_PROCESSES
    → Says content failed is_clean IsSound program p n before after result → IsStart content failed is_clean IsSound program p n before after result
is_start content failed is_clean IsSound program p n before after (Ok core) lt few s = record {
  core = s.started;
  loadable = loadable content failed is_clean IsSound program p n before after core (record { within = few; place = lt }) s;
  over = record { stored = s.stored; free = s.free; clean = s.clean; sound = s.sound };
  why = tt;
}
is_start content failed is_clean IsSound program p n before after (Err fault) lt few s = record {
  core = tt;
  loadable = tt;
  over = tt;
  why = why_not content failed is_clean IsSound program p n before after fault (record { within = few; place = lt }) s;
}

-- ---- one more
set_here : {A : Type 0} (xs : List A) (i : ℕ) (x y : A) → slice_get xs i ≡ Some x → slice_get (set xs i y) i ≡ Some y
set_here [] i x y at = absurd (none_in i x at)
set_here (z ∷ xs) zero x y at = refl
set_here (z ∷ xs) (suc i) x y at = set_here xs i x y at

at_end : {A : Type 0} (xs : List A) (y : A) → slice_get (xs ++ y ∷ []) (length xs) ≡ Some y
at_end [] y = refl
at_end (x ∷ xs) y = at_end xs y

at_front : {A : Type 0} (xs ys : List A) (i : ℕ) (x : A) → slice_get xs i ≡ Some x → slice_get (xs ++ ys) i ≡ Some x
at_front [] ys i x at = absurd (none_in i x at)
at_front (y ∷ xs) ys zero x at = at
at_front (y ∷ xs) ys (suc i) x at = at_front xs ys i x at

next_of : (p k : ℕ) → p < k + 1 → (p < k) ⊎ (p ≡ k)
next_of p k lt = elim (less p k) [ inl l ↦ inl l | inr g ↦ inr (omega arith) ]

pub none_started : {S : Type 0} (content : S → Content) (is_clean : S → Bool) (IsSound : S → Type 0) (programs : List Program) (n : ℕ) (xs : List S) → AreStarted content is_clean IsSound programs n 0 [] xs xs
none_started content is_clean IsSound programs n xs = record {
  many = refl;
  size = refl;
  cores = λ p program lt. absurd (below p lt);
  loadable = λ p program lt. absurd (below p lt);
  done = λ p program before lt. absurd (below p lt);
  left = λ p le. refl;
}
  where
    below : (p : ℕ) → p < 0 → ⊥
    below p lt = omega arith

pub one_started : {S : Type 0} (content : S → Content) (failed : S → ℕ) (is_clean : S → Bool) (IsSound : S → Type 0) (programs : List Program) (n k : ℕ) (cores : List (Option CoreState)) (xs ys : List S) (before after : S) (program : Program) (core : CoreState)
    → slice_get programs k ≡ Some program → AreStarted content is_clean IsSound programs n k cores xs ys → slice_get ys k ≡ Some before → IsStart content failed is_clean IsSound program k n before after (Ok core) → AreStarted content is_clean IsSound programs n (k + 1) (cores ++ Some core ∷ []) xs (set ys k after)
one_started content failed is_clean IsSound programs n k cores xs ys start after program core at a begun s = record {
  many = length-append cores (Some core ∷ []) ∙ ap (λ x. x + 1) a.many;
  size = length-set ys k after ∙ a.size;
  cores = λ p other lt f. elim (next_of p k lt) [
    | inl old ↦ at_front cores (Some core ∷ []) p (Some (started_core other p n)) (a.cores p other old f)
    | inr same ↦
        let is : other ≡ program = once other program (sym f ∙ ap (slice_get programs) same ∙ at) in
        ap (slice_get (cores ++ Some core ∷ [])) (same ∙ sym a.many) ∙ at_end cores (Some core) ∙ ap (λ c. Some (Some c)) (s.core ∙ ap (λ x. started_core x k n) (sym is) ∙ ap (λ x. started_core other x n) (sym same))
  ];
  loadable = λ p other lt f. elim (next_of p k lt) [
    | inl old ↦ a.loadable p other old f
    | inr same ↦ subst IsLoadable (sym (once other program (sym f ∙ ap (slice_get programs) same ∙ at))) s.loadable
  ];
  done = λ p other before lt f was. elim (next_of p k lt) [
    | inl old ↦ let d = a.done p other before old f was in (d.0, set_apart ys k p after (apart p k old) ∙ d.1, d.2)
    | inr same ↦
        let is : other ≡ program = once other program (sym f ∙ ap (slice_get programs) same ∙ at) in
        let first : start ≡ before = once start before (sym begun ∙ a.left k (omega arith) ∙ ap (slice_get xs) (sym same) ∙ was) in
        let core_is : core ≡ started_core other p n = s.core ∙ ap (λ x. started_core x k n) (sym is) ∙ ap (λ x. started_core other x n) (sym same) in
        (after, ap (slice_get (set ys k after)) same ∙ set_here ys k start after begun, subst (λ c. IsStartedOver content is_clean IsSound c before after) core_is (subst (λ b. IsStartedOver content is_clean IsSound core b after) first s.over))
  ];
  left = λ p le. set_apart ys k p after (omega arith) ∙ a.left p (omega arith);
}
  where
    apart : (p k : ℕ) → p < k → p ≢ k
    apart p k lt = omega arith

pub refused_at : {S : Type 0} (content : S → Content) (failed : S → ℕ) (is_clean : S → Bool) (IsSound : S → Type 0) (programs : List Program) (n k : ℕ) (cores : List (Option CoreState)) (xs ys : List S) (before after : S) (program : Program) (why : StartFault)
    → slice_get programs k ≡ Some program → AreStarted content is_clean IsSound programs n k cores xs ys → slice_get ys k ≡ Some before → IsStart content failed is_clean IsSound program k n before after (Err why) → IsRefusedAt content failed is_clean IsSound programs xs why
refused_at content failed is_clean IsSound programs n k cores xs ys start end program why at a begun s = record {
  place = k;
  program = program;
  is_program = at;
  store = start;
  is_store = sym (a.left k (omega arith)) ∙ begun;
  after = end;
  why = s.why;
  earlier = a.loadable;
  free = λ always q other before lt f was sound. let d = a.done q other before lt f was in d.2.free (always d.0, sound);
}
