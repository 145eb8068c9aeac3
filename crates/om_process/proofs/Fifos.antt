-- Entries that are moved to the front, one by one.
use Rattle.std.proofs.Common.{◌≡◌, ◌≢◌, ℕ, ◌+◌, ◌-◌, ◌<◌, ◌≤◌, List, length, length-take-le, drop, take, get_or, refl, sym, ap, ◌∙◌, arith}
use Rattle.std.specs.List.{SwappedAt}
use Rattle.std.proofs.lemmas.Bool.{cases_eq}
use Rattle.std.proofs.lemmas.List.{length-drop, get_or-drop, get_or-take, same_lists}
use Rattle.std.proofs.Math.Logic.{⊎_elim}

-- so many of those from `from` on stand at the front, and behind as many nothing has changed
pub record IsMovedUpTo {T : Type 0} (old now : List T) (from count : ℕ) : Type 0 where
  pub long : length now ≡ length old
  pub moved : (i : ℕ) (d : T) → i < count → get_or now i d ≡ get_or old (from + i) d
  pub rest : (i : ℕ) (d : T) → from + count ≤ i → get_or now i d ≡ get_or old i d

pub moved_none : {T : Type 0} (old : List T) (from : ℕ) → IsMovedUpTo old old from 0
moved_none old from = record { long = refl; moved = λ i d h. absurd (omega arith); rest = λ i d h. refl }

pub moved_more : {T : Type 0} (old now new : List T) (from count : ℕ) → IsMovedUpTo old now from count → SwappedAt now new count (from + count) → length new ≡ length now → IsMovedUpTo old new from (count + 1)
moved_more old now new from count so_far swapped same = record {
  long = same ∙ so_far.long;
  moved = λ i d h. ⊎_elim
      (λ here. ap (λ k. get_or new k d) here ∙ swapped.0 d ∙ so_far.rest (from + count) d (omega arith) ∙ ap (λ k. get_or old (from + k) d) (sym here))
      (λ before. let one : i ≢ count = omega arith in let other : i ≢ from + count = omega arith in swapped.2 i d one other ∙ so_far.moved i d (omega arith))
      (cases_eq i count);
  rest = λ i d h. let one : i ≢ count = omega arith in let other : i ≢ from + count = omega arith in swapped.2 i d one other ∙ so_far.rest i d (omega arith);
}

pub moved_all : {T : Type 0} (old now : List T) (from left count : ℕ) → left ≡ length old - from → from ≤ length old → left ≤ count → IsMovedUpTo old now from count → take left now ≡ drop from old
moved_all old now from left count is within enough all =
    let len = all.long in
    let short : length (take left now) ≡ left = length-take-le left now (omega arith) in
    same_lists (take left now) (drop from old) (omega (arith, length-drop from old)) (λ k d h.
    get_or-take left now k d (omega arith) ∙ all.moved k d (omega arith) ∙ sym (get_or-drop from old k d))
