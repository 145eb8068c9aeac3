-- Outputs that are handed in.
use Rattle.std.proofs.Common.{◌≡◌, ℕ, zero, suc, ◌+◌, ◌<◌, List, [], ◌∷◌, ◌++◌, length, map, take, get_or, Some, Ok, refl, sym, ap, ◌∙◌, subst, arith}
use Rattle.std.specs.Prelude.{slice_get}
use Rattle.std.proofs.lemmas.List.{get_or-map, length-map}
use Rattle.om_process.specs.declared.queues.Made.{Made}
use Rattle.om_manager.specs.Outputs.{HeldOutput}
use Rattle.om_manager.specs.State.{ManagerState}
use Rattle.om_manager.specs.declared.answers.OutputNote.{OutputNote}
use Rattle.om_member.specs.Handed.{AreHanded, IsHanded, held_as}
use Rattle.om_member.proofs.Lists.{take_next}

-- one output more
pub handed_next : (old mid new : ManagerState) (round p : ℕ) (ms : List Made) (m : Made) (note : OutputNote) → AreHanded old round p ms mid → IsHanded mid round p m (Ok note) new → AreHanded old round p (ms ++ m ∷ []) new
handed_next old mid new round p [] m note same one = (new, note, subst (λ k. IsHanded k round p m (Ok note) new) same one, refl)
handed_next old mid new round p (d ∷ ms) m note handed one = (handed.0, handed.1, handed.2, handed_next handed.0 mid new round p ms m note handed.3 one)

-- ---- an output by its parts
pub as_made : (P : ℕ → HeldOutput → Type 0) (seq x : ℕ) (bytes : List ℕ) (m : Made) → seq ≡ m.seq → x ≡ m.interval → bytes ≡ m.bytes → P seq (record { interval = x; bytes = bytes }) → P m.seq (held_as m)
as_made P seq x bytes m number interval same of =
    subst (λ k. P k (held_as m)) number (subst (λ k. P seq (record { interval = k; bytes = m.bytes })) interval (subst (λ l. P seq (record { interval = x; bytes = l })) same of))

pub by_parts : (P : ℕ → HeldOutput → Type 0) (seq x : ℕ) (bytes : List ℕ) (m : Made) → seq ≡ m.seq → x ≡ m.interval → bytes ≡ m.bytes → P m.seq (held_as m) → P seq (record { interval = x; bytes = bytes })
by_parts P seq x bytes m number interval same of =
    subst (λ k. P k (record { interval = x; bytes = bytes })) (sym number) (subst (λ k. P m.seq (record { interval = k; bytes = bytes })) (sym interval) (subst (λ l. P m.seq (record { interval = m.interval; bytes = l })) (sym same) of))

-- ---- outputs as they were made, whoever keeps them
module _ {M : Type 0} (made : M → Made) (xs : List M) (i : ℕ) (x : M) (lt : i < length xs) (is : x ≡ get_or xs i x) where
  made_long : i < length (map made xs)
  made_long = let long = length-map xs made in omega arith

  made_is : made x ≡ get_or (map made xs) i (made x)
  made_is = ap made is ∙ sym (get_or-map made xs i x (made x) lt)

  pub made_next : take i (map made xs) ++ made x ∷ [] ≡ take (i + 1) (map made xs)
  made_next = take_next (map made xs) i (made x) made_long made_is

  pub made_at : slice_get (map made xs) i ≡ Some (made x)
  made_at = there (map made xs) i (made x) made_long made_is
    where
      there : (ms : List Made) (i : ℕ) (m : Made) → i < length ms → m ≡ get_or ms i m → slice_get ms i ≡ Some m
      there [] i m lt is = absurd (omega arith)
      there (d ∷ ms) zero m lt is = ap Some (sym is)
      there (d ∷ ms) (suc i) m lt is = there ms i m (omega arith) is

pub map_same : {A : Type 0} (xs : List A) → map (λ x. x) xs ≡ xs
map_same [] = refl
map_same (x ∷ xs) = ap (λ l. x ∷ l) (map_same xs)
