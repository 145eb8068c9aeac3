-- What processes leave when their runs are over.
use Rattle.std.proofs.Common.{◌≡◌, inl, inr, ℕ, suc, ◌+◌, ◌≤◌, List, [], ◌∷◌, ◌++◌, Some, sym, ap, ◌∙◌, subst, arith, length, zero, ◌<◌, ◌≢◌, append_assoc, map, set, refl}
use Rattle.std.specs.Prelude.{Vec, slice_get, slice_index}
use Rattle.std.specs.declared.alloc.Global.{Global}
use Rattle.std.proofs.lemmas.List.{get_or_past}
use Rattle.std.proofs.lemmas.Option.{slice_get_cases}
use Rattle.om_interval.specs.Vectors.{IsBelow}
use Rattle.om_board.specs.Fronts.{EndsWith}
use Rattle.om_board.specs.declared.front.Front.{Front}
use Rattle.om_board.proofs.FrontLemmas.{ends_rise}
use Rattle.om_board.proofs.ListLemmas.{more_had}
use Rattle.om_manager.specs.declared.output_log.Output.{Output}
use Rattle.om_process.specs.Process.{Program}
use Rattle.om_report.specs.Released.{AreAllMade, AreAllReleased, AreMade, AreReleased}
use Rattle.om_report.specs.Harvests.{HarvestState, StayReleased}

-- what is within a place of a vector is within that of a higher one
pub within_above : (low high : List ℕ) (p x : ℕ) → IsBelow low high → x ≤ slice_index low p → x ≤ slice_index high p
within_above low high p x below le = elim (slice_get_cases low p).1 [
  | inl inside ↦ let at = below.each p inside.1 in omega arith
  | inr past ↦
      let none : slice_index low p ≡ 0 = get_or_past low p 0 past.0 in omega arith
]

-- outputs that are within the place of the last front that was seen stay so
pub stay_released : (seen : List Front) (last : Front) (p : ℕ) (outputs : List Output) → EndsWith seen last → AreReleased (slice_index last.vec p) outputs
    → StayReleased seen p outputs
stay_released seen last p outputs ends are posted later begins rises at_end i o at =
    let was = are i o at in
    (was.0, within_above last.vec later.vec p o.interval (ends_rise seen posted last later ends begins at_end rises).vec was.1)

-- ---- one process more
pub released_grown : (vec : List ℕ) (all : List (Vec Output Global)) (outputs : Vec Output Global) (p : ℕ) → p ≡ length all
    → AreAllReleased vec all → AreReleased (slice_index vec p) outputs.items → AreAllReleased vec (all ++ outputs ∷ [])
released_grown vec all outputs p here are one q found at = elim (more_had all q outputs found at) [
  | inl last ↦
      subst (λ k. AreReleased (slice_index vec k) found.items) (here ∙ sym last.0)
      (subst (λ (v : Vec Output Global). AreReleased (slice_index vec p) v.items) (sym last.1) one)
  | inr there ↦ are q found there
]

pub made_grown : (programs : List Program) (n : ℕ) (all : List (Vec Output Global)) (outputs : Vec Output Global) (p : ℕ) → p ≡ length all
    → AreAllMade programs n all → AreMade programs n p outputs.items → AreAllMade programs n (all ++ outputs ∷ [])
made_grown programs n all outputs p here are one q found at = elim (more_had all q outputs found at) [
  | inl last ↦
      subst (λ k. AreMade programs n k found.items) (here ∙ sym last.0)
      (subst (λ (v : Vec Output Global). AreMade programs n p v.items) (sym last.1) one)
  | inr there ↦ are q found there
]

-- the next harvest is that of the process at its place, and so are the others
pub own_next : (old rest : List HarvestState) (h : HarvestState) (done : ℕ) → old ≡ h ∷ rest
    → ((k : ℕ) (x : HarvestState) → slice_get old k ≡ Some x → x.own ≡ done + k) → h.own ≡ done
own_next old rest h done next was =
    let at : slice_get old 0 ≡ Some h = ap (λ l. slice_get l 0) next in
    let own = was 0 h at in omega arith

pub own_later : (old rest : List HarvestState) (h : HarvestState) (done : ℕ) → old ≡ h ∷ rest
    → ((k : ℕ) (x : HarvestState) → slice_get old k ≡ Some x → x.own ≡ done + k)
    → (k : ℕ) (x : HarvestState) → slice_get rest k ≡ Some x → x.own ≡ done + 1 + k
own_later old rest h done next was k x at =
    let there : slice_get old (suc k) ≡ Some x = ap (λ l. slice_get l (suc k)) next ∙ at in
    let own = was (suc k) x there in omega arith

-- ---- lists
-- an element that goes from the front of the rest to the end of what is done
pub moved : {A B : Type 0} (f : A → B) (done more : List B) (x : A) (rest old : List A) (all : List B) → old ≡ x ∷ rest → more ≡ done ++ f x ∷ []
    → done ++ map f old ≡ all → more ++ map f rest ≡ all
moved f done more x rest old all next grown was =
    ap (λ l. l ++ map f rest) grown ∙ append_assoc done (f x ∷ []) (map f rest) ∙ ap (λ l. done ++ map f l) (sym next) ∙ was

pub set_here : {A : Type 0} (xs : List A) (i : ℕ) (y : A) → i < length xs → slice_get (set xs i y) i ≡ Some y
set_here [] i y lt = absurd (omega arith)
set_here (x ∷ xs) zero y lt = refl
set_here (x ∷ xs) (suc i) y lt = set_here xs i y (omega arith)

pub set_apart : {A : Type 0} (xs : List A) (i j : ℕ) (y : A) → j ≢ i → slice_get (set xs i y) j ≡ slice_get xs j
set_apart [] i j y ne = refl
set_apart (x ∷ xs) zero zero y ne = absurd (ne refl)
set_apart (x ∷ xs) zero (suc j) y ne = refl
set_apart (x ∷ xs) (suc i) zero y ne = refl
set_apart (x ∷ xs) (suc i) (suc j) y ne = set_apart xs i j y (omega arith)
