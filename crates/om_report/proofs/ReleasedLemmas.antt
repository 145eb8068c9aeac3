-- What is released.
use Rattle.std.proofs.Common.{◌≡◌, ◌⊎◌, inl, inr, ℕ, zero, suc, ◌<◌, ◌≤◌, List, [], ◌∷◌, ◌++◌, Some, cond, sym, ap, ◌∙◌, subst, arith, get_or, length, map}
use Rattle.std.specs.Prelude.{Vec, slice_get, slice_index}
use Rattle.std.specs.declared.alloc.Global.{Global}
use Rattle.std.proofs.lemmas.Bool.{cases_order, le-leb, lt-leb}
use Rattle.std.proofs.lemmas.List.{get_or-map, length-map}
use Rattle.std.proofs.lemmas.Option.{get_or_from_slice_get, same_Some, slice_get-get_or, slice_get_within}
use Rattle.om_manager.specs.Outputs.{AreNumbered, HeldOutput, held_of, within}
use Rattle.om_manager.specs.State.{ManagerState, held_by, process_count, released_by}
use Rattle.om_manager.specs.declared.output_log.Output.{Output}
use Rattle.om_manager.specs.Sound.{IsManager}
use Rattle.om_process.specs.Process.{Program}
use Rattle.om_board.specs.Made.{HoldsMade, IsMade}
use Rattle.om_board.proofs.ListLemmas.{map_get, more_had, none_in}
use Rattle.om_board.proofs.MadeLemmas.{released_had}
use Rattle.om_report.specs.Released.{AreAllMade, AreAllReleased, AreMade, AreReleased, AreReleasedBy}

cases_le_lt : (x y : ℕ) → (x ≤ y) ⊎ (y < x)
cases_le_lt x y = elim (cases_order y x) [
  | inl same ↦ inl (omega arith)
  | inr apart ↦ elim apart [ inl less ↦ inr less | inr more ↦ inl (omega arith) ]
]

at_first : (x : HeldOutput) (rest : List HeldOutput) (limit j : ℕ) (y : HeldOutput) → x.interval ≤ limit → ((k : ℕ) → slice_get rest k ≡ Some y → y.interval ≤ limit)
    → slice_get (x ∷ rest) j ≡ Some y → y.interval ≤ limit
at_first x rest limit zero y inside later at = subst (λ (z : HeldOutput). z.interval ≤ limit) (same_Some x y at) inside
at_first x rest limit (suc j) y inside later at = later j at

pub within_limit : (xs : List HeldOutput) (limit i : ℕ) (y : HeldOutput) → slice_get (within xs limit) i ≡ Some y → y.interval ≤ limit
within_limit [] limit i y e = absurd (none_in i y e)
within_limit (x ∷ xs) limit i y e = elim (cases_le_lt x.interval limit) [
  | inl inside ↦ at_first x (within xs limit) limit i y inside (λ k at. within_limit xs limit k y at)
      (subst (λ zs. slice_get zs i ≡ Some y) (ap (λ b. cond b (x ∷ within xs limit) (within xs limit)) (le-leb x.interval limit inside)) e)
  | inr beyond ↦ within_limit xs limit i y (subst (λ zs. slice_get zs i ≡ Some y) (ap (λ b. cond b (x ∷ within xs limit) (within xs limit)) (lt-leb x.interval limit beyond)) e)
]

pub numbered_too : (copies outputs : List Output) → map (λ o. o.seq) copies ≡ map (λ o. o.seq) outputs → AreNumbered outputs → AreNumbered copies
numbered_too copies outputs same numbered place d lt =
    let long : length copies ≡ length outputs = sym (length-map copies (λ (o : Output). o.seq)) ∙ ap length same ∙ length-map outputs (λ (o : Output). o.seq) in
    let inside : place < length outputs = subst (λ n. place < n) long lt in
    sym (get_or-map (λ (o : Output). o.seq) copies place d 0 lt) ∙ ap (λ ns. get_or ns place 0) same ∙ get_or-map (λ (o : Output). o.seq) outputs place d 0 inside ∙ numbered place d inside

-- what a manager has released of a process is numbered, and within its place of the recovery state
pub released_at : (m : ManagerState) (p : ℕ) (outputs : List Output) → map held_of outputs ≡ released_by m p → AreNumbered outputs → AreReleased (slice_index m.recovery p) outputs
released_at m p outputs held numbered i o there = (
  subst (λ (x : Output). x.seq ≡ i) (get_or_from_slice_get outputs i o o there) (numbered i o (slice_get_within outputs i o there)),
  within_limit (held_by m p) (slice_index m.recovery p) i (held_of o) (subst (λ hs. slice_get hs i ≡ Some (held_of o)) held (map_get held_of outputs i o there)),
)

pub numbered_of : (limit : ℕ) (outputs : List Output) → AreReleased limit outputs → AreNumbered outputs
numbered_of limit outputs are place d lt = (are place (get_or outputs place d) (slice_get-get_or outputs place d lt)).0

pub all_released : (m : ManagerState) (released : List (Vec Output Global)) → AreReleasedBy m released → AreAllReleased m.recovery released
all_released m released are p outputs at = let both = are p outputs at in released_at m p outputs.items both.0 both.1

pub released_more : (m : ManagerState) (released : List (Vec Output Global)) (outputs : Vec Output Global) → AreReleasedBy m released
    → map held_of outputs.items ≡ released_by m (length released) → AreNumbered outputs.items
    → AreReleasedBy m (released ++ outputs ∷ [])
released_more m released outputs are held numbered p found at = elim (more_had released p outputs found at) [
  | inl here ↦ (
    subst (λ q. map held_of found.items ≡ released_by m q) (sym here.0) (ap (λ (v : Vec Output Global). map held_of v.items) here.1 ∙ held),
    subst (λ (v : Vec Output Global). AreNumbered v.items) (sym here.1) numbered,
  )
  | inr there ↦ are p found there
]

-- over a manager that holds what the programs make, what is released is made by them
pub released_made : (programs : List Program) (n : ℕ) (m : ManagerState) (p : ℕ) (outputs : List Output) → IsManager m → p < process_count m
    → map held_of outputs ≡ released_by m p → AreNumbered outputs → HoldsMade programs n m → AreMade programs n p outputs
released_made programs n m p outputs is within held numbered made i o at =
    let there : slice_get (released_by m p) i ≡ Some (held_of o) = subst (λ hs. slice_get hs i ≡ Some (held_of o)) held (map_get held_of outputs i o at) in
    let number : o.seq ≡ i =
    subst (λ (x : Output). x.seq ≡ i) (get_or_from_slice_get outputs i o o at) (numbered i o (slice_get_within outputs i o at)) in
    subst (λ k. IsMade programs n p k (held_of o)) (sym number) (made p i (held_of o) (released_had m p i (held_of o) is within there))

pub all_made : (programs : List Program) (n : ℕ) (m : ManagerState) (released : List (Vec Output Global)) → IsManager m → length released ≡ process_count m → AreReleasedBy m released
    → HoldsMade programs n m → AreAllMade programs n released
all_made programs n m released is many are made p outputs at =
    let lt = slice_get_within released p outputs at in let both = are p outputs at in
    released_made programs n m p outputs.items is (omega arith) both.0 both.1 made
