-- Which fault is told of a run.
use Rattle.std.proofs.Common.{◌≡◌, inl, inr, ◌⊎◌, ℕ, zero, suc, ◌+◌, ◌<◌, ◌≤◌, List, [], ◌∷◌, ◌++◌, Option, Some, None, Bool, refl, sym, ap, ◌∙◌, subst, arith, get_or, length, map}
use Rattle.std.specs.Prelude.{slice_get, Ok, Err, Result, IfOk, IfSome}
use Rattle.std.specs.Option.{option_or}
use Rattle.std.proofs.lemmas.Option.{get_or_from_slice_get, same_Some, slice_get_within}
use Rattle.om_process.specs.Images.{program_of}
use Rattle.om_process.specs.declared.image.Image.{Image}
use Rattle.om_report.specs.Faults.{IsFaultOf, IsFaultBy}
use Rattle.om_threads.specs.declared.starting.EndOf.{EndOf}
use Rattle.om_cluster.specs.declared.finished.Finished.{Finished}
use Rattle.om_cluster.specs.declared.config.Config.{Config}
use Rattle.om_report.specs.declared.fault.RunFault.{RunFault}
use Rattle.om_report.specs.declared.fault.RunFault.TheVariants.{Turns, GateShut, Memory, Fault, Load, StoreInUse, AnotherCluster, StoreMissing, NoThread}
use Rattle.om_threads.specs.steps.Ends.{AreBelow, AreOwnEnds, IsFirstOut, IsLeastFault, IsPromised, IsWell, IsWellOrOut}
use Rattle.om_cluster.specs.Ends.{IsEndOf, IsGiven, IsOwnEnd}
use Rattle.om_links.specs.Network.{Lines}

below_next : (j k : ℕ) → j < k + 1 → (j < k) ⊎ (j ≡ k)
below_next zero zero lt = inr refl
below_next zero (suc k) lt = inl (omega arith)
below_next (suc j) zero lt = absurd (omega arith)
below_next (suc j) (suc k) lt = elim (below_next j k (omega arith)) [
  | inl less ↦ inl (omega arith)
  | inr same ↦ inr (ap suc same)
]

-- and the next
pub below_more : {F : Type 0} (Is : Result F RunFault → Type 0) (k : ℕ) (results : List (Result F RunFault)) (r : Result F RunFault)
    → AreBelow Is k results → slice_get results k ≡ Some r → Is r → AreBelow Is (k + 1) results
below_more Is k results r was at is = λ j x lt there. elim (below_next j k lt) [
  | inl less ↦ was j x less there
  | inr same ↦ subst Is (same_Some r x (sym at ∙ subst (λ i. slice_get results i ≡ Some x) same there)) is
]

-- one more ended well
pub well_more : {F : Type 0} (results : List (Result F RunFault)) (k : ℕ) (last : Option RunFault) (f : F)
    → slice_get results k ≡ Some (Ok f) → IsFirstOut results k last → IsFirstOut results (k + 1) last
well_more results k None f at was = below_more IsWell k results (Ok f) was at tt
well_more results k (Some fault) f at was = was

-- one more whose turns were out
pub out_more : {F : Type 0} (results : List (Result F RunFault)) (k : ℕ) (last : Option RunFault) (fault : RunFault)
    → slice_get results k ≡ Some (Err fault) → IsFirstOut results k last → IsFirstOut results (k + 1) (option_or last (Some fault))
out_more results k None fault at was = (k, at, was)
out_more results k (Some before) fault at was = was

-- the process of a fault of its own is one of the n
pub fault_within : (n place : ℕ) (fault : RunFault) → place < n → IsFaultBy place fault → IsFaultOf n fault
fault_within n place (Turns pid) lt is = subst (λ k. k < n) (sym is) lt
fault_within n place (GateShut pid) lt is = subst (λ k. k < n) (sym is) lt
fault_within n place (Fault pid) lt is = subst (λ k. k < n) (sym is) lt
fault_within n place (Load pid) lt is = subst (λ k. k < n) (sym is) lt
fault_within n place (StoreInUse pid) lt is = subst (λ k. k < n) (sym is) lt
fault_within n place (AnotherCluster pid) lt is = subst (λ k. k < n) (sym is) lt
fault_within n place (StoreMissing pid) lt is = subst (λ k. k < n) (sym is) lt
fault_within n place Memory lt is = tt
fault_within n place NoThread lt is = tt

-- what is told at a place is of a process
at_place : {F : Type 0} (config : Config) (n place : ℕ) (results : List (Result F RunFault)) (fault : RunFault)
    → length results ≡ n → AreOwnEnds config n results → slice_get results place ≡ Some (Err fault) → IsFaultOf n fault
at_place config n place results fault long own at =
    let lt : place < n = subst (λ k. place < k) long (slice_get_within results place (Err fault) at) in
    let there : get_or results place (Err fault) ≡ Err fault = get_or_from_slice_get results place (Err fault) (Err fault) at in
    let is : IsOwnEnd config place (Err fault) = subst (IsOwnEnd config place) there (own place (Err fault) lt) in
    fault_within n place fault lt is.fault

pub told_of : {F : Type 0} (config : Config) (n : ℕ) (results : List (Result F RunFault)) (fault : RunFault)
    → length results ≡ n → AreOwnEnds config n results → IsLeastFault results fault ⊎ (fault ≡ Memory) → IsFaultOf n fault
told_of config n results fault long own (inl (IsLeastFault.other place at below not)) = at_place config n place results fault long own at
told_of config n results fault long own (inl (IsLeastFault.out place at below all)) = at_place config n place results fault long own at
told_of config n results fault long own (inr memory) = subst (IsFaultOf n) (sym memory) tt

-- where all ended well, and there is one, the run gave them turns
pub given_by : {F : Type 0} (config : Config) (n : ℕ) (results : List (Result F RunFault)) (fs : List F)
    → 1 ≤ n → length results ≡ n → map Ok fs ≡ results → AreOwnEnds config n results → IsGiven config
given_by config n results [] some long all own = let none : length results ≡ 0 = ap length (sym all) in absurd (omega (arith, none))
given_by config n results (f ∷ fs) some long all own =
    let first : get_or results 0 (Ok f) ≡ Ok f = ap (λ l. get_or l 0 (Ok f)) (sym all) in
    let is : IsOwnEnd config 0 (Ok f) = subst (IsOwnEnd config 0) first (own 0 (Ok f) (omega arith)) in
    is.given

get_next : {A : Type 0} (done : List A) (x : A) (rest : List A) → slice_get (done ++ x ∷ rest) (length done) ≡ Some x
get_next [] x rest = refl
get_next (d ∷ done) x rest = get_next done x rest

-- what comes next stands behind what is done
pub stands_next : {A : Type 0} (done : List A) (x : A) (rest old all : List A) → old ≡ x ∷ rest → done ++ old ≡ all → slice_get all (length done) ≡ Some x
stands_next done x rest old all next is =
    subst (λ l. slice_get l (length done) ≡ Some x) (ap (λ l. done ++ l) (sym next) ∙ is) (get_next done x rest)

-- where the worker that comes next did not end well, not all did
pub not_all_well : {F : Type 0} (results : List (Result F RunFault)) (k : ℕ) (r : Result F RunFault) (fault : RunFault)
    → AreBelow IsWell (length results) results → slice_get results k ≡ Some r → r ≡ Err fault → ⊥
not_all_well results k r fault all at is = subst IsWell is (all k r (slice_get_within results k r at) at)

-- behind the last worker
pub first_least : {F : Type 0} (results : List (Result F RunFault)) (k : ℕ) (last : Option RunFault) → length results ≤ k
    → AreBelow IsWellOrOut k results → IsFirstOut results k last → IfSome last (IsLeastFault results)
first_least results k None end each first = tt
first_least results k (Some fault) end each first = IsLeastFault.out first.0 first.1 first.2 (λ j r lt at. each j r (omega arith) at)

-- what a worker's promise says of how it ended, for what it is of
abbrev pub Kept : {K S : Type 0} → (S → Bool) → Config → Image → Lines → ℕ → ℕ → Result (Finished K S) RunFault → Type 0
Kept is_clean config image lines own n r = IfOk r (λ f. IsEndOf is_clean (program_of image) lines own n f) × IsOwnEnd config own r

pub kept_end : {K S : Type 0} (is_clean : S → Bool) (config : Config) (image : Image) (lines : Lines) (own n : ℕ) (p q : EndOf S) (r : Result (Finished K S) RunFault)
    → p ≡ q → IsPromised config image lines own n q → Kept is_clean p.config.now p.image.now p.inboxes.now p.own p.n r → Kept is_clean config image lines own n r
kept_end is_clean config image lines own n p q r same promised kept =
    let is : IsPromised config image lines own n p = subst (IsPromised config image lines own n) (sym same) promised in
    subst (λ x. Kept is_clean x image lines own n r) is.plan_is
    (subst (λ x. Kept is_clean p.config.now x lines own n r) is.image_is
    (subst (λ x. Kept is_clean p.config.now p.image.now x own n r) is.lines_are
    (subst (λ x. Kept is_clean p.config.now p.image.now p.inboxes.now x n r) is.own_is
    (subst (λ x. Kept is_clean p.config.now p.image.now p.inboxes.now p.own x r) is.n_is kept))))

-- an image of the list
pub image_in : (images : List Image) (i : ℕ) → i < length images → Image
image_in [] i lt = absurd (omega arith)
image_in (image ∷ images) i lt = image
