-- Outputs that are handed in one after another.
use Rattle.std.proofs.Common.{◌≡◌, ◌≢◌, ◌⊎◌, ℕ, zero, suc, ◌+◌, ◌<◌, ◌≤◌, List, [], ◌∷◌, ◌++◌, length, take, set, map, get_or, Some, Ok, Err, Result, refl, sym, ap, ◌∙◌, subst, arith, zero-add}
use Rattle.std.specs.Prelude.{All, nat_le, slice_get, slice_index, slice_index_or}
use Rattle.std.proofs.Math.Seq.{take-length}
use Rattle.std.proofs.lemmas.List.{get_or-map, get_or-take, get_or_default, length-map, length-take-le}
use Rattle.std.proofs.lemmas.List.Elements.{All-map}
use Rattle.std.proofs.lemmas.List.Kept.{AllPairs-filter}
use Rattle.om_manager.specs.Notes.{IsDifferent, NotesOutput, with_output}
use Rattle.om_manager.specs.Outputs.{AreNumbered, AreRising, HeldOutput, held_of}
use Rattle.om_manager.specs.Sound.{IsManager}
use Rattle.om_manager.specs.State.{ManagerState, held_by, process_count, released_by}
use Rattle.om_manager.specs.declared.answers.OutputError.{OutputError}
use Rattle.om_manager.specs.declared.answers.OutputError.TheVariants as refused
use Rattle.om_manager.specs.declared.answers.OutputNote.{OutputNote}
use Rattle.om_manager.specs.declared.answers.OutputNote.TheVariants.{Held, Known, Released}
use Rattle.om_manager.specs.declared.answers.RecordError.{RecordError}
use Rattle.om_manager.specs.declared.output_log.Output.{Output}
use Rattle.om_member.specs.Handed.{AreHanded, AreHandedUpTo, held_as, made_of}
use Rattle.om_member.specs.Told.{AreTold, IsToldUpTo}
use Rattle.om_process.specs.declared.queues.Made.{Made}
use Rattle.om_process.specs.declared.row.PendingRow.{PendingRow}
use Rattle.om_take_up.specs.TakenUp.{HasTakenUp, RiseFrom}
use Rattle.om_take_up.specs.steps.Handing.{Holds}

-- ---- all rows were told, and all outputs handed in
pub all_told : (before mid : ManagerState) (round p count : ℕ) (rows : List PendingRow) (end : Result (Unit {0}) RecordError) → end ≡ Ok tt → IsToldUpTo before round p rows count end mid → AreTold before round p rows mid
all_told before mid round p count rows end is telling =
    let told = subst (λ e. IsToldUpTo before round p rows count e mid) is telling in
    subst (λ l. AreTold before round p l mid) (ap (λ n. take n rows) told.all ∙ take-length rows) told.done

pub all_taken : (before mid after : ManagerState) (round p count : ℕ) (rows : List PendingRow) (made : List Made) (end : Result (Unit {0}) RecordError) → end ≡ Ok tt
    → IsToldUpTo before round p rows count end mid → AreHandedUpTo mid round p made (Ok tt) after → HasTakenUp before round p rows made after
all_taken before mid after round p count rows made end is telling handed = (
  mid,
  all_told before mid round p count rows end is telling,
  subst (λ l. AreHanded mid round p l after) (ap (λ n. take n made) handed.1.all ∙ take-length made) handed.1.done,
)

-- ---- one output
either : (q p : ℕ) → (q ≡ p) ⊎ (q ≢ p)
either q p = grind arith

set_at : (l : List (List HeldOutput)) (p : ℕ) (x : List HeldOutput) → p < length l → slice_index_or (set l p x) p [] ≡ x
set_at [] p x lt = absurd (omega arith)
set_at (y ∷ l) zero x lt = refl
set_at (y ∷ l) (suc p) x lt = set_at l p x (omega arith)

set_off : (l : List (List HeldOutput)) (p q : ℕ) (x : List HeldOutput) → q ≢ p → slice_index_or (set l p x) q [] ≡ slice_index_or l q []
set_off [] p q x other = refl
set_off (y ∷ l) zero zero x other = absurd (other refl)
set_off (y ∷ l) zero (suc q) x other = refl
set_off (y ∷ l) (suc p) zero x other = refl
set_off (y ∷ l) (suc p) (suc q) x other = set_off l p q x (λ e. other (ap suc e))

pub none_held : (m : ManagerState) (p : ℕ) → IsManager m → held_by m p ≡ [] → Holds m p [] m
none_held m p sound none = record { sound = sound; others = refl; here = none; there = λ q other. refl }

beyond : (xs : List HeldOutput) (i : ℕ) (o : HeldOutput) → length xs ≤ i → slice_get xs i ≡ Some o → ⊥
beyond [] i o le at = cc
beyond (x ∷ xs) zero o le at = absurd (omega arith)
beyond (x ∷ xs) (suc i) o le at = beyond xs i o (omega arith) at

-- the next output of a process
with_one : (old m new : ManagerState) (p : ℕ) (outputs : List HeldOutput) (o : HeldOutput) → IsManager new → Holds old p outputs m → p < process_count m → new ≡ with_output m p o → Holds old p (outputs ++ o ∷ []) new
with_one old m new p outputs o sound h lt is = record {
  sound = sound;
  others = is ∙ ap (λ (k : ManagerState). record k { outputs = (with_output m p o).outputs }) h.others ∙ ap (λ (k : ManagerState). record old { outputs = k.outputs }) (sym is);
  here = ap (λ (k : ManagerState). held_by k p) is ∙ set_at m.outputs p (held_by m p ++ o ∷ []) (let many = h.sound.places in omega arith) ∙ ap (λ l. l ++ o ∷ []) h.here;
  there = λ q other. ap (λ (k : ManagerState). held_by k q) is ∙ set_off m.outputs p q (held_by m p ++ o ∷ []) other ∙ h.there q other;
}

pub one_held : (old m new : ManagerState) (p round seq : ℕ) (outputs : List HeldOutput) (o : HeldOutput) (note : OutputNote) → IsManager new → Holds old p outputs m → seq ≡ length outputs → NotesOutput m p round seq o (Ok note) new → Holds old p (outputs ++ o ∷ []) new
one_held old m new p round seq outputs o Known sound h is n = absurd (beyond (held_by m p) seq o (let same = ap length h.here in omega arith) n.1)
one_held old m new p round seq outputs o Released sound h is n = with_one old m new p outputs o sound h n.0.current.known n.2
one_held old m new p round seq outputs o Held sound h is n = with_one old m new p outputs o sound h n.0.current.known n.2

-- ---- outputs one after another
-- outputs under the numbers from this one on
abbrev AreNumberedFrom : ℕ → List Made → Type 0
AreNumberedFrom seq [] = Unit {0}
AreNumberedFrom seq (m ∷ ms) = (m.seq ≡ seq) × AreNumberedFrom (seq + 1) ms

numbered_take : (seq count : ℕ) (ms : List Made) → AreNumberedFrom seq ms → AreNumberedFrom seq (take count ms)
numbered_take seq zero ms n = tt
numbered_take seq (suc count) [] n = tt
numbered_take seq (suc count) (m ∷ ms) n = (n.0, numbered_take (seq + 1) count ms n.1)

numbered_at : (seq i : ℕ) (ms : List Made) (m : Made) → AreNumberedFrom seq ms → slice_get ms i ≡ Some m → m.seq ≡ seq + i
numbered_at seq i [] m n at = cc
numbered_at seq zero (d ∷ ms) m n at = let same : d ≡ m = cc in ap (λ (x : Made). x.seq) (sym same) ∙ n.0 ∙ none seq
  where
    none : (k : ℕ) → k ≡ k + 0
    none k = omega arith
numbered_at seq (suc i) (d ∷ ms) m n at = numbered_at (seq + 1) i ms m n.1 at ∙ next seq i
  where
    next : (k i : ℕ) → (k + 1) + i ≡ k + suc i
    next k i = omega arith

released_numbered : (seq : ℕ) (xs : List Output) → ((i : ℕ) (d : Output) → i < length xs → (slice_index_or xs i d).seq ≡ seq + i) → AreNumberedFrom seq (map made_of xs)
released_numbered seq [] all = tt
released_numbered seq (x ∷ xs) all = (first, released_numbered (seq + 1) xs (λ i d lt. all (suc i) d (omega arith) ∙ next seq i))
  where
    first : x.seq ≡ seq
    first = all 0 x (omega arith) ∙ none seq
      where
        none : (k : ℕ) → k + 0 ≡ k
        none k = omega arith

    next : (k i : ℕ) → k + suc i ≡ (k + 1) + i
    next k i = omega arith

append_nil : (xs : List HeldOutput) → xs ++ [] ≡ xs
append_nil [] = refl
append_nil (x ∷ xs) = ap (λ l. x ∷ l) (append_nil xs)

append_one : (xs ys : List HeldOutput) (y : HeldOutput) → (xs ++ y ∷ []) ++ ys ≡ xs ++ y ∷ ys
append_one [] ys y = refl
append_one (x ∷ xs) ys y = ap (λ l. x ∷ l) (append_one xs ys y)

length_one : (xs : List HeldOutput) (y : HeldOutput) → length xs + 1 ≡ length (xs ++ y ∷ [])
length_one [] y = refl
length_one (x ∷ xs) y = let rest = length_one xs y in omega arith

numbered_rise : (seq : ℕ) (ms : List Made) → AreNumberedFrom seq ms → RiseFrom seq ms
numbered_rise seq [] n = tt
numbered_rise seq (m ∷ ms) n = (let is = n.0 in omega arith, subst (λ k. RiseFrom (k + 1) ms) (sym n.0) (numbered_rise (seq + 1) ms n.1))

-- what is taken under a number that is not below the next has the next
next_number : (m new : ManagerState) (p round seq : ℕ) (o : HeldOutput) (note : OutputNote) → length (held_by m p) ≤ seq → NotesOutput m p round seq o (Ok note) new → seq ≡ length (held_by m p)
next_number m new p round seq o Known le n = absurd (beyond (held_by m p) seq o le n.1)
next_number m new p round seq o Released le n = n.0.next
next_number m new p round seq o Held le n = n.0.next

pub all_rising : (old m new : ManagerState) (p round : ℕ) (xs : List HeldOutput) (ms : List Made) → Holds old p xs m → RiseFrom (length xs) ms → AreHanded m round p ms new → Holds old p (xs ++ map held_as ms) new
all_rising old m new p round xs [] h n same = subst (λ l. Holds old p l new) (sym (append_nil xs)) (subst (Holds old p xs) (sym same) h)
all_rising old m new p round xs (d ∷ ms) h n handed =
    let mid = handed.0 in let one = handed.2 in
    let long : length (held_by m p) ≡ length xs = ap length h.here in
    let is : d.seq ≡ length xs = next_number m mid p round d.seq (held_as d) handed.1 (let le = n.0 in omega arith) one.answers ∙ long in
    let next = one_held old m mid p round d.seq xs (held_as d) handed.1 one.keeps.sound h is one.answers in
    subst (λ l. Holds old p l new) (append_one xs (map held_as ms) (held_as d))
    (all_rising old mid new p round (xs ++ held_as d ∷ []) ms next (subst (λ k. RiseFrom k ms) (ap (λ k. k + 1) is ∙ length_one xs (held_as d)) n.1) handed.3)

-- ---- an output is refused for memory alone
at_get : {A : Type 0} (xs : List A) (i : ℕ) (x : A) → slice_get xs i ≡ Some x → (i < length xs) × (x ≡ get_or xs i x)
at_get [] i x at = cc
at_get (y ∷ xs) zero x at = (omega arith, cc)
at_get (y ∷ xs) (suc i) x at = let rest = at_get xs i x at in (let lt = rest.0 in omega arith, rest.1)

long_taken : (ms : List Made) (i : ℕ) (m : Made) → slice_get ms i ≡ Some m → i ≡ length (map held_as (take i ms))
long_taken [] i m at = cc
long_taken (d ∷ ms) zero m at = refl
long_taken (d ∷ ms) (suc i) m at = ap suc (long_taken ms i m at)

-- none of those before is later
latest : (ms : List Made) (i : ℕ) (m : Made) → AreRising (map held_as ms) → slice_get ms i ≡ Some m → All (λ held. held.interval ≤ m.interval) (map held_as (take i ms))
latest ms i m rising at =
    let there = at_get ms i m at in let lt = there.0 in let is = there.1 in
    All-map (λ held. held.interval ≤ m.interval) held_as (take i ms)
    (λ k d small.
    let many = length-take-le i ms (omega arith) in
    let before : k < i = omega arith in
    let le = rising k i (held_as m) before (let long = length-map ms held_as in omega arith) in
    let low : (get_or (map held_as ms) k (held_as m)).interval ≡ (get_or (take i ms) k d).interval =
    ap (λ (h : HeldOutput). h.interval) (get_or-map held_as ms k m (held_as m) (omega arith)) ∙ ap (λ (o : Made). o.interval) (sym (get_or-take i ms k m before) ∙ get_or_default (take i ms) k m d small) in
    let high : (get_or (map held_as ms) i (held_as m)).interval ≡ m.interval = ap (λ (h : HeldOutput). h.interval) (get_or-map held_as ms i m (held_as m) lt) ∙ ap (λ (o : Made). o.interval) (sym is) in
    omega arith)

released_rising : (m : ManagerState) (p : ℕ) → IsManager m → p < process_count m → AreRising (released_by m p)
released_rising m p sound lt = AllPairs-filter (λ early late. early.interval ≤ late.interval) (λ o. nat_le o.interval (slice_index m.recovery p)) (held_by m p) (sound.rising p lt)

for_memory : (old m new : ManagerState) (p round seq : ℕ) (outputs : List HeldOutput) (o : HeldOutput) (fault : OutputError) → Holds old p outputs m → p < process_count old → round ≡ old.round → seq ≡ length outputs → All (λ held. held.interval ≤ o.interval) outputs
    → NotesOutput m p round seq o (Err fault) new → fault ≡ refused.Memory
for_memory old m new p round seq outputs o fault h lt current is last n = by fault n
  where
    size : process_count m ≡ process_count old
    size = ap process_count h.others

    same : m.round ≡ old.round
    same = ap (λ (k : ManagerState). k.round) h.others

    long : length (held_by m p) ≡ length outputs
    long = ap length h.here

    by : (fault : OutputError) → NotesOutput m p round seq o (Err fault) new → fault ≡ refused.Memory
    by refused.Stranger n = let ge = n.0 in let many = size in absurd (omega arith)
    by (refused.Stale told) n = absurd (n.1 (current ∙ sym same))
    by refused.Differs n = elim n.1 [
      | IsDifferent.other small other ↦ let many = long in absurd (omega arith)
      | IsDifferent.earlier next early ↦ absurd (early (subst (All (λ held. held.interval ≤ o.interval)) (sym h.here) last))
    ]
    by (refused.Gap next) n = let many = long in let told = n.1 in let gap = n.2 in absurd (omega arith)
    by refused.Memory n = refl

-- what is released, as its process made it
pub held_made : (xs : List Output) → map held_as (map made_of xs) ≡ map held_of xs
held_made [] = refl
held_made (x ∷ xs) = ap (λ l. held_of x ∷ l) (held_made xs)

module _ (from m : ManagerState) (p round : ℕ) (xs : List Output) (sound : IsManager m) (none : held_by m p ≡ []) (is : map held_of xs ≡ released_by from p) (numbered : AreNumbered xs) where
  from_zero : AreNumberedFrom 0 (map made_of xs)
  from_zero = released_numbered 0 xs (λ i d lt. numbered i d lt ∙ sym (zero-add i))

  -- what another manager released is handed in, and all of it is held
  pub released_held : (new : ManagerState) → AreHanded m round p (map made_of xs) new → Holds m p (released_by from p) new
  released_held new handed = subst (λ l. Holds m p l new) (held_made xs ∙ is) (all_rising m m new p round [] (map made_of xs) (none_held m p sound none) (numbered_rise 0 (map made_of xs) from_zero) handed)

  -- and it is refused for memory alone
  pub released_for_memory : (new : ManagerState) (fault : OutputError) → IsManager from → p < process_count from → p < process_count m → round ≡ m.round → AreHandedUpTo m round p (map made_of xs) (Err fault) new → fault ≡ refused.Memory
  released_for_memory new fault old here lt current u =
      let ms = map made_of xs in let o = u.1.refused.0 in let at = u.1.refused.1 in let n = u.1.refused.2 in
      let held = all_rising m m new p round [] (take u.0 ms) (none_held m p sound none) (numbered_rise 0 (take u.0 ms) (numbered_take 0 u.0 ms from_zero)) u.1.done in
      let rising : AreRising (map held_as ms) = subst AreRising (sym (held_made xs ∙ is)) (released_rising from p old here) in
      for_memory m new new p round o.seq (map held_as (take u.0 ms)) (held_as o) fault held lt current
      (numbered_at 0 u.0 ms o from_zero at ∙ zero-add u.0 ∙ long_taken ms u.0 o at)
      (latest ms u.0 o rising at) n
