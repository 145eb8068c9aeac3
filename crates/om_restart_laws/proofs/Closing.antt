-- A recoverable state of true rows cuts a run to one that is a run too.
use Rattle.std.proofs.Common.{◌≡◌, ◌≢◌, inl, inr, ℕ, zero, suc, ◌<◌, ◌≤◌, List, [], ◌∷◌, ◌++◌, length, take, get_or, Some, Bool, true, false, refl, sym, ap, ◌∙◌, subst, arith}
use Rattle.std.specs.Prelude.{if◌then◌else◌, nat_eq, slice_get, slice_index}
use Rattle.std.proofs.lemmas.Bool.Decides.{nat_tests}
use Rattle.om_process.specs.Claims.{AtInterval, RowOf}
use Rattle.om_process.specs.Dependencies.{Depends, greatest_from}
use Rattle.om_process.specs.Process.{Program, Received}
use Rattle.om_recover.specs.Recoverable.{IsRecoverable, IsStable}
use Rattle.om_recover.specs.Rows.{HasRow, Rows}
use Rattle.om_recover.specs.declared.row.Row.{Row}
use Rattle.om_stable.specs.Content.{Content}
use Rattle.om_world.specs.Live.{Legal, cut_list, receipt_of, received}
use Rattle.om_world.specs.declared.entry.Entry.{Entry}
use Rattle.om_world.proofs.Finish.{closed_legal}
use Rattle.om_world.proofs.Legal.{cut}
use Rattle.om_world.proofs.Ordered.{depends_at, length-depends}
use Rattle.om_world.proofs.Raising.{beyond, less}
use Rattle.om_world.specs.Disk.{AreTrue, DependsWithin}
use Rattle.om_take_up.specs.StoreRows.{HasRowsOf}
use Rattle.om_world.proofs.TrueRows.{IsTrueOf, rows_are_true}

-- ---- who sent what was received
abbrev IsOfEntry : List Entry → Received → Type 0
IsOfEntry es r = (before after : List Entry) × (e : Entry) × (es ≡ before ++ e ∷ after) × (r ≡ receipt_of e)

behind_one : (x : Entry) (es : List Entry) (r : Received) → IsOfEntry es r → IsOfEntry (x ∷ es) r
behind_one x es r o = (x ∷ o.0, o.1, o.2, ap (λ l. x ∷ l) o.3, o.4)

of_entry : (p : ℕ) (es : List Entry) (i : ℕ) (r : Received) → slice_get (received p es) i ≡ Some r → IsOfEntry es r
of_entry p [] i r at = cc
of_entry p (x ∷ es) i r at = go (λ j there. of_entry p es j r there) (nat_eq x.to p) refl
  where
    mine : ((j : ℕ) → slice_get (received p es) j ≡ Some r → IsOfEntry es r) → (i : ℕ) → slice_get (receipt_of x ∷ received p es) i ≡ Some r → IsOfEntry (x ∷ es) r
    mine rest zero here = let same : receipt_of x ≡ r = cc in ([], es, x, refl, sym same)
    mine rest (suc i) later = behind_one x es r (rest i later)

    go : ((j : ℕ) → slice_get (received p es) j ≡ Some r → IsOfEntry es r) → (b : Bool) → nat_eq x.to p ≡ b → IsOfEntry (x ∷ es) r
    go rest true is = mine rest i (rw is at at)
    go rest false is = behind_one x es r (rest i (rw is at at))

sender_known : (programs : List Program) (p : ℕ) (es : List Entry) (i : ℕ) (r : Received) → Legal programs es → slice_get (received p es) i ≡ Some r → r.from < length programs
sender_known programs p es i r legal at =
    let o = of_entry p es i r at in
    let m = legal o.0 o.1 o.2 o.3 in
    subst (λ (x : Received). x.from < length programs) (sym o.4) m.from

-- where no receipt is from a process, there is no greatest of them
none_from : (q k : ℕ) (h : List Received) → ((i : ℕ) (r : Received) → slice_get h i ≡ Some r → r.from ≢ q) → greatest_from q (take k h) ≡ 0
none_from q zero h all = refl
none_from q (suc k) [] all = refl
none_from q (suc k) (r ∷ h) all = go (nat_eq r.from q) refl (none_from q k h (λ i x at. all (suc i) x at))
  where
    go : (b : Bool) → nat_eq r.from q ≡ b → greatest_from q (take k h) ≡ 0 → greatest_from q (r ∷ take k h) ≡ 0
    go true is none = absurd (all zero r refl (grind (arith, nat_tests)))
    go false is none = rw is none

-- ---- a stable interval has a row
row_at : (rows : Rows) (p x : ℕ) → IsStable rows p x → (row : Row) × HasRow rows row × (row.pid ≡ p) × (row.interval ≡ x)
row_at rows p x s = elim (less s.from x) [
  | inl lt ↦ let h = s.logged x lt (omega arith) in (h.row, h.there, h.pid_is, h.interval_is)
  | inr ge ↦ let h = s.checkpoint in let b = s.below in let is : s.from ≡ x = omega arith in (h.row, h.there, h.pid_is, h.interval_is ∙ is)
]

-- ---- the state does not depend on what is outside it
pub within : (programs : List Program) (live : List Entry) (rows : Rows) (state : List ℕ)
    → Legal programs live → ((row : Row) → HasRow rows row → IsTrueOf programs live row) → IsRecoverable (length programs) rows state
    → DependsWithin live (slice_index state)
within programs live rows state legal facts r p q other = elim (less p n) [
  | inr ge ↦
      let size = r.places in
      let none : slice_index state p ≡ 0 = beyond state p (omega arith) in
      subst (λ k. greatest_from q (take k h) ≤ slice_index state q) (sym none) (omega arith)
  | inl lt ↦ elim (less q n) [
    | inr ge ↦
        let none = none_from q k h (λ i x at. let few = sender_known programs p live i x legal at in omega arith) in
        omega arith
    | inl few ↦
        let row = row_at rows p k (r.stable p lt) in
        let true_row = facts row.0 row.1 in
        let claim = subst (λ o. AtInterval (received o live) row.0.interval (RowOf o n row.0.vec row.0.got)) row.2 true_row in
        let vec : row.0.vec ≡ Depends n p (take k h) = claim.1.0 ∙ ap (λ x. Depends n p (take x h)) row.3 in
        let below = r.closed row.0 row.1 (row.3 ∙ ap (slice_index state) (sym row.2)) in
        let long : q < length row.0.vec = subst (λ m. q < m) (sym (ap length vec ∙ length-depends n p (take k h))) few in
        let at : slice_index row.0.vec q ≡ greatest_from q (take k h) = ap (λ v. get_or v q 0) vec ∙ depends_at n p q (take k h) few ∙ apart (nat_eq q p) refl in
        let le = below.each q long in
        omega arith
  ]
]
  where
    n : ℕ
    n = length programs

    h : List Received
    h = received p live

    k : ℕ
    k = slice_index state p

    apart : (b : Bool) → nat_eq q p ≡ b → (if nat_eq q p then length (take k h) else greatest_from q (take k h)) ≡ greatest_from q (take k h)
    apart true is = absurd (other (grind (arith, nat_tests)))
    apart false is = rw is refl

pub cut_legal : (programs : List Program) (live : List Entry) (held : ℕ → Content) (rows : Rows) (state : List ℕ)
    → Legal programs live → AreTrue programs live held → HasRowsOf (length programs) held rows → IsRecoverable (length programs) rows state
    → Legal programs (cut_list state live)
cut_legal programs live held rows state legal disk has r =
    cut programs state live legal (closed_legal programs state live legal (within programs live rows state legal (λ row at. rows_are_true programs live held rows row disk has at) r))
