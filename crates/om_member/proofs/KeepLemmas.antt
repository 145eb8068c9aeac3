-- What every act leaves of the manager.
use Rattle.std.proofs.Common.{◌≡◌, ℕ, List, [], ◌∷◌, ◌++◌, refl, sym, ap, ◌∙◌, subst, arith}
use mathlib.Core.List.{IsPrefix}
use Rattle.om_process.specs.declared.queues.Made.{Made}
use Rattle.om_process.specs.declared.row.PendingRow.{PendingRow}
use Rattle.om_manager.specs.Sound.{IsManager}
use Rattle.om_manager.specs.State.{ManagerState, released_by}
use Rattle.om_member.specs.Handed.{AreHanded}
use Rattle.om_member.specs.Keeps.{Keeps}
use Rattle.om_member.specs.Told.{AreTold}

pub prefix_same : {A : Type 0} (xs : List A) → IsPrefix xs xs
prefix_same xs = ([], nothing xs)
  where
    nothing : {A : Type 0} (xs : List A) → xs ++ [] ≡ xs
    nothing [] = refl
    nothing (x ∷ xs) = ap (λ l. x ∷ l) (nothing xs)

pub prefix_then : {A : Type 0} (xs ys zs : List A) → IsPrefix xs ys → IsPrefix ys zs → IsPrefix xs zs
prefix_then xs ys zs a b = (a.0 ++ b.0, joined xs a.0 b.0 ∙ ap (λ l. l ++ b.0) a.1 ∙ b.1)
  where
    joined : {A : Type 0} (xs ys zs : List A) → xs ++ (ys ++ zs) ≡ (xs ++ ys) ++ zs
    joined [] ys zs = refl
    joined (x ∷ xs) ys zs = ap (λ l. x ∷ l) (joined xs ys zs)

pub keeps_same : (m : ManagerState) → IsManager m → Keeps m m
keeps_same m is = record {
  sound = is;
  below = record { same_places = refl; each = λ place lt. omega arith };
  released = λ p lt. prefix_same (released_by m p);
}

pub keeps_then : (a b c : ManagerState) → Keeps a b → Keeps b c → Keeps a c
keeps_then a b c k l = record {
  sound = l.sound;
  below = record {
    same_places = k.below.same_places ∙ l.below.same_places;
    each = λ place lt.
        let same = k.below.same_places in
        let x = k.below.each place lt in let y = l.below.each place (omega arith) in omega arith;
  };
  released = λ p lt. let same = k.below.same_places in
      prefix_then (released_by a p) (released_by b p) (released_by c p) (k.released p lt) (l.released p (omega arith));
}

pub told_keeps : (old new : ManagerState) (round p : ℕ) (rows : List PendingRow) → IsManager old → AreTold old round p rows new → Keeps old new
told_keeps old new round p [] is same = subst (λ m. Keeps old m) (sym same) (keeps_same old is)
told_keeps old new round p (row ∷ rows) is told =
    let t = told.2 in
    keeps_then old told.0 new t.keeps (told_keeps told.0 new round p rows t.keeps.sound told.3)

pub handed_keeps : (old new : ManagerState) (round p : ℕ) (ms : List Made) → IsManager old → AreHanded old round p ms new → Keeps old new
handed_keeps old new round p [] is same = subst (λ m. Keeps old m) (sym same) (keeps_same old is)
handed_keeps old new round p (m ∷ ms) is handed =
    let t = handed.2 in
    keeps_then old handed.0 new t.keeps (handed_keeps handed.0 new round p ms t.keeps.sound handed.3)
