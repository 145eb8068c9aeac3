-- Each step keeps the rule of an inbox.
use Rattle.std.proofs.Common.{◌≡◌, ◌≢◌, ℕ, zero, suc, true, false, true≢false, List, [], ◌∷◌, ◌++◌, length, set, sym, refl, ap, ◌∙◌, subst, ⊎_elim, append_assoc, All, arith}
use mathlib.Core.Option.{some, some-ne-none}
use lib.ListN.{get_elem?}
use Rattle.crossbeam_channel.specs.Fifo.{Pushes, Pops, Forks, Merges, Learns}
use Rattle.atomic_table.proofs.Lists.{at_set, at_snoc}
use Rattle.om_format.specs.declared.message.Message.{Message}
use Rattle.om_board.specs.declared.hand.Hand.{Hand}
use Rattle.om_board.specs.steps.Order.{hand, FitsLine, Relayed, IsOfPair, Puts, Takes}
use Rattle.om_board.specs.Inboxes.{IsEndOf}
use Rattle.std.proofs.lemmas.List.Elements.{All-push}

at_end : (l : List Hand) (a b : Hand) (j : ℕ) → get_elem? l j ≢ some b → get_elem? (l ++ a ∷ []) j ≡ some b → j ≡ length l
at_end [] a b zero n e = refl
at_end [] a b (suc j) n e = absurd (some-ne-none b (sym e))
at_end (x ∷ xs) a b zero n e = absurd (n e)
at_end (x ∷ xs) a b (suc j) n e = ap suc (at_end xs a b j n e)

abbrev Each : (ℕ → Hand → Type 0) → List Hand → Type 0
Each F views = (port : ℕ) (v : Hand) → get_elem? views port ≡ some v → F port v

all_set : (F : ℕ → Hand → Type 0) (views : List Hand) (port : ℕ) (w : Hand) → F port w → ((j : ℕ) (u : Hand) → j ≢ port → get_elem? views j ≡ some u → F j u) → Each F (set views port w)
all_set F views port w mine others j u e =
    ⊎_elim
    (λ (x : (j ≡ port) × (w ≡ u)). subst (λ (y : ℕ × Hand). F y.0 y.1) (λ i. (sym x.0 i, x.1 i)) mine)
    (λ (x : (j ≢ port) × (get_elem? views j ≡ some u)). others j u x.0 x.1)
    (at_set views port j w u e)

off : false ≡ true → ⊥
off e = true≢false (sym e)

pub middle : (P : Message → Type 0) (before after : List Message) (m : Message) → All P (before ++ m ∷ after) → P m
middle P [] after m all = all 0 m (omega arith)
middle P (x ∷ xs) after m all = middle P xs after m (λ k d below. all (suc k) d (omega arith))

nothing : (P : Message → Type 0) → All P []
nothing P = λ k d below. absurd (omega arith)

pub begins : Relayed [] (hand true true 0 0 [] [] ∷ [])
begins = (0, 0, 0, 0, [], [], refl, nothing (IsOfPair 0 0), all_set (FitsLine 0 0 0 0 [] []) (hand true true 0 0 [] [] ∷ []) 0 (hand true true 0 0 [] []) ((λ _. (refl, refl, refl, refl)), λ _. (refl, refl, refl, refl)) (λ j u other e. absurd (other (at_end [] _ u j (λ x. some-ne-none u (sym x)) e))))

pub sends : (n port : ℕ) (v : Hand) (x : Message) → v.puts ≡ true → IsOfPair v.from v.to x → Pushes Relayed n port v x (λ w. Puts v x w)
sends n port v x may pair items views _ h at =
    let w = hand v.puts v.takes v.from v.to (v.put ++ x ∷ []) v.taken in
    let mine = h.8 port v at in
    let known = mine.0 may in
    let put = h.4 ++ x ∷ [] in (
      w,
      (
        h.0,
        h.1,
        h.2,
        h.3,
        put,
        h.5,
        ap (λ l. l ++ x ∷ []) h.6 ∙ append_assoc h.5 items (x ∷ []),
        All-push (IsOfPair h.2 h.3) h.4 x h.7 (pair.0 ∙ known.2, pair.1 ∙ known.3),
        all_set (FitsLine h.0 h.1 h.2 h.3 put h.5) views port w
            ((λ _. (known.0, ap (λ l. l ++ x ∷ []) known.1, known.2, known.3)), mine.1)
            (λ j u other e. ((λ p. absurd (other (((h.8 j u e).0 p).0 ∙ sym known.0))), (h.8 j u e).1)),
      ),
      refl,
    )

pub full : (port : ℕ) (v : Hand) → v.puts ≡ true → Learns Relayed port v (λ items. IsEndOf v.put items)
full port v may items views h at = (h.5, ((h.8 port v at).0 may).1 ∙ h.6)

pub gets : (port : ℕ) (v : Hand) → v.takes ≡ true → Pops Relayed port v (λ x w. Takes v x w)
gets port v may x items views h at =
    let w = hand v.puts v.takes v.from v.to v.put (v.taken ++ x ∷ []) in
    let mine = h.8 port v at in
    let known = mine.1 may in
    let taken = h.5 ++ x ∷ [] in
    let pair = middle (IsOfPair h.2 h.3) h.5 items x (subst (All (IsOfPair h.2 h.3)) h.6 h.7) in (
      w,
      (
        h.0,
        h.1,
        h.2,
        h.3,
        h.4,
        taken,
        h.6 ∙ sym (append_assoc h.5 (x ∷ []) items),
        h.7,
        all_set (FitsLine h.0 h.1 h.2 h.3 h.4 taken) views port w
            (mine.0, λ _. (known.0, ap (λ l. l ++ x ∷ []) known.1, known.2, known.3))
            (λ j u other e. ((h.8 j u e).0, λ p. absurd (other (((h.8 j u e).1 p).0 ∙ sym known.0)))),
      ),
      (refl, (pair.0 ∙ sym known.2, pair.1 ∙ sym known.3)),
    )

-- what is left of what was put, where the taker knows that
pub left : (port : ℕ) (v : Hand) → v.takes ≡ true → Learns Relayed port v (λ items. v.puts ≡ true → v.put ≡ v.taken ++ items)
left port v takes items views h at puts =
    let mine = h.8 port v at in
    (mine.0 puts).1 ∙ h.6 ∙ ap (λ l. l ++ items) (sym (mine.1 takes).1)

-- the first pass is cut in two, and the pair is fixed
pub forks : (port : ℕ) (v : Hand) (from to : ℕ) → v ≡ hand true true 0 0 [] [] → Forks Relayed port v (hand true false from to v.put []) (hand false true from to [] v.taken)
forks port v from to first items views h at =
    let l = hand true false from to v.put [] in
    let r = hand false true from to [] v.taken in
    let puts : v.puts ≡ true = ap (λ (w : Hand). w.puts) first in
    let takes : v.takes ≡ true = ap (λ (w : Hand). w.takes) first in
    let none : v.put ≡ [] = ap (λ (w : Hand). w.put) first in
    let mine = h.8 port v at in
    let empty : h.4 ≡ [] = sym ((mine.0 puts).1) ∙ none in
    let vs : List Hand = set views port l in
    let Old : ℕ → Hand → Type 0 = λ j u. (u.puts ≡ true → (j ≡ h.0) × (u.put ≡ h.4) × (u.from ≡ from) × (u.to ≡ to)) × (u.takes ≢ true) in
    let old : Each Old vs =
    all_set Old views port l
    ((λ _. ((mine.0 puts).0, (mine.0 puts).1, refl, refl)), off)
    (λ j u other e. ((λ p. absurd (other (((h.8 j u e).0 p).0 ∙ sym (mine.0 puts).0))), λ p. other (((h.8 j u e).1 p).0 ∙ sym (mine.1 takes).0))) in (
      h.0,
      length vs,
      from,
      to,
      h.4,
      h.5,
      h.6,
      subst (All (IsOfPair from to)) (sym empty) (nothing (IsOfPair from to)),
      λ j u e. ⊎_elim
          (λ x. ((old j u x).0, λ p. absurd ((old j u x).1 p)))
          (λ (is : r ≡ u). (
            (λ p. absurd (off (ap (λ (y : Hand). y.puts) is ∙ p))),
            λ p. (
              at_end vs r u j (λ x. (old j u x).1 p) e,
              ap (λ (y : Hand). y.taken) (sym is) ∙ (mine.1 takes).1,
              ap (λ (y : Hand). y.from) (sym is),
              ap (λ (y : Hand). y.to) (sym is),
            ),
          ))
          (at_snoc vs r u j e),
    )

-- the taker takes in the putter's pass
pub merges : (port : ℕ) (v : Hand) (other : ℕ) (u : Hand) → v.takes ≡ true → u.puts ≡ true → Merges Relayed port v other u (hand true true v.from v.to u.put v.taken) (hand false false 0 0 [] [])
merges port v other u b a items views h at two at' =
    let both = hand true true v.from v.to u.put v.taken in
    let mine = (h.8 port v at).1 b in
    let vs : List Hand = set views port both in
    let was : get_elem? views other ≡ some u = ⊎_elim (λ x. absurd (two x.0)) (λ x. x.1) (at_set views port other both u at') in
    let theirs = (h.8 other u was).0 a in
    let Now : ℕ → Hand → Type 0 = λ j y. j ≢ other → FitsLine port h.1 h.2 h.3 h.4 h.5 j y in
    let now : Each Now vs =
    all_set Now views port both
    (λ _. ((λ _. (refl, theirs.1, mine.2, mine.3)), λ _. mine))
    (λ j y _ e apart. ((λ p. absurd (apart (((h.8 j y e).0 p).0 ∙ sym theirs.0))), (h.8 j y e).1)) in
    (port, h.1, h.2, h.3, h.4, h.5, h.6, h.7, all_set (FitsLine port h.1 h.2 h.3 h.4 h.5) vs other (hand false false 0 0 [] []) ((λ p. absurd (off p)), λ p. absurd (off p)) (λ j y apart e. now j y e apart))

pub totals : (port : ℕ) (v : Hand) → v.puts ≡ true → v.takes ≡ true → Learns Relayed port v (λ items. v.put ≡ v.taken ++ items)
totals port v puts takes items views h at = left port v takes items views h at puts
