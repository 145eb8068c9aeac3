-- The vector and the numbers got along some receipts are their dependencies and their counts.
use Rattle.std.proofs.Common.{◌≡◌, ℕ, zero, suc, ◌+◌, ◌<◌, List, [], ◌∷◌, ◌++◌, length, replicate, set, get_or, refl, sym, ap, ◌∙◌, subst, arith, true, false, Bool}
use Rattle.std.specs.Prelude.{if◌then◌else◌, nat_eq, max}
use Rattle.std.proofs.lemmas.Bool.Decides.{nat_tests}
use Rattle.std.proofs.lemmas.List.{append_assoc, append-nil}
use Rattle.om_process.specs.Process.{Process, Received, Program, delivered, raised, started}
use Rattle.om_process.specs.Dependencies.{greatest_from, count_from, places, Depends, Counts}
use Rattle.om_process.specs.Turns.{Turns, Leads, Reaches}
use Rattle.om_process.specs.Claims.{RowOf}
use Rattle.om_process.proofs.Runs.{turns_grow}
use Rattle.om_process.proofs.Going.{stays_turns}

-- one receipt more raises the place of its sender
pub greatest_more : (q : ℕ) (h : List Received) (r : Received) → greatest_from q (h ++ r ∷ []) ≡ (if nat_eq r.from q then max (greatest_from q h) r.interval else greatest_from q h)
greatest_more q [] r = first (nat_eq r.from q) refl
  where
    first : (b : Bool) → nat_eq r.from q ≡ b → greatest_from q (r ∷ []) ≡ (if nat_eq r.from q then max 0 r.interval else 0)
    first true e = rw e (omega arith)
    first false e = rw e refl
greatest_more q (x ∷ h) r = go (nat_eq x.from q) (nat_eq r.from q) refl refl (greatest_more q h r)
  where
    go : (a b : Bool) → nat_eq x.from q ≡ a → nat_eq r.from q ≡ b → greatest_from q (h ++ r ∷ []) ≡ (if nat_eq r.from q then max (greatest_from q h) r.interval else greatest_from q h) → greatest_from q (x ∷ h ++ r ∷ []) ≡ (if nat_eq r.from q then max (greatest_from q (x ∷ h)) r.interval else greatest_from q (x ∷ h))
    go true true ea eb ih = rw (ea, eb) (ap (max x.interval) (rw eb at ih) ∙ apart x.interval (greatest_from q h) r.interval)
      where
        apart : (a b c : ℕ) → max a (max b c) ≡ max (max a b) c
        apart a b c = omega arith
    go true false ea eb ih = rw (ea, eb) (ap (max x.interval) (rw eb at ih))
    go false true ea eb ih = rw (ea, eb) (rw eb at ih)
    go false false ea eb ih = rw (ea, eb) (rw eb at ih)

pub count_more : (q : ℕ) (h : List Received) (r : Received) → count_from q (h ++ r ∷ []) ≡ (if nat_eq r.from q then suc (count_from q h) else count_from q h)
count_more q [] r = refl
count_more q (x ∷ h) r = go (nat_eq x.from q) (nat_eq r.from q) refl refl (count_more q h r)
  where
    go : (a b : Bool) → nat_eq x.from q ≡ a → nat_eq r.from q ≡ b → count_from q (h ++ r ∷ []) ≡ (if nat_eq r.from q then suc (count_from q h) else count_from q h) → count_from q (x ∷ h ++ r ∷ []) ≡ (if nat_eq r.from q then suc (count_from q (x ∷ h)) else count_from q (x ∷ h))
    go true true ea eb ih = rw (ea, eb) (ap suc (rw eb at ih))
    go true false ea eb ih = rw (ea, eb) (ap suc (rw eb at ih))
    go false true ea eb ih = rw (ea, eb) (rw eb at ih)
    go false false ea eb ih = rw (ea, eb) (rw eb at ih)

-- ---- lists by their places
pub places_same : (n : ℕ) (f g : ℕ → ℕ) → ((i : ℕ) → i < n → f i ≡ g i) → places n f ≡ places n g
places_same zero f g all = refl
places_same (suc n) f g all = ap (λ x. x ∷ places n (λ i. f (suc i))) (all 0 (omega arith)) ∙ ap (λ xs. g 0 ∷ xs) (places_same n (λ i. f (suc i)) (λ i. g (suc i)) (λ i lt. all (suc i) (omega arith)))

pub places_set : (n j v : ℕ) (f : ℕ → ℕ) → set (places n f) j v ≡ places n (λ i. if nat_eq i j then v else f i)
places_set zero zero v f = refl
places_set zero (suc j) v f = refl
places_set (suc n) zero v f = ap (λ xs. v ∷ xs) (places_same n (λ i. f (suc i)) (λ i. if nat_eq (suc i) 0 then v else f (suc i)) (λ i lt. apart i))
  where
    apart : (i : ℕ) → f (suc i) ≡ (if nat_eq (suc i) 0 then v else f (suc i))
    apart i = grind (arith, nat_tests)
places_set (suc n) (suc j) v f =
    ap (λ x. x ∷ set (places n (λ i. f (suc i))) j v) here
    ∙ ap (λ xs. (if nat_eq 0 (suc j) then v else f 0) ∷ xs) (places_set n j v (λ i. f (suc i)) ∙ places_same n (λ i. if nat_eq i j then v else f (suc i)) (λ i. if nat_eq (suc i) (suc j) then v else f (suc i)) (λ i lt. same i))
  where
    here : f 0 ≡ (if nat_eq 0 (suc j) then v else f 0)
    here = grind (arith, nat_tests)

    same : (i : ℕ) → (if nat_eq i j then v else f (suc i)) ≡ (if nat_eq (suc i) (suc j) then v else f (suc i))
    same i = ap (λ b. if b then v else f (suc i)) (tests i)
      where
        tests : (i : ℕ) → nat_eq i j ≡ nat_eq (suc i) (suc j)
        tests i = grind (arith, nat_tests)

pub places_at : (n j : ℕ) (f : ℕ → ℕ) → j < n → get_or (places n f) j 0 ≡ f j
places_at zero j f lt = absurd (omega arith)
places_at (suc n) zero f lt = refl
places_at (suc n) (suc j) f lt = places_at n j (λ i. f (suc i)) (omega arith)

pub zeros : (n : ℕ) (f : ℕ → ℕ) → ((i : ℕ) → f i ≡ 0) → replicate n 0 ≡ places n f
zeros zero f all = refl
zeros (suc n) f all = ap (λ xs. 0 ∷ xs) (zeros n (λ i. f (suc i)) (λ i. all (suc i))) ∙ ap (λ x. x ∷ places n (λ i. f (suc i))) (sym (all 0))

-- the place of a vector, as a function
abbrev at_place : ℕ → List Received → ℕ → ℕ
at_place own h i = if nat_eq i own then length h else greatest_from i h

depends_places : (n own : ℕ) (h : List Received) → Depends n own h ≡ places n (at_place own h)
depends_places n own h = places_set n own (length h) (λ j. greatest_from j h)

one_more : (h : List Received) (r : Received) → length (h ++ r ∷ []) ≡ length h + 1
one_more [] r = refl
one_more (x ∷ h) r = let e = one_more h r in omega arith

-- one delivery more
depends_delivered : (n own x : ℕ) (h : List Received) (r : Received) → x ≡ length h → set (raised (Depends n own h) r.from r.interval) own (x + 1) ≡ Depends n own (h ++ r ∷ [])
depends_delivered n own x h r is =
    ap (λ v. set (raised v r.from r.interval) own (x + 1)) (depends_places n own h)
    ∙ ap (λ v. set v own (x + 1)) (places_set n r.from (max (get_or (places n (at_place own h)) r.from 0) r.interval) (at_place own h))
    ∙ places_set n own (x + 1) (λ i. if nat_eq i r.from then max (get_or (places n (at_place own h)) r.from 0) r.interval else at_place own h i)
    ∙ places_same n _ (at_place own (h ++ r ∷ [])) each
    ∙ sym (depends_places n own (h ++ r ∷ []))
  where
    each : (i : ℕ) → i < n → (if nat_eq i own then x + 1 else (if nat_eq i r.from then max (get_or (places n (at_place own h)) r.from 0) r.interval else at_place own h i)) ≡ at_place own (h ++ r ∷ []) i
    each i lt = go (nat_eq i own) (nat_eq i r.from) refl refl
      where
        go : (a b : Bool) → nat_eq i own ≡ a → nat_eq i r.from ≡ b → (if nat_eq i own then x + 1 else (if nat_eq i r.from then max (get_or (places n (at_place own h)) r.from 0) r.interval else at_place own h i)) ≡ at_place own (h ++ r ∷ []) i
        go true b ea eb = let l = one_more h r in rw ea (omega arith)
        go false true ea eb =
            let at : i ≡ r.from = grind (arith, nat_tests) in
            let back : nat_eq r.from i ≡ true = grind (arith, nat_tests) in
            let here : get_or (places n (at_place own h)) r.from 0 ≡ greatest_from i h = ap (λ j. get_or (places n (at_place own h)) j 0) (sym at) ∙ places_at n i (at_place own h) lt ∙ rw ea refl in
            rw (ea, eb) (ap (λ y. max y r.interval) here ∙ sym (greatest_more i h r ∙ rw back refl))
        go false false ea eb =
            let back : nat_eq r.from i ≡ false = grind (arith, nat_tests) in
            rw (ea, eb) (sym (greatest_more i h r ∙ rw back refl))

counts_delivered : (n : ℕ) (h : List Received) (r : Received) → set (Counts n h) r.from (get_or (Counts n h) r.from 0 + 1) ≡ Counts n (h ++ r ∷ [])
counts_delivered n h r =
    places_set n r.from (get_or (Counts n h) r.from 0 + 1) (λ j. count_from j h)
    ∙ places_same n (λ i. if nat_eq i r.from then get_or (Counts n h) r.from 0 + 1 else count_from i h) (λ j. count_from j (h ++ r ∷ [])) each
  where
    each : (i : ℕ) → i < n → (if nat_eq i r.from then get_or (Counts n h) r.from 0 + 1 else count_from i h) ≡ count_from i (h ++ r ∷ [])
    each i lt = go (nat_eq i r.from) refl
      where
        go : (b : Bool) → nat_eq i r.from ≡ b → (if nat_eq i r.from then get_or (Counts n h) r.from 0 + 1 else count_from i h) ≡ count_from i (h ++ r ∷ [])
        go true eb =
            let at : i ≡ r.from = grind (arith, nat_tests) in
            let back : nat_eq r.from i ≡ true = grind (arith, nat_tests) in
            let here : get_or (Counts n h) r.from 0 ≡ count_from i h = ap (λ j. get_or (Counts n h) j 0) (sym at) ∙ places_at n i (λ j. count_from j h) lt in
            let more : count_from i (h ++ r ∷ []) ≡ suc (count_from i h) = count_more i h r ∙ rw back refl in
            rw eb (omega arith)
        go false eb =
            let back : nat_eq r.from i ≡ false = grind (arith, nat_tests) in
            rw eb (sym (count_more i h r ∙ rw back refl))

-- a row of the receipts, after a delivery that follows some turns
row_delivered : (own n : ℕ) (h : List Received) (r : Received) (a w : Process) (k : ℕ) → a.interval ≡ length h → RowOf own n a.vec a.got h → Turns own n k a w → RowOf own n (delivered own w r).vec (delivered own w r).got (h ++ r ∷ [])
row_delivered own n h r a w k long row turns =
    let s = stays_turns own n k a w turns in
    let e : w.interval ≡ a.interval = ap (λ (p : Process). p.interval) s in (
      ap (λ v. set (raised v r.from r.interval) own (w.interval + 1)) (ap (λ (p : Process). p.vec) s ∙ row.0) ∙ depends_delivered n own w.interval h r (omega arith),
      ap (λ v. set v r.from (get_or v r.from 0 + 1)) (ap (λ (p : Process). p.got) s ∙ row.1) ∙ counts_delivered n h r,
    )

-- from a state that has the row of some receipts
row_leads : (own n : ℕ) (g h : List Received) (s t : Process) → s.interval ≡ length g → RowOf own n s.vec s.got g → Leads own n h s t → RowOf own n t.vec t.got (g ++ h)
row_leads own n g [] s t long row a = subst (λ (p : Process). RowOf own n p.vec p.got (g ++ [])) (sym a) (subst (RowOf own n s.vec s.got) (sym (append-nil g)) row)
row_leads own n g (r ∷ h) s t long row a =
    let e : a.1.interval ≡ s.interval = (turns_grow own n a.0 s a.1 a.2).0 in
    let l : length (g ++ r ∷ []) ≡ length g + 1 = one_more g r in
    subst (RowOf own n t.vec t.got) (append_assoc g (r ∷ []) h)
    (row_leads own n (g ++ r ∷ []) h (delivered own a.1 r) t (omega arith) (row_delivered own n g r s a.1 a.0 long row a.2) a.4)

row_started : (program : Program) (own n : ℕ) → RowOf own n (started program n).vec (started program n).got []
row_started program own n = (zeros n (at_place own []) (λ i. none i) ∙ sym (depends_places n own []), zeros n (λ j. count_from j []) (λ i. refl))
  where
    none : (i : ℕ) → at_place own [] i ≡ 0
    none i = go (nat_eq i own) refl
      where
        go : (b : Bool) → nat_eq i own ≡ b → at_place own [] i ≡ 0
        go true e = rw e refl
        go false e = rw e refl

-- the vector and the numbers got are those of the receipts
pub row_along : (program : Program) (own n : ℕ) (h : List Received) (t : Process) → Reaches program own n h t → RowOf own n t.vec t.got h
row_along program own n h t a =
    let s = stays_turns own n a.0 a.1.0 t a.1.2 in
    let row = row_leads own n [] h (started program n) a.1.0 refl (row_started program own n) a.1.1 in
    (ap (λ (p : Process). p.vec) s ∙ row.0, ap (λ (p : Process). p.got) s ∙ row.1)
