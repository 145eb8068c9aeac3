-- The rows of a table, one after another.
use Rattle.std.proofs.Common.{◌≡◌, ℕ, ◌+◌, ◌<◌, List, [], ◌∷◌, ◌++◌, length, get_or, take, sym, ap, ◌∙◌, subst, arith, Vec}
use Rattle.std.specs.List.{AllZip}
use Rattle.std.specs.declared.alloc.Global.{Global}
use Rattle.std.proofs.lemmas.List.{map_more}
use Rattle.om_process.specs.declared.queues.Made.{Made}
use Rattle.om_restart.specs.Outputs.{IsRowOfOutput, output_bytes}
use Rattle.om_stable.specs.Content.{rows_of}

AllZip_more : {A B : Type 0} (R : A → B → Type 0) (xs : List A) (ys : List B) (x : A) (y : B) → AllZip R xs ys → R x y → AllZip R (xs ++ x ∷ []) (ys ++ y ∷ [])
AllZip_more R [] [] x y all one = (one, tt)
AllZip_more R [] (b ∷ ys) x y all one = absurd all
AllZip_more R (a ∷ xs) [] x y all one = absurd all
AllZip_more R (a ∷ xs) (b ∷ ys) x y all one = (all.0, AllZip_more R xs ys x y all.1 one)

abbrev row_of : ℕ × Vec ℕ Global → ℕ × List ℕ
row_of e = (e.0, e.1.items)

-- one more row is an output
pub outputs_more : (rows : List (ℕ × Vec ℕ Global)) (i : ℕ) (item : ℕ × Vec ℕ Global) (outputs : List Made) (made : Made) → i < length rows → item ≡ get_or rows i item
    → AllZip IsRowOfOutput (rows_of (take i rows)) outputs → made.seq ≡ item.0 → item.1.items ≡ output_bytes made
    → AllZip IsRowOfOutput (rows_of (take (i + 1) rows)) (outputs ++ made ∷ [])
outputs_more rows i item outputs made within here all number bytes =
    let more : rows_of (take (i + 1) rows) ≡ rows_of (take i rows) ++ row_of item ∷ [] =
    map_more row_of rows i item within ∙ ap (λ e. rows_of (take i rows) ++ row_of e ∷ []) (sym here) in
    let one : row_of item ≡ (made.seq, output_bytes made) = ap (λ k. (k, item.1.items)) (sym number) ∙ ap (λ bs. (made.seq, bs)) bytes in
    subst (λ l. AllZip IsRowOfOutput l (outputs ++ made ∷ [])) (sym more) (AllZip_more IsRowOfOutput (rows_of (take i rows)) outputs (row_of item) made all one)

-- a list of one item
pub one_item : {A : Type 0} (xs : List A) (x : A) → 0 < length xs → length xs < 2 → x ≡ get_or xs 0 x → xs ≡ x ∷ []
one_item [] x some few at = absurd (omega arith)
one_item (a ∷ []) x some few at = ap (λ y. y ∷ []) (sym at)
one_item (a ∷ b ∷ xs) x some few at = absurd (omega arith)
