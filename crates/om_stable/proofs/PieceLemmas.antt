-- Records whose bytes stand one behind the other: which they are where some are added, taken or dropped.
use Rattle.std.proofs.Common.{◌≡◌, ℕ, zero, suc, ◌+◌, ◌-◌, ◌<◌, ◌≤◌, List, [], ◌∷◌, ◌++◌, length, drop, take, get_or, refl, sym, ap, ◌∙◌, arith, subst}
use Rattle.std.proofs.lemmas.List.{drop-append-le, drop-drop, drop-take, length-drop, length-take-le, take-append-le, take-take, take_more}
use Rattle.std.proofs.Math.Seq.{take-length}
use Rattle.om_stable.specs.steps.Pieces.{pieces, total}

pub length-pieces : (lens bytes : List ℕ) → length (pieces lens bytes) ≡ length lens
length-pieces [] bytes = refl
length-pieces (len ∷ lens) bytes = ap suc (length-pieces lens (drop len bytes))

pub total-append : (lens more : List ℕ) → total (lens ++ more) ≡ total lens + total more
total-append [] more = omega arith
total-append (len ∷ lens) more = let rest = total-append lens more in omega (arith, rest)

pub total-parts : (lens : List ℕ) (k : ℕ) → total (take k lens) + total (drop k lens) ≡ total lens
total-parts lens zero = omega arith
total-parts [] (suc k) = omega arith
total-parts (len ∷ lens) (suc k) = let rest = total-parts lens k in omega (arith, rest)

empty_of : (xs : List ℕ) → 0 ≡ length xs → xs ≡ []
empty_of [] h = refl
empty_of (x ∷ xs) h = cc

-- one more behind the others
pub pieces_more : (lens bytes b : List ℕ) (len : ℕ) → total lens ≡ length bytes → len ≡ length b → pieces (lens ++ len ∷ []) (bytes ++ b) ≡ pieces lens bytes ++ b ∷ []
pieces_more [] bytes b len all is =
    ap (λ xs. take len (xs ++ b) ∷ []) (empty_of bytes all) ∙ ap (λ xs. xs ∷ []) (ap (λ k. take k b) is ∙ take-length b)
pieces_more (l ∷ lens) bytes b len all is =
    let within : l ≤ length bytes = omega (arith, all) in
    let rest : total lens ≡ length (drop l bytes) = omega (arith, all, length-drop l bytes) in
    ap (λ xs. xs ∷ pieces (lens ++ len ∷ []) (drop l (bytes ++ b))) (take-append-le l bytes b within)
    ∙ ap (λ xs. take l bytes ∷ pieces (lens ++ len ∷ []) xs) (drop-append-le l bytes b within)
    ∙ ap (λ xs. take l bytes ∷ xs) (pieces_more lens (drop l bytes) b len rest is)

-- the first of them
pub pieces_taken : (lens bytes : List ℕ) (k : ℕ) → take k (pieces lens bytes) ≡ pieces (take k lens) (take (total (take k lens)) bytes)
pieces_taken lens bytes zero = refl
pieces_taken [] bytes (suc k) = refl
pieces_taken (l ∷ lens) bytes (suc k) =
    let s : ℕ = total (take k lens) in
    ap (λ xs. take l bytes ∷ xs) (pieces_taken lens (drop l bytes) k)
    ∙ ap (λ xs. xs ∷ pieces (take k lens) (take s (drop l bytes))) (sym (take-take l (l + s) bytes (omega arith)))
    ∙ ap (λ xs. take l (take (l + s) bytes) ∷ pieces (take k lens) xs) (sym (drop-take l s bytes))

-- those behind the first
pub pieces_dropped : (lens bytes : List ℕ) (k : ℕ) → drop k (pieces lens bytes) ≡ pieces (drop k lens) (drop (total (take k lens)) bytes)
pieces_dropped lens bytes zero = refl
pieces_dropped [] bytes (suc k) = refl
pieces_dropped (l ∷ lens) bytes (suc k) =
    pieces_dropped lens (drop l bytes) k ∙ ap (pieces (drop k lens)) (drop-drop (total (take k lens)) l bytes)

-- one of them
pub pieces_at : (lens bytes d : List ℕ) (i : ℕ) → i < length lens → get_or (pieces lens bytes) i d ≡ take (get_or lens i 0) (drop (total (take i lens)) bytes)
pieces_at [] bytes d i less = absurd (omega (arith, less))
pieces_at (l ∷ lens) bytes d zero less = refl
pieces_at (l ∷ lens) bytes d (suc i) less =
    pieces_at lens (drop l bytes) d i (omega (arith, less)) ∙ ap (take (get_or lens i 0)) (drop-drop (total (take i lens)) l bytes)

-- some of them lie where they lay
pub pieces_amid : (lens bytes : List ℕ) (from count : ℕ) → take count (pieces (drop from lens) (drop (total (take from lens)) bytes)) ≡ take count (drop from (pieces lens bytes))
pieces_amid lens bytes from count = ap (take count) (sym (pieces_dropped lens bytes from))

-- one more is taken
pub total_more : (lens : List ℕ) (k : ℕ) → k < length lens → total (take (k + 1) lens) ≡ total (take k lens) + get_or lens k 0
total_more lens k less =
    ap total (take_more lens k 0 less) ∙ total-append (take k lens) (get_or lens k 0 ∷ []) ∙ omega arith

-- the bytes of the next one lie within
pub next_within : (lens bytes : List ℕ) (k : ℕ) → k < length lens → total lens ≤ length bytes → get_or lens k 0 ≤ length (drop (total (take k lens)) bytes)
next_within lens bytes k less within =
    let more = total_more lens k less in
    let parts = total-parts lens (k + 1) in
    omega (arith, more, parts, within, length-drop (total (take k lens)) bytes)

pub passed_more : (lens bytes : List ℕ) (k : ℕ) → k < length lens → drop (get_or lens k 0) (drop (total (take k lens)) bytes) ≡ drop (total (take (k + 1) lens)) bytes
passed_more lens bytes k less =
    drop-drop (get_or lens k 0) (total (take k lens)) bytes ∙ ap (λ n. drop n bytes) (sym (total_more lens k less))

-- a copy more
pub copied_more : (lens bytes : List ℕ) (k : ℕ) → k < length lens
    → take k (pieces lens bytes) ++ take (get_or lens k 0) (drop (total (take k lens)) bytes) ∷ [] ≡ take (k + 1) (pieces lens bytes)
copied_more lens bytes k less =
    let long : k < length (pieces lens bytes) = omega (arith, less, length-pieces lens bytes) in
    ap (λ b. take k (pieces lens bytes) ++ b ∷ []) (sym (pieces_at lens bytes [] k less)) ∙ sym (take_more (pieces lens bytes) k [] long)

-- ---- a list of which some are gone
-- so many are left
pub count_left : (lens bytes : List ℕ) (gone past count : ℕ) (view : List (List ℕ)) → pieces (drop gone lens) (drop past bytes) ≡ view → count ≤ length view → gone ≤ length lens → gone + count ≤ length lens
count_left lens bytes gone past count view is within inside =
    let long = length-pieces (drop gone lens) (drop past bytes) in
    let same = ap length is in
    omega (arith, long, same, within, inside, length-drop gone lens)

-- the bytes of those that are left
pub left_within : (lens bytes : List ℕ) (gone past : ℕ) → past + total (drop gone lens) ≡ length bytes → total (drop gone lens) ≤ length (drop past bytes)
left_within lens bytes gone past is = omega (arith, is, length-drop past bytes)

-- what is dropped of the front
pub front_dropped : (lens bytes : List ℕ) (gone past count size : ℕ) → past + total (drop gone lens) ≡ length bytes → size ≡ total (take count (drop gone lens))
    → past + size + total (drop (gone + count) lens) ≡ length bytes
front_dropped lens bytes gone past count size is counted =
    let parts = total-parts (drop gone lens) count in
    let behind = ap total (drop-drop count gone lens) in
    omega (arith, is, counted, parts, behind)

pub view_dropped : (lens bytes : List ℕ) (gone past count size : ℕ) (view : List (List ℕ)) → pieces (drop gone lens) (drop past bytes) ≡ view → size ≡ total (take count (drop gone lens))
    → pieces (drop (gone + count) lens) (drop (past + size) bytes) ≡ drop count view
view_dropped lens bytes gone past count size view is counted =
    ap (λ ls. pieces ls (drop (past + size) bytes)) (sym (drop-drop count gone lens))
    ∙ ap (pieces (drop count (drop gone lens))) (sym (drop-drop size past bytes) ∙ ap (λ n. drop n (drop past bytes)) counted)
    ∙ sym (pieces_dropped (drop gone lens) (drop past bytes) count) ∙ ap (drop count) is

-- what is kept of the front
pub front_kept : (lens bytes : List ℕ) (gone past count size : ℕ) → past + total (drop gone lens) ≡ length bytes → size ≡ total (take count (drop gone lens)) → gone + count ≤ length lens
    → past + total (drop gone (take (gone + count) lens)) ≡ length (take (past + size) bytes)
front_kept lens bytes gone past count size is counted within =
    let parts = total-parts (drop gone lens) count in
    let front = ap total (drop-take gone count lens) in
    let room : past + size ≤ length bytes = omega (arith, is, counted, parts) in
    omega (arith, front, counted, length-take-le (past + size) bytes room)

pub view_kept : (lens bytes : List ℕ) (gone past count size : ℕ) (view : List (List ℕ)) → pieces (drop gone lens) (drop past bytes) ≡ view → size ≡ total (take count (drop gone lens))
    → pieces (drop gone (take (gone + count) lens)) (drop past (take (past + size) bytes)) ≡ take count view
view_kept lens bytes gone past count size view is counted =
    ap (λ ls. pieces ls (drop past (take (past + size) bytes))) (drop-take gone count lens)
    ∙ ap (pieces (take count (drop gone lens))) (drop-take past size bytes ∙ ap (λ n. take n (drop past bytes)) counted)
    ∙ sym (pieces_taken (drop gone lens) (drop past bytes) count) ∙ ap (take count) is

-- all from one on
pub rest_from : {A : Type 0} (xs ys : List A) (k : ℕ) → xs ≡ ys → take (length xs - k) (drop k xs) ≡ drop k ys
rest_from xs ys k same = ap (λ n. take n (drop k xs)) (sym (length-drop k xs)) ∙ take-length (drop k xs) ∙ ap (drop k) same
