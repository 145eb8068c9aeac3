use Rattle.std.proofs.Common.{◌≡◌, ℕ, ◌-◌, ◌+◌, ◌++◌, List, length, take, drop, replicate, arith, sym, ◌∙◌, length-drop, ap}
use Rattle.std.proofs.lemmas.List.{length-take-le, take-append-drop, length-replicate, get_or-replicate, get_or-drop}
use Rattle.std.proofs.lemmas.Grind.{same_number_lists}
use Rattle.om_interval.specs.steps.InUse.{AreInUse}

-- as many numbers are seen as are in use
pub length-in_use : (limit count : ℕ) (places : List ℕ) → AreInUse limit count places → length (take count places) ≡ count
length-in_use limit count places used = length-take-le count places (omega (arith, used.within, used.whole))

-- behind the places in use stands nothing but zeros
drop-in_use : (limit count : ℕ) (places : List ℕ) → AreInUse limit count places → drop count places ≡ replicate (limit - count) 0
drop-in_use limit count places used =
    let as_long : length (drop count places) ≡ length (replicate {A = ℕ} (limit - count) 0) =
    simp (length-drop, length-replicate) (ap (λ n. n - count) used.whole) in
    let below : length (drop count places) ≡ limit - count = simp length-drop (ap (λ n. n - count) used.whole) in
    same_number_lists (drop count places) (replicate (limit - count) 0) as_long
    (λ k in_list. get_or-drop count places k 0 ∙ used.zeros_behind (count + k) (omega arith)
    ∙ sym (get_or-replicate (limit - count) k 0 0 (omega arith)))

-- the numbers that are seen and zeros up to the limit are all places
pub padded-in_use : (limit count : ℕ) (places : List ℕ) → AreInUse limit count places
    → take count places ++ replicate (limit - length (take count places)) 0 ≡ places
padded-in_use limit count places used =
    rw (length-in_use limit count places used, ← drop-in_use limit count places used) (take-append-drop count places)
