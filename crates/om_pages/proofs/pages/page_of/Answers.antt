use Rattle.std.proofs.Common.{◌≡◌, ℕ, ◌-◌, List, length, take, drop, min, ap, ◌∙◌, arith}
use Rattle.std.proofs.lemmas.List.{length-drop, take_all, take_min}
use Rattle.om_pages.specs.declared.pages.TheConstants.{PAGE}
use Rattle.om_pages.proofs.pages.page_of.Goals as goal

-- a slice up to its end is what is left
front_of : (n m k : ℕ) (xs : List ℕ) → m ≡ min n (length (take (length xs - k) (drop k xs))) → take m (take (length xs - k) (drop k xs)) ≡ take n (drop k xs)
front_of n m k xs is =
    let whole : take (length xs - k) (drop k xs) ≡ drop k xs = take_all (length xs - k) (drop k xs) (omega (arith, length-drop k xs)) in
    ap (λ (j : ℕ). take j (take (length xs - k) (drop k xs))) is ∙ take_min n (take (length xs - k) (drop k xs)) ∙ ap (λ (ys : List ℕ). take n ys) whole

pub returns : goal.returns
returns c = front_of PAGE c.min.result _ c.args.memory.now c.min.ensures
