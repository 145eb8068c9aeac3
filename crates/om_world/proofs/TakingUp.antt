-- A world that is taken up.
use Rattle.std.proofs.Common.{◌≡◌, ℕ, ◌≤◌, List, [], ◌∷◌, length, map, cond, Bool, true, false, refl, sym, ap, ◌∙◌, subst, arith, ◌<◌}
use Rattle.std.specs.Prelude.{nat_le, slice_index}
use Rattle.om_manager.specs.Outputs.{HeldOutput, held_of, within}
use Rattle.om_manager.specs.State.{ManagerState, held_by, released_by}
use Rattle.om_world.specs.declared.entry.Entry.{Entry}
use Rattle.om_world.specs.World.{WorldState}
use Rattle.om_manager.specs.declared.output_log.Output.{Output}
use Rattle.om_world.proofs.Lists.{length-map}
use Rattle.om_world.specs.Stopped.{AreCurrent, IsLeft, IsWhole}
use Rattle.om_world.specs.Failures.{HasNews}

-- ---- which run is taken up
pub left_chosen : (w v : WorldState) (current : Bool) (run : List Entry) → w ≡ v → (current ≡ true → AreCurrent w) → (current ≡ false → (p : ℕ) × (p < length w.programs) × HasNews w p) → IsWhole v → run ≡ cond current w.live w.since.before → IsLeft v run
left_chosen w v current run e all some whole is = subst (λ (x : WorldState). IsLeft x run) e (by current all some (subst IsWhole (sym e) whole).1 is)
  where
    by : (b : Bool) → (b ≡ true → AreCurrent w) → (b ≡ false → (p : ℕ) × (p < length w.programs) × HasNews w p) → {other : List Entry} → IsLeft w other → run ≡ cond b w.live w.since.before → IsLeft w run
    by true all some left is = IsLeft.current (all refl) is
    by false all some (IsLeft.current none same) is = let news = some refl in absurd (none news.0 news.1 news.2)
    by false all some (IsLeft.between p lt news free same) is = IsLeft.between p lt news free is

-- ---- outputs that are all within
within_one : (x : HeldOutput) (xs : List HeldOutput) (limit : ℕ) (b : Bool) → nat_le x.interval limit ≡ b → within (x ∷ xs) limit ≡ cond b (x ∷ within xs limit) (within xs limit)
within_one x xs limit b is = ap (λ t. cond t (x ∷ within xs limit) (within xs limit)) is

within_long : (xs : List HeldOutput) (limit : ℕ) → length (within xs limit) ≤ length xs
within_long [] limit = omega arith
within_long (x ∷ xs) limit = go (nat_le x.interval limit) refl (within_long xs limit)
  where
    go : (b : Bool) → nat_le x.interval limit ≡ b → length (within xs limit) ≤ length xs → length (within (x ∷ xs) limit) ≤ length (x ∷ xs)
    go true is le = let long = ap length (within_one x xs limit true is) in omega arith
    go false is le = let long = ap length (within_one x xs limit false is) in omega arith

within_whole : (xs : List HeldOutput) (limit : ℕ) → length xs ≤ length (within xs limit) → within xs limit ≡ xs
within_whole [] limit le = refl
within_whole (x ∷ xs) limit le = go (nat_le x.interval limit) refl (within_long xs limit) (λ few. within_whole xs limit few) le
  where
    go : (b : Bool) → nat_le x.interval limit ≡ b → length (within xs limit) ≤ length xs → (length xs ≤ length (within xs limit) → within xs limit ≡ xs) → length (x ∷ xs) ≤ length (within (x ∷ xs) limit) → within (x ∷ xs) limit ≡ x ∷ xs
    go true is most rest all =
        let both : within (x ∷ xs) limit ≡ x ∷ within xs limit = within_one x xs limit true is in
        let long = ap length both in
        let few : length xs ≤ length (within xs limit) = omega arith in
        both ∙ ap (λ l. x ∷ l) (rest few)
    go false is most rest all =
        let both : within (x ∷ xs) limit ≡ within xs limit = within_one x xs limit false is in
        let long = ap length both in
        absurd (omega arith)

-- a manager that was told releases what was released, where it releases as many
pub released_whole : (told : ManagerState) (p : ℕ) (outputs : List HeldOutput) → held_by told p ≡ outputs → length outputs ≤ length (released_by told p) → released_by told p ≡ outputs
released_whole told p outputs held le =
    within_whole (held_by told p) (slice_index told.recovery p) (subst (λ l. length l ≤ length (released_by told p)) (sym held) le) ∙ held

pub as_long : (outputs : List Output) (held : List HeldOutput) → map held_of outputs ≡ held → length outputs ≡ length held
as_long outputs held is = sym (length-map held_of outputs) ∙ ap length is
