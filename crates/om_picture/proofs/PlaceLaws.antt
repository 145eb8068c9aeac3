-- Of two events the later one stands further right.
use Rattle.std.proofs.Common.{◌≡◌, ◌<◌, ◌≤◌, ℕ, true, List, [], ◌∷◌, ◌++◌, length, max, sym, subst, arith, append_assoc}
use Rattle.std.proofs.lemmas.List.{append-nil}
use Rattle.om_picture.specs.Fates.{EventRow}
use Rattle.om_picture.specs.Places.{ArePlaced, IsPlacedBehind, has_column, rightmost}
use Rattle.om_picture.specs.declared.column.TheConstants.{MOST_COLUMNS}

-- where one of these events stands
placed_at : (n first : ℕ) (acc before later : List EventRow) (row : EventRow) → ArePlaced n first acc (before ++ row ∷ later)
    → IsPlacedBehind n first (acc ++ before) row
placed_at n first acc [] later row placed =
    subst (λ (l : List EventRow). IsPlacedBehind n first l row) (sym (append-nil acc)) placed.0
placed_at n first acc (r ∷ before) later row placed =
    subst (λ (l : List EventRow). IsPlacedBehind n first l row) (append_assoc acc (r ∷ []) before)
    (placed_at n first (acc ++ r ∷ []) before later row placed.1)

within_rightmost : (before between : List EventRow) (row : EventRow) → row.entry.at.x ≤ rightmost (before ++ row ∷ between)
within_rightmost [] between row = first_within row.entry.at.x (rightmost between)
  where
    first_within : (x y : ℕ) → x ≤ max x y
    first_within x y = omega arith
within_rightmost (r ∷ before) between row =
    rest_within row.entry.at.x r.entry.at.x (rightmost (before ++ row ∷ between)) (within_rightmost before between row)
  where
    rest_within : (x y z : ℕ) → x ≤ z → x ≤ max y z
    rest_within x y z h = omega arith

pub later_right : (n first : ℕ) (before between later : List EventRow) (one other : EventRow)
    → ArePlaced n first [] ((before ++ one ∷ between) ++ other ∷ later) → length (before ++ one ∷ between) < MOST_COLUMNS
    → has_column n first (before ++ one ∷ between) other ≡ true → one.entry.at.x < other.entry.at.x
later_right n first before between later one other placed few has =
    let behind = placed_at n first [] (before ++ one ∷ between) later other placed in
    let less : rightmost (before ++ one ∷ between) < other.entry.at.x = behind.column few has in
    let within = within_rightmost before between one in
    omega arith
