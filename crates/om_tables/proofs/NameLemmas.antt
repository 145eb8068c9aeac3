-- Two tables, by their places.
use Rattle.std.proofs.Common.{◌≡◌, ℕ, ◌<◌, ◌≤◌, List, [], ◌∷◌, length, map, get_or, sym, ap, ap₂, ◌∙◌, arith}
use Rattle.sqlite.specs.Table.{Table}

pub two_of : (tables : List Table) (a b : Table) → 2 ≤ length tables → length tables < 3 → a ≡ get_or tables 0 a → b ≡ get_or tables 1 b → tables ≡ a ∷ b ∷ []
two_of [] a b least most p q = absurd (omega arith)
two_of (x ∷ []) a b least most p q = absurd (omega arith)
two_of (x ∷ y ∷ []) a b least most p q = ap₂ (λ (s t : Table). s ∷ t ∷ []) (sym p) (sym q)
two_of (x ∷ y ∷ z ∷ more) a b least most p q = absurd (omega arith)

second_of : (a b r s : List ℕ) → ◌≡◌ {A = List (List ℕ)} (a ∷ b ∷ []) (r ∷ s ∷ []) → b ≡ s
second_of a b r s h = cc

-- the names of two tables, of which the first is known
pub both_named : (tables : List Table) (a b : Table) (r s : List ℕ) {P : Type 0} → tables ≡ a ∷ b ∷ [] → a.name ≡ r → (P → b.name ≡ s) → (b.name ≡ s → P)
    → (P → map (λ (t : Table). t.name) tables ≡ r ∷ s ∷ []) × (map (λ (t : Table). t.name) tables ≡ r ∷ s ∷ [] → P)
both_named tables a b r s two first to from =
    let are : map (λ (t : Table). t.name) tables ≡ a.name ∷ b.name ∷ [] = ap (map (λ (t : Table). t.name)) two in
    (λ p. are ∙ ap₂ (λ (x y : List ℕ). x ∷ y ∷ []) first (to p), λ h. from (second_of a.name b.name r s (sym are ∙ h)))
