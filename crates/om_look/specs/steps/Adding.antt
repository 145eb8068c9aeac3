-- Ranges to which one more is added.
use Rattle.std.specs.Prelude.{◌≡◌, ◌≢◌, ◌⊎◌, ℕ, ◌<◌, ◌≤◌, List, [], ◌∷◌, ◌++◌}
use Rattle.om_look.specs.declared.spans.Span.{Span}

abbrev pub span : ℕ → ℕ → Span
span first stop = record { first = first; stop = stop }

-- an empty one leaves them; else it is the first one, or it is joined to the last, or it stands apart from that
abbrev pub Adds : List Span → ℕ → ℕ → List Span → Type 0
Adds old first stop new =
    ((stop ≤ first) × (new ≡ old))
    ⊎ (((first < stop) × (old ≡ []) × (new ≡ span first stop ∷ []))
    ⊎ (((first < stop) × (front : List Span) × (last : Span) × (old ≡ front ++ last ∷ []) × (last.stop ≡ first)
    × (new ≡ front ++ span last.first stop ∷ []))
    ⊎ ((first < stop) × (front : List Span) × (last : Span) × (old ≡ front ++ last ∷ []) × (last.stop ≢ first)
    × (new ≡ old ++ span first stop ∷ []))))
