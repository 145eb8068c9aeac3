use Rattle.std.proofs.Common.{◌≡◌, ℕ, ◌+◌, ◌<◌, List, [], ◌∷◌, ◌++◌, Bool, cond, length, slice_index, ◌∙◌, ap, subst, arith, below_more}
use Rattle.std.proofs.Math.Seq.{get_or-append_seam}
use Rattle.std.proofs.lemmas.List.{get_or_append_left, length_push}
use Rattle.om_interval.specs.Starts.{starts_of, BeginIncarnations}
use Rattle.om_interval.specs.steps.Lines.{next_starts}

-- the starts of the first processes, as they are to be
pub record BegunTo (who : List Bool) (state : List ℕ) (old new : List (List ℕ)) (count : ℕ) : Type 0 where
  pub many : length new ≡ count
  pub each : (p : ℕ) → p < count → starts_of new p ≡ next_starts who state old p

pub begun_none : (who : List Bool) (state : List ℕ) (old new : List (List ℕ)) → new ≡ [] → BegunTo who state old new 0
begun_none who state old new none = record { many = ap length none; each = λ p below. absurd (omega (arith, below)) }

pub begun_more : (who : List Bool) (state : List ℕ) (old new : List (List ℕ)) (count : ℕ) (starts : List ℕ) → starts ≡ next_starts who state old count
    → BegunTo who state old new count → BegunTo who state old (new ++ starts ∷ []) (count + 1)
begun_more who state old new count starts is begun = record {
  many = length_push new starts ∙ ap (λ n. n + 1) begun.many;
  each = below_more (λ p. starts_of (new ++ starts ∷ []) p ≡ next_starts who state old p) count
      (λ p low. get_or_append_left new (starts ∷ []) [] p (omega (arith, low, begun.many)) ∙ begun.each p low)
      (subst (λ p. starts_of (new ++ starts ∷ []) p ≡ starts) begun.many (get_or-append_seam new starts [] []) ∙ is);
}

pub begun_all : (who : List Bool) (state : List ℕ) (old new : List (List ℕ)) → BegunTo who state old new (length old) → BeginIncarnations who state old new
begun_all who state old new begun = record {
  processes = begun.many;
  named = λ p there named. begun.each p there ∙ ap (λ b. cond b (starts_of old p ++ (slice_index state p + 1) ∷ []) (starts_of old p)) named;
  others = λ p there unnamed. begun.each p there ∙ ap (λ b. cond b (starts_of old p ++ (slice_index state p + 1) ∷ []) (starts_of old p)) unnamed;
}
