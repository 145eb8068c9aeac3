-- The pages of a memory that are kept.
use Rattle.std.proofs.Common.{◌≡◌, ℕ, ◌+◌, ◌<◌, Bool, true, false, cond, List, [], ◌∷◌, ◌++◌, sym, ap, subst, ◌∙◌, arith}
use Rattle.std.specs.Prelude.{map}
use Rattle.std.specs.List.{filter, range_with_len}
use Rattle.std.specs.List.{All}
use Rattle.std.proofs.lemmas.List.Elements.{All-append, All-cons, All-nil, All-weaker}
use Rattle.std.proofs.lemmas.List.{append-nil, map-append}
use Rattle.std.proofs.lemmas.List.FromFn.{filter_of_map_range_with_len_more}
use Rattle.om_pages.specs.Pages.{Page, page_at, is_kept}

-- those among the first pages
abbrev pub kept_before : List ℕ → ℕ → List Page
kept_before memory count = filter (λ page. is_kept page.bytes) (map (page_at memory) (range_with_len 0 count))

-- one page more
pub one_more : (memory : List ℕ) (i : ℕ) → kept_before memory (i + 1) ≡ kept_before memory i ++ cond (is_kept (page_at memory i).bytes) (page_at memory i ∷ []) []
one_more memory i = filter_of_map_range_with_len_more (λ (page : Page). is_kept page.bytes) (page_at memory) 0 i i (omega arith)

pub one_more_kept : (memory : List ℕ) (i : ℕ) → is_kept (page_at memory i).bytes ≡ true → kept_before memory (i + 1) ≡ kept_before memory i ++ page_at memory i ∷ []
one_more_kept memory i h = one_more memory i ∙ ap (λ (b : Bool). kept_before memory i ++ cond b (page_at memory i ∷ []) []) h

pub one_more_zero : (memory : List ℕ) (i : ℕ) → is_kept (page_at memory i).bytes ≡ false → kept_before memory (i + 1) ≡ kept_before memory i
one_more_zero memory i h = one_more memory i ∙ ap (λ (b : Bool). kept_before memory i ++ cond b (page_at memory i ∷ []) []) h ∙ append-nil (kept_before memory i)

-- ---- the indices of kept pages

-- one index more
pub one_index_more : (memory : List ℕ) (i : ℕ) (so_far all : List ℕ) → all ≡ so_far ++ i ∷ [] → map (page_at memory) so_far ≡ kept_before memory i → is_kept (page_at memory i).bytes ≡ true
    → map (page_at memory) all ≡ kept_before memory (i + 1)
one_index_more memory i so_far all put before h =
    ap (map (page_at memory)) put ∙ map-append (page_at memory) so_far (i ∷ [])
    ∙ ap (λ (pages : List Page). pages ++ page_at memory i ∷ []) before ∙ sym (one_more_kept memory i h)

pub all_below_more : (i : ℕ) (so_far : List ℕ) → All (λ k. k < i) so_far → All (λ k. k < i + 1) so_far
all_below_more i so_far before = All-weaker (λ (k : ℕ). k < i) (λ (k : ℕ). k < i + 1) (λ k h. omega arith) so_far before

pub one_index_within : (i : ℕ) (so_far all : List ℕ) → all ≡ so_far ++ i ∷ [] → All (λ k. k < i) so_far → All (λ k. k < i + 1) all
one_index_within i so_far all put before = subst (All (λ (k : ℕ). k < i + 1)) (sym put)
    (All-append (λ (k : ℕ). k < i + 1) so_far (i ∷ []) (all_below_more i so_far before) (All-cons (λ (k : ℕ). k < i + 1) i [] (omega arith) (All-nil (λ (k : ℕ). k < i + 1))))
