-- Each step keeps the rule of a frontier's cell.
use Rattle.std.proofs.Common.{◌≡◌, ◌≢◌, ◌⊎◌, ℕ, zero, suc, ◌+◌, ◌<◌, ◌≤◌, List, [], ◌∷◌, ◌++◌, length, get_or, set, true, false, true≢false, refl, sym, ap, ◌∙◌, subst, ⊎_elim, inl, inr, arith, append_assoc, append-nil, All, AllPairs, replicate, slice_index}
use mathlib.Core.Option.{some, some-ne-none, some-injective}
use mathlib.Core.List.{IsPrefix}
use lib.ListN.{get_elem?}
use Rattle.std.proofs.lemmas.List.{get_or_push, length_push}
use Rattle.std.proofs.lemmas.Bool.{cases_lt}
use Rattle.std.proofs.lemmas.Grind.{common_steps}
use Rattle.std.proofs.lemmas.List.Elements.{All-push}
use Rattle.std.proofs.lemmas.List.Quantifiers.{all_pairs_push}
use Rattle.crossbeam_utils.specs.Register.{Turns, Forks, Merges}
use Rattle.atomic_table.proofs.Lists.{at_set, at_snoc, set_again}
use Rattle.om_interval.proofs.VectorLemmas.{below_through}
use Rattle.om_board.specs.declared.cell.View.{View}
use Rattle.om_board.specs.steps.Posting.{AreWords, Grows, IsLog, IsLastOf, writer, reader, zero_words, FitsLog, Kept, Loads, Stores, Meets, opened, shown_to}

-- lists of words

whole_prefix : (log : List (List ℕ)) → IsPrefix log log
whole_prefix log = ([], append-nil log)

no_prefix : (log : List (List ℕ)) → IsPrefix [] log
no_prefix log = (log, refl)

longer_prefix : (seen log more : List (List ℕ)) → IsPrefix seen log → IsPrefix seen (log ++ more)
longer_prefix seen log more s = (s.0 ++ more, sym (append_assoc seen s.0 more) ∙ ap (λ l. l ++ more) s.1)

pub grows_through : (a b c : List ℕ) → Grows a b → Grows b c → Grows a c
grows_through a b c low high = record {
  version = omega (arith, low.version, high.version);
  below = below_through a b c low.below high.below;
}

pub early_or_last : (i n : ℕ) → i < n + 1 → (i < n) ⊎ (i ≡ n)
early_or_last i n below = ⊎_elim (λ (early : i < n). inl early) (λ (past : n ≤ i). inr (omega arith)) (cases_lt i n)

-- what grows above the last grows above all
above_all : (before : List (List ℕ)) (last new : List ℕ) → AllPairs Grows (before ++ last ∷ []) → Grows last new
    → (k : ℕ) (d : List ℕ) → k < length (before ++ last ∷ []) → Grows (get_or (before ++ last ∷ []) k d) new
above_all before last new rising grows k d within =
    let long : length (before ++ last ∷ []) ≡ length before + 1 = length_push before last in
    let at_end : get_or (before ++ last ∷ []) (length before) d ≡ last = get_or_push before last d (length before) refl in
    ⊎_elim
    (λ (early : k < length before).
    let pair = rising k (length before) d early (omega (arith, long)) in
    grows_through _ last new (subst (λ x. Grows (get_or (before ++ last ∷ []) k d) x) at_end pair) grows)
    (λ (here : k ≡ length before). subst (λ (i : ℕ). Grows (get_or (before ++ last ∷ []) i d) new) (sym here) (subst (λ x. Grows x new) (sym at_end) grows))
    (early_or_last k (length before) (omega (arith, within, long)))

pub log_grows : (log : List (List ℕ)) (last new : List ℕ) → IsLastOf log last → IsLog log → AreWords new → Grows last new → IsLog (log ++ new ∷ [])
log_grows log last new ends is words grows = subst (λ l. IsLog (l ++ new ∷ [])) ends.1 (record {
  rising = all_pairs_push Grows (ends.0 ++ last ∷ []) new rising (above_all ends.0 last new rising grows);
  words = All-push AreWords (ends.0 ++ last ∷ []) new (subst (All AreWords) (sym ends.1) is.words) words;
})
  where
    rising : AllPairs Grows (ends.0 ++ last ∷ [])
    rising = subst (AllPairs Grows) (sym ends.1) is.rising

pub one_log : (words : List ℕ) → AreWords words → IsLog (words ∷ [])
one_log words are = record {
  rising = λ i j d below within. absurd (omega arith);
  words = All-push AreWords [] words (λ k d within. absurd (omega arith)) are;
}

-- views

fits_set : (seat : ℕ) (log : List (List ℕ)) (views : List View) (by : ℕ) (w : View)
    → ((j : ℕ) (u : View) → j ≢ by → get_elem? views j ≡ some u → FitsLog seat log j u)
    → FitsLog seat log by w
    → (j : ℕ) (u : View) → get_elem? (set views by w) j ≡ some u → FitsLog seat log j u
fits_set seat log views by w others mine j u e =
    ⊎_elim
    (λ (x : (j ≡ by) × (w ≡ u)). subst (λ (y : ℕ × View). FitsLog seat log y.0 y.1) (λ i. (sym x.0 i, x.1 i)) mine)
    (λ (x : (j ≢ by) × (get_elem? views j ≡ some u)). others j u x.0 x.1)
    (at_set views by j w u e)

off : false ≡ true → ⊥
off e = true≢false (sym e)

pub zeros_are_words : AreWords zero_words
zeros_are_words = record { whole = refl; fit = λ place some. all_zero place }
  where
    all_zero : (place : ℕ) → slice_index (replicate 18 0) place < 4294967296
    all_zero place = grind (arith, common_steps)

-- the zeros are the words of the first front
pub begins : Kept zero_words (writer (zero_words ∷ []) ∷ [])
begins = (0, zero_words ∷ [], ([], refl), one_log zero_words zeros_are_words, one)
  where
    one : (by : ℕ) (v : View) → get_elem? (writer (zero_words ∷ []) ∷ []) by ≡ some v → FitsLog 0 (zero_words ∷ []) by v
    one zero v e = subst (FitsLog 0 (zero_words ∷ []) 0) (some-injective _ _ e) ((λ _. (refl, refl)), whole_prefix (zero_words ∷ []), no_prefix (zero_words ∷ []))
    one (suc by) v e = absurd (some-ne-none v (sym e))

pub loads : (by : ℕ) (v : View) → v.writes ≡ false → Turns Kept by v (λ x. x) Loads
loads by v reads words views h at =
    let mine = h.4 by v at in
    let w : View = record { writes = v.writes; seen = h.1; shown = v.shown } in (
      w,
      (h.0, h.1, h.2, h.3, fits_set h.0 h.1 views by w (λ j u _ e. h.4 j u e) ((λ k. absurd (off (sym reads ∙ k))), whole_prefix h.1, mine.2)),
      (refl, mine.1, h.2, h.3),
    )

pub stores : (by : ℕ) (log : List (List ℕ)) (last new : List ℕ) → IsLastOf log last → IsLog log → AreWords new → Grows last new → Turns Kept by (writer log) (λ _. new) Stores
stores by log last new ends is_log are grows words views h at =
    let mine = (h.4 by (writer log) at) in
    let mine_is = mine.0 refl in
    let now = log ++ new ∷ [] in
    let w = writer now in
    let p : IsLog now = log_grows log last new ends is_log are grows in (
      w,
      (
        h.0,
        now,
        (log, refl),
        p,
        fits_set h.0 now views by w
            (λ j u apart e. (
              (λ k. absurd (apart (((h.4 j u e).0 k).0 ∙ sym mine_is.0))),
              longer_prefix u.seen log (new ∷ []) (subst (IsPrefix u.seen) (sym mine_is.1) (h.4 j u e).1),
              longer_prefix u.shown log (new ∷ []) (subst (IsPrefix u.shown) (sym mine_is.1) (h.4 j u e).2),
            ))
            ((λ _. (mine_is.0, refl)), whole_prefix now, no_prefix now),
      ),
      (refl, p),
    )

-- the writer's store, at a view that is known
pub stores_as : (by : ℕ) (v : View) (last new : List ℕ) → v ≡ writer v.seen → IsLastOf v.seen last → IsLog v.seen → AreWords new → Grows last new → Turns Kept by v (λ _. new) Stores
stores_as by v last new is ends log are grows = subst (λ (u : View). Turns Kept by u (λ _. new) Stores) (sym is) (stores by v.seen last new ends log are grows)

pub meets : (by : ℕ) (v : View) → v.writes ≡ true → Turns Kept by v (λ x. x) Meets
meets by v writes words views h at =
    let mine = h.4 by v at in
    let known = mine.0 writes in
    let w = writer v.seen in (
      w,
      (h.0, h.1, h.2, h.3, fits_set h.0 h.1 views by w (λ j u _ e. h.4 j u e) ((λ _. known), mine.1, no_prefix h.1)),
      (refl, subst (IsPrefix v.shown) (sym known.1) mine.2),
    )

forks : (by : ℕ) (v right : View) → ((seat : ℕ) (log : List (List ℕ)) (j : ℕ) → FitsLog seat log by v → FitsLog seat log j right) → Forks Kept by v v right
forks by v right new words views h at = (
  h.0,
  h.1,
  h.2,
  h.3,
  λ j u e. ⊎_elim
      (λ was. h.4 j u (subst (λ l. get_elem? l j ≡ some u) (set_again views by v at) was))
      (λ (same : right ≡ u). subst (FitsLog h.0 h.1 j) same (new h.0 h.1 j (h.4 by v at)))
      (at_snoc (set views by v) right u j e),
)

-- a copy of a reader's pass
pub twins : (by : ℕ) (v : View) → v.writes ≡ false → Forks Kept by v v v
twins by v reads = forks by v v (λ seat log j f. ((λ k. absurd (off (sym reads ∙ k))), f.1, f.2))

-- a reader's pass of the writer's
pub opens : (by : ℕ) (v : View) → Forks Kept by v v (opened v)
opens by v = forks by v (opened v) (λ seat log j f. ((λ k. absurd (off k)), f.1, no_prefix log))

-- a reader's pass, joined into the writer's
pub shows : (by : ℕ) (v : View) (other : ℕ) (u : View) → Merges Kept by v other u (shown_to v u) (reader [])
shows by v other u words views h at apart there =
    let w = shown_to v u in
    let mine = h.4 by v at in
    let theirs = ⊎_elim (λ (t : (other ≡ by) × (w ≡ u)). absurd (apart t.0)) (λ (t : (other ≢ by) × (get_elem? views other ≡ some u)). h.4 other u t.1) (at_set views by other w u there) in (
      h.0,
      h.1,
      h.2,
      h.3,
      fits_set h.0 h.1 (set views by w) other (reader [])
          (λ j v _ e. fits_set h.0 h.1 views by w (λ i y _ e'. h.4 i y e') (mine.0, mine.1, theirs.1) j v e)
          ((λ k. absurd (off k)), no_prefix h.1, no_prefix h.1),
    )
