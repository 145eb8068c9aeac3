-- Texts that are keys of a set.
use Rattle.std.proofs.Common.{◌≡◌, ◌≢◌, ℕ, ◌<◌, Bool, false, true≢false, cond, Option, Some, None, List, [], ◌∷◌, ◌++◌, length, map, get_or, position, is_some, sym, ap, subst, ◌∙◌, arith}
use Rattle.std.specs.Prelude.{All, IfSome, slice_get}
use Rattle.std.specs.List.{list_any}
use Rattle.std.specs.Option.{option_map}
use Rattle.std.specs.Str.{bytes_eq}
use Rattle.std.proofs.lemmas.List.{length-map, map-append, get_or-map}
use Rattle.std.proofs.lemmas.List.Folds.{list_any_at, list_any_none}
use Rattle.std.proofs.lemmas.List.Quantifiers.{position-Some}
use Rattle.std.proofs.lemmas.Option.{slice_get-get_or, slice_get-map}
use Rattle.indexmap.specs.IndexSet.{insert_key}
use Rattle.om_explore_command.proofs.TallyLists.{same_texts, texts_differ, texts_same}

module _ {K : Type 0} (bytes : K → List ℕ) where
  abbrev IsText : List ℕ → K → Bool
  IsText text k = bytes_eq text (bytes k)

  -- the place of a key of these bytes
  found_at : (text : List ℕ) (keys : List K) (i : ℕ) (d : K) → position (IsText text) keys ≡ Some i → slice_get (map bytes keys) i ≡ Some text
  found_at text keys i d is =
      let at = position-Some (IsText text) keys i d is in
      slice_get-map bytes keys i
      ∙ ap (option_map bytes) (slice_get-get_or keys i d at.0)
      ∙ ap Some (sym (same_texts text (bytes (get_or keys i d)) at.1))

  pub place_some : (text : List ℕ) (keys : List K) (o : Option ℕ) → o ≡ position (IsText text) keys
      → IfSome o (λ i. slice_get (map bytes keys) i ≡ Some text)
  place_some text keys None is = tt
  place_some text [] (Some i) is = cc
  place_some text (k ∷ ks) (Some i) is = found_at text (k ∷ ks) i k (sym is)

  pub place_none : (text : List ℕ) (keys : List K) (o : Option ℕ) → is_some o ≡ list_any (IsText text) keys → o ≡ None
      → All (λ other. other ≢ text) (map bytes keys)
  place_none text [] o any none k d low same = absurd (omega arith)
  place_none text (x ∷ xs) o any none k d low same =
      let within : k < length (x ∷ xs) = subst (λ n. k < n) (length-map (x ∷ xs) bytes) low in
      let is : text ≡ bytes (get_or (x ∷ xs) k x) = sym same ∙ get_or-map bytes (x ∷ xs) k x d within in
      true≢false
      (sym (list_any_at (IsText text) (x ∷ xs) k x within (texts_same text (bytes (get_or (x ∷ xs) k x)) is)) ∙ sym any ∙ ap is_some none)

  -- a key of new bytes comes last
  pub insert_text : (keys : List K) (key : K) → All (λ other. other ≢ bytes key) (map bytes keys)
      → map bytes (insert_key (λ x y. bytes_eq (bytes x) (bytes y)) keys key) ≡ map bytes keys ++ bytes key ∷ []
  insert_text keys key new =
      let none : list_any (IsText (bytes key)) keys ≡ false = list_any_none (IsText (bytes key)) keys
      (λ k d low.
      texts_differ (bytes key) (bytes (get_or keys k d))
      (λ same. new k (bytes d) (subst (λ n. k < n) (sym (length-map keys bytes)) low) (get_or-map bytes keys k d (bytes d) low ∙ sym same))) in
      ap (λ b. map bytes (cond b keys (keys ++ key ∷ []))) none
      ∙ map-append bytes keys (key ∷ [])
