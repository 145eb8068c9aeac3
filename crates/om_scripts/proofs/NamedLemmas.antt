use Rattle.std.proofs.Common.{◌≡◌, ℕ, ◌+◌, Bool, false, true≢false, not, cond, nat_lt, List, [], ◌∷◌, ◌++◌, map, length, position, Option, Some, None, is_some, refl, ap, sym, ◌∙◌}
use Rattle.std.proofs.lemmas.List.{length-map, map-append}
use Rattle.std.specs.List.{prefix_len}
use Rattle.std.specs.Map.{keys_of}
use Rattle.std.proofs.lemmas.Map.Made.{keys_of-map_values}
use Rattle.std.specs.Str.{bytes_eq}
use Rattle.indexmap.specs.IndexMap.{IndexMap, get, insert_entry}
use Rattle.indexmap.proofs.MapLemmas.{some_index}
use Rattle.indexmap.proofs.CallerLemmas.{insert_entry-new}
use Rattle.om_scripts.specs.Named.{place_of}

prefix-map : {X Y : Type 0} (test : Y → Bool) (f : X → Y) (xs : List X)
    → prefix_len test (map f xs) ≡ prefix_len (λ x. test (f x)) xs
prefix-map test f [] = refl
prefix-map test f (x ∷ xs) = ap (λ rest. cond (test (f x)) (1 + rest) 0) (prefix-map test f xs)

-- the first of the mapped items that passes is the first whose image passes
pub position-map : {X Y : Type 0} (test : Y → Bool) (f : X → Y) (xs : List X)
    → position test (map f xs) ≡ position (λ x. test (f x)) xs
position-map test f xs =
    ap (λ first. cond (nat_lt first (length (map f xs))) (Some first) None) (prefix-map (λ y. not (test y)) f xs)
    ∙ ap (λ len. cond (nat_lt (prefix_len (λ x. not (test (f x))) xs) len) (Some (prefix_len (λ x. not (test (f x))) xs)) None)
    (length-map xs f)

-- the key of a name stands at the name's place
pub place_key : {K V : Type 0} (bytes : K → List ℕ) (name : List ℕ) (es : List (K × V))
    → position (λ key. bytes_eq name (bytes key)) (keys_of es) ≡ place_of name (map (λ e. (bytes e.0, e.1)) es)
place_key bytes name es =
    position-map (λ key. bytes_eq name (bytes key)) (λ e. e.0) es
    ∙ sym (position-map (λ other. bytes_eq name other) (λ e. e.0) (map (λ e. (bytes e.0, e.1)) es)
    ∙ position-map (λ e. bytes_eq name e.0) (λ e. (bytes e.0, e.1)) es)

-- other values leave the places
pub place_values : {V W : Type 0} (other : V → W) (name : List ℕ) (named : List (List ℕ × V))
    → place_of name (map (λ e. (e.0, other e.1)) named) ≡ place_of name named
place_values other name named = ap (position (λ key. bytes_eq name key)) (keys_of-map_values other named)

none_since : {X : Type 0} (o : Option X) → is_some o ≡ false → o ≡ None
none_since None none = refl
none_since (Some x) none = absurd (true≢false none)

abbrev as_named : {K V : Type 0} → (K → List ℕ) → K × V → List ℕ × V
as_named bytes e = (bytes e.0, e.1)

-- a value by a new name comes last
pub insert_named : {K V S : Type 0} (bytes : K → List ℕ) (m : IndexMap K V S) (key : K) (value : V)
    → place_of (bytes key) (map (as_named bytes) m.entries) ≡ None
    → map (as_named bytes) (insert_entry (λ x y. bytes_eq (bytes x) (bytes y)) m.entries key value)
    ≡ map (as_named bytes) m.entries ++ (bytes key, value) ∷ []
insert_named {K} bytes m key value none =
    let same : K → K → Bool = λ x y. bytes_eq (bytes x) (bytes y) in
    let absent = none_since (get same m key)
    (sym (some_index (same key) m.entries) ∙ ap is_some (place_key bytes (bytes key) m.entries ∙ none)) in
    ap (map (as_named bytes)) (insert_entry-new same m key value absent)
    ∙ map-append (as_named bytes) m.entries ((key, value) ∷ [])
