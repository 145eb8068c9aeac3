use Rattle.std.proofs.Common.{◌≡◌, ℕ, zero, suc, ◌+◌, ◌*◌, ◌-◌, ◌<◌, ◌≤◌, ◌^◌, List, [], ◌∷◌, ◌++◌, Some, inl, inr, length, slice_get, slice_index_or, sym, ◌∙◌, ap, subst, arith}
use Rattle.std.specs.Prelude.{Vec}
use Rattle.std.specs.Arc.{arc_value}
use Rattle.std.specs.declared.alloc.Global.{Global}
use Rattle.std.specs.declared.sync.Arc.{Arc}
use Rattle.std.proofs.lemmas.Bool.{cases_lt}
use Rattle.std.proofs.lemmas.Option.{slice_get-get_or, slice_get_past}
use Rattle.std.specs.List.{All, flat_map}
use Rattle.std.proofs.lemmas.List.{length-append, length-map, length_push, map-append, append-nil, get_or-map, get_or_append_left, get_or-append-add, append_assoc}
use Rattle.std.proofs.lemmas.Grind.{flat_map-append}
use Rattle.std.proofs.Math.Seq.{get_or-append_seam}
use Rattle.om_interval.specs.steps.Lines.{blocks_in, joined, IsLine}
use Rattle.om_interval.specs.declared.shared_blocks.TheConstants.{BLOCK}

-- all but the first
all_tail : {X : Type 0} (P : X → Type 0) (x : X) (xs : List X) → All P (x ∷ xs) → All P xs
all_tail P x xs all k d low = all (suc k) d (omega (arith, low))

-- so many numbers stand in full blocks
pub length_full : (size : ℕ) (blocks : List (List ℕ)) → All (λ block. length block ≡ size) blocks → length (flat_map (λ block. block) blocks) ≡ length blocks * size
length_full size [] full = let none : zero ≡ zero * size = omega arith in none
length_full size (block ∷ blocks) full =
    let first : length block ≡ size = full 0 [] (omega arith) in
    let rest = length_full size blocks (all_tail (λ (b : List ℕ). length b ≡ size) block blocks full) in
    let more : size + length blocks * size ≡ suc (length blocks) * size = omega arith in
    length-append block (flat_map (λ block. block) blocks) ∙ ap (λ n. n + length (flat_map (λ block. block) blocks)) first ∙ ap (λ n. size + n) rest ∙ more

-- where a number of a full block stands
pub in_block : (size : ℕ) (blocks : List (List ℕ)) (own : List ℕ) (place within : ℕ) → All (λ block. length block ≡ size) blocks → place < length blocks → within < size
    → slice_index_or (flat_map (λ block. block) blocks ++ own) (place * size + within) 0 ≡ slice_index_or (slice_index_or blocks place []) within 0
in_block size [] own place within full there inside = absurd (omega (arith, there))
in_block size (block ∷ blocks) own zero within full there inside =
    let first : length block ≡ size = full 0 [] (omega arith) in
    let here : zero * size + within ≡ within = omega arith in
    ap (λ k. slice_index_or (flat_map (λ block. block) (block ∷ blocks) ++ own) k 0) here
    ∙ ap (λ xs. slice_index_or xs within 0) (append_assoc block (flat_map (λ block. block) blocks) own)
    ∙ get_or_append_left block (flat_map (λ block. block) blocks ++ own) 0 within (omega (arith, first, inside))
in_block size (block ∷ blocks) own (suc place) within full there inside =
    let first : length block ≡ size = full 0 [] (omega arith) in
    let moved : suc place * size + within ≡ length block + (place * size + within) = omega (arith, first) in
    ap (λ xs. slice_index_or xs (suc place * size + within) 0) (append_assoc block (flat_map (λ block. block) blocks) own)
    ∙ ap (λ k. slice_index_or (block ++ (flat_map (λ block. block) blocks ++ own)) k 0) moved
    ∙ get_or-append-add block (flat_map (λ block. block) blocks ++ own) (place * size + within) 0
    ∙ in_block size blocks own place within (all_tail (λ (b : List ℕ). length b ≡ size) block blocks full) (omega (arith, there)) inside

-- how many starts there are
pub counted : (shared : List (Arc (Vec ℕ Global) Global)) (own : List ℕ) → IsLine (blocks_in shared) own → length (joined (blocks_in shared) own) ≡ length shared * BLOCK + length own
counted shared own line =
    length-append (flat_map (λ block. block) (blocks_in shared)) own ∙ ap (λ n. n + length own) (length_full BLOCK (blocks_in shared) line.full)
    ∙ ap (λ n. n * BLOCK + length own) (length-map shared (λ block. (arc_value {X = Vec ℕ Global} block).items))

-- a start of a block that is shared
pub some_at : (shared : List (Arc (Vec ℕ Global) Global)) (own : List ℕ) (place q r : ℕ) (block : Arc (Vec ℕ Global) Global) → IsLine (blocks_in shared) own → place ≡ q * BLOCK + r → r < BLOCK
    → q < length shared → block ≡ slice_index_or shared q block → slice_get (joined (blocks_in shared) own) place ≡ slice_get (arc_value {X = Vec ℕ Global} block).items r
some_at shared own place q r block line place_is within there is =
    let as_many : length (blocks_in shared) ≡ length shared = length-map shared (λ block. (arc_value {X = Vec ℕ Global} block).items) in
    let read : slice_index_or (blocks_in shared) q [] ≡ (arc_value {X = Vec ℕ Global} block).items =
    get_or-map (λ block. (arc_value {X = Vec ℕ Global} block).items) shared q block [] there ∙ ap (λ block. (arc_value {X = Vec ℕ Global} block).items) (sym is) in
    let in_blocks : q < length (blocks_in shared) = omega (arith, there, as_many) in
    let size : length (arc_value {X = Vec ℕ Global} block).items ≡ BLOCK = subst (λ (items : List ℕ). length items ≡ BLOCK) read (line.full q [] in_blocks) in
    let inside : place < length (joined (blocks_in shared) own) = omega (arith, place_is, within, there, counted shared own line) in
    slice_get-get_or (joined (blocks_in shared) own) place 0 inside
    ∙ ap (λ k. Some (slice_index_or (joined (blocks_in shared) own) k 0)) place_is
    ∙ ap Some (in_block BLOCK (blocks_in shared) own q r line.full in_blocks within ∙ ap (λ (items : List ℕ). slice_index_or items r 0) read)
    ∙ sym (slice_get-get_or (arc_value {X = Vec ℕ Global} block).items r 0 (omega (arith, within, size)))

-- a start that is not, or none
pub own_at : (shared : List (Arc (Vec ℕ Global) Global)) (own : List ℕ) (place : ℕ) → IsLine (blocks_in shared) own → length shared * BLOCK ≤ place
    → slice_get (joined (blocks_in shared) own) place ≡ slice_get own (place - length shared * BLOCK)
own_at shared own place line past =
    let many = counted shared own line in
    let before : length (flat_map (λ block. block) (blocks_in shared)) ≡ length shared * BLOCK =
    length_full BLOCK (blocks_in shared) line.full ∙ ap (λ n. n * BLOCK) (length-map shared (λ block. (arc_value {X = Vec ℕ Global} block).items)) in
    let k : ℕ = place - length shared * BLOCK in
    elim (cases_lt k (length own)) [
      | inl within ↦
          let place_is : place ≡ length (flat_map (λ block. block) (blocks_in shared)) + k = omega (arith, before, past) in
          slice_get-get_or (joined (blocks_in shared) own) place 0 (omega (arith, many, within, past))
          ∙ ap (λ i. Some (slice_index_or (joined (blocks_in shared) own) i 0)) place_is
          ∙ ap Some (get_or-append-add (flat_map (λ block. block) (blocks_in shared)) own k 0)
          ∙ sym (slice_get-get_or own k 0 within)
      | inr beyond ↦ slice_get_past (joined (blocks_in shared) own) place (omega (arith, many, beyond, past)) ∙ sym (slice_get_past own k beyond)
    ]

-- starts of which none is shared
pub new_line : (shared : List (Arc (Vec ℕ Global) Global)) (own : List ℕ) → shared ≡ [] → own ≡ 0 ∷ [] → IsLine (blocks_in shared) own × (joined (blocks_in shared) own ≡ 0 ∷ [])
new_line shared own none one =
    let are : joined (blocks_in shared) own ≡ 0 ∷ [] = ap (λ (shared : List (Arc (Vec ℕ Global) Global)). joined (blocks_in shared) own) none ∙ one in (
      record {
        full = λ k d below. let empty : length (blocks_in shared) ≡ 0 = ap (λ (shared : List (Arc (Vec ℕ Global) Global)). length (blocks_in shared)) none in absurd (omega (arith, below, empty));
        room = let single : length own ≡ 1 = ap length one in omega (arith, single);
        numbered = let single : length (joined (blocks_in shared) own) ≡ 1 = ap length are in omega (arith, single);
      },
      are,
    )

-- one block more
pub shared_more : (shared more : List (Arc (Vec ℕ Global) Global)) (block : Arc (Vec ℕ Global) Global) (items : List ℕ) → more ≡ shared ++ block ∷ [] → (arc_value {X = Vec ℕ Global} block).items ≡ items
    → blocks_in more ≡ blocks_in shared ++ items ∷ []
shared_more shared more block items more_is items_are =
    ap blocks_in more_is ∙ map-append (λ block. (arc_value {X = Vec ℕ Global} block).items) shared (block ∷ []) ∙ ap (λ (items : List ℕ). blocks_in shared ++ items ∷ []) items_are

-- full blocks, and one more
pub full_more : (blocks : List (List ℕ)) (block : List ℕ) (size : ℕ) → All (λ block. length block ≡ size) blocks → length block ≡ size → All (λ block. length block ≡ size) (blocks ++ block ∷ [])
full_more blocks block size full is k d below =
    let many : length (blocks ++ block ∷ []) ≡ length blocks + 1 = length_push blocks block in
    elim (cases_lt k (length blocks)) [
      | inl low ↦ subst (λ (b : List ℕ). length b ≡ size) (sym (get_or_append_left blocks (block ∷ []) d k low)) (full k d low)
      | inr high ↦
          let last : length blocks ≡ k = omega (arith, high, below, many) in
          subst (λ k. length (slice_index_or (blocks ++ block ∷ []) k d) ≡ size) last (subst (λ (b : List ℕ). length b ≡ size) (sym (get_or-append_seam blocks block [] d)) is)
    ]

-- what was not shared is the last block
pub shared_line : (blocks more : List (List ℕ)) (own : List ℕ) → IsLine blocks own → length own ≡ BLOCK → more ≡ blocks ++ own ∷ [] → IsLine more [] × (joined more [] ≡ joined blocks own)
shared_line blocks more own line all more_is =
    let same : joined more [] ≡ joined blocks own =
    append-nil (flat_map (λ block. block) more) ∙ ap (flat_map (λ block. block)) more_is ∙ flat_map-append (λ block. block) blocks (own ∷ []) ∙ ap (λ xs. flat_map (λ block. block) blocks ++ xs) (append-nil own) in (
      record {
        full = subst (λ (more : List (List ℕ)). All (λ block. length block ≡ BLOCK) more) (sym more_is) (full_more blocks own BLOCK line.full all);
        room = omega arith;
        numbered = subst (λ n. n ≤ 2 ^ 32) (sym (ap length same)) line.numbered;
      },
      same,
    )

-- one start more
pub longer_line : (blocks : List (List ℕ)) (own more : List ℕ) (start : ℕ) → IsLine blocks own → length own < BLOCK → length (joined blocks own) < 2 ^ 32 → more ≡ own ++ start ∷ []
    → IsLine blocks more × (joined blocks more ≡ joined blocks own ++ start ∷ [])
longer_line blocks own more start line room numbered more_is =
    let longer : joined blocks more ≡ joined blocks own ++ start ∷ [] =
    ap (joined blocks) more_is ∙ sym (append_assoc (flat_map (λ block. block) blocks) own (start ∷ [])) in
    let many : length more ≡ length own + 1 = ap length more_is ∙ length_push own start in
    let all : length (joined blocks more) ≡ length (joined blocks own) + 1 = ap length longer ∙ length_push (joined blocks own) start in
    (record { full = line.full; room = omega (arith, many, room); numbered = omega (arith, all, numbered) }, longer)
