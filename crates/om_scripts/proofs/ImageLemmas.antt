-- Images of words, and the programs of processes.
use Rattle.std.proofs.Common.{◌≡◌, ℕ, ◌+◌, ◌*◌, ◌<◌, List, [], ◌∷◌, ◌++◌, length, take, Option, Some, Result, Ok, Err, ⊎_elim, arith, ap, refl, sym, subst, ◌∙◌}
use Rattle.std.specs.Prelude.{All, flat_map, map, slice_get, IfOk}
use Rattle.std.specs.Option.{option_map}
use Rattle.std.specs.Int.{to_le_bytes, w32}
use Rattle.std.specs.declared.alloc.AllocError.{AllocError}
use Rattle.std.proofs.lemmas.List.{length-append, map-append, take_more}
use Rattle.std.proofs.lemmas.List.Elements.{All-get_or, All-push}
use Rattle.std.proofs.lemmas.Option.{get_or_from_slice_get, slice_get-map, slice_get_cases}
use Rattle.om_process.specs.Images.{program_of}
use Rattle.om_process.specs.Process.{Program}
use Rattle.om_process.specs.declared.image.Image.{Image}
use Rattle.om_scripts.specs.Programs.{IsProgram}

-- each word has four bytes
pub length-words : (words : List ℕ) → length (flat_map (to_le_bytes w32) words) ≡ 4 * length words
length-words [] = refl
length-words (word ∷ words) =
    let more = length-words words in
    length-append (to_le_bytes w32 word) (flat_map (to_le_bytes w32) words) ∙ ap (λ n. 4 + n) more ∙ omega arith

-- what holds of all holds of one that is found
pub all-found : {X : Type 0} (P : X → Type 0) (xs : List X) (i : ℕ) (x : X) → All P xs → slice_get xs i ≡ Some x → P x
all-found P xs i x all found = ⊎_elim
    (λ some. subst P (get_or_from_slice_get xs i x some.0 found) (All-get_or P xs i some.0 some.1 all))
    (λ past. let none = past.1 in cc)
    (slice_get_cases xs i).1

-- a program that is found is right
pub right-found : (es : List (List ℕ × Image)) (place : ℕ) (name : List ℕ) (image : Image)
    → All {X = List ℕ × Program} (λ e. IsProgram e.1) (map (λ e. (e.0, program_of e.1)) es) → slice_get es place ≡ Some (name, image)
    → IsProgram (program_of image)
right-found es place name image all found =
    all-found (λ e. IsProgram e.1) (map (λ e. (e.0, program_of e.1)) es) place (name, program_of image) all
    (slice_get-map (λ e. (e.0, program_of e.1)) es place ∙ ap (option_map (λ e. (e.0, program_of e.1))) found)

-- a copy of a right one is right
pub right-copy : (r : Result Image AllocError) (program : Program) → IfOk r (λ copy. program_of copy ≡ program) → IsProgram program
    → IfOk r (λ copy. IsProgram (program_of copy))
right-copy (Ok copy) program same right = subst IsProgram (sym same) right
right-copy (Err error) program same right = tt

-- a copy of the one that stands there
pub found-copy : (r : Result Image AllocError) (program : Program) (o : Option Program) → IfOk r (λ copy. program_of copy ≡ program)
    → o ≡ Some program → IfOk r (λ copy. o ≡ Some (program_of copy))
found-copy (Ok copy) program o same there = there ∙ ap Some (sym same)
found-copy (Err error) program o same there = tt

-- one more image, of the next program
pub more-images : (programs : List Program) (images : List Image) (i : ℕ) (image : Image) → i < length programs
    → map program_of images ≡ take i programs → slice_get programs i ≡ Some (program_of image)
    → map program_of (images ++ image ∷ []) ≡ take (i + 1) programs
more-images programs images i image lt before next =
    map-append program_of images (image ∷ [])
    ∙ ap (λ ps. ps ++ program_of image ∷ []) before
    ∙ ap (λ p. take i programs ++ p ∷ []) (sym (get_or_from_slice_get programs i (program_of image) (program_of image) next))
    ∙ sym (take_more programs i (program_of image) lt)

pub more-right : (images : List Image) (image : Image) → All IsProgram (map program_of images) → IsProgram (program_of image)
    → All IsProgram (map program_of (images ++ image ∷ []))
more-right images image before right =
    subst (λ ps. All IsProgram ps) (sym (map-append program_of images (image ∷ [])))
    (All-push IsProgram (map program_of images) (program_of image) before right)
