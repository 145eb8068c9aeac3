-- The line of an image, whole.
use Rattle.std.proofs.Common.{◌≡◌, ℕ, zero, suc, ◌+◌, ◌-◌, ◌*◌, ◌<◌, ◌≤◌, ◌^◌, Bool, true, false, true≢false, ◌&&◌, List, [], ◌∷◌, ◌++◌, length, map, take, drop, All, Result, Ok, Err, refl, sym, ap, ◌∙◌, subst, arith, Option, None, Some, nat_lt, codes, length-append, replicate}
use Rattle.std.specs.Prelude.{flat_map, slice_range, min, IfSome, OnOk}
use Rattle.std.specs.Io.KnownBytes.{Appends}
use Rattle.std.specs.Option.{option_map}
use Rattle.std.specs.Int.{to_le_bytes, w32}
use Rattle.std.specs.List.{list_all}
use Rattle.std.specs.Str.Lines.{lines}
use Rattle.std.proofs.lemmas.Bool.Decides.{nat_tests}
use Rattle.std.proofs.lemmas.Grind.{flat_map-append}
use Rattle.std.proofs.lemmas.List.{take_all, length-replicate, length-take}
use Rattle.std.proofs.lemmas.List.Elements.{All-cons, All-nil}
use Rattle.om_isa.specs.declared.ext.Ext.{Ext}
use Rattle.om_isa.specs.declared.ext.Ext.TheVariants.{I, Im}
use Rattle.om_isa.specs.Memory.{is_memory_size}
use Rattle.om_isa.specs.declared.memory.TheConstants.{MAX_MEMORY}
use Rattle.om_text.specs.Reading.{Gives, all_read}
use Rattle.om_text.specs.Words.{words_of}
use Rattle.om_text.specs.declared.error.BuildError.{BuildError}
use Rattle.om_text.specs.declared.error.BuildError.TheVariants as building
use Rattle.om_text.specs.declared.error.LineError.{LineError}
use Rattle.om_scripts.specs.Programs.{Cluster, no_programs, program_in, program_line}
use Rattle.om_scripts.proofs.ImageLemmas.{length-words}
use Rattle.om_image.specs.Image.{IsElf, IsErrorOf, IsImageLine, IsRefused, keyword, most_read}
use Rattle.om_look.specs.Trace.{word_text}
use Rattle.om_image.specs.declared.error.ImageError.{ImageError}
use Rattle.om_image.specs.declared.error.ImageError.TheVariants as errors
use Rattle.om_image.specs.steps.Lines.{IsErrorOfLine, IsTaken, spaced}
use Rattle.om_image.specs.steps.Padded.{AreWholeWordsOf, AreWordsOf, IsWholePadded}
use Rattle.om_image.proofs.Digits.{above_of_bytes, bytes_are_small, text_some, words_read_back}
use Rattle.om_image.proofs.Lines.{IsPlain, all_above, one_line, words_of_line}
use Rattle.om_image.proofs.Programs.{IsRead, plain_name, plain_number, read_says}
use Rattle.om_text.specs.Numbers.{hex_word}
use Rattle.om_text.specs.declared.error.LineError.TheVariants.{BadWord}

-- ---- bytes
pub words_of_padded : (bytes padded words : List ℕ) → IsWholePadded bytes padded → AreWholeWordsOf padded words → AreWordsOf bytes words
words_of_padded bytes padded words pad whole = (
  pad.zeros,
  pad.few,
  whole ∙ ap (λ n. take n padded) pad.whole ∙ take_all (length padded) padded (omega arith) ∙ pad.is,
)

pub taken : (ext : Ext) (start : Cluster) (words other : List (List ℕ)) (r : Result (Unit {0}) (BuildError LineError)) (new : Cluster) → start ≡ no_programs → words ≡ other → Gives (λ _. new) r (program_line ext start words) → IsTaken ext other r
taken ext start words other (Ok done) new first same g = (new, ap (program_line ext no_programs) (sym same) ∙ ap (λ s. program_line ext s words) (sym first) ∙ g)
taken ext start words other (Err (building.Invalid error)) new first same g = ap (program_line ext no_programs) (sym same) ∙ ap (λ s. program_line ext s words) (sym first) ∙ g
taken ext start words other (Err building.Memory) new first same g = tt

-- ---- words are plain
both : (x y : Bool) → x && y ≡ true → (x ≡ true) × (y ≡ true)
both true y h = (refl, h)
both false y h = absurd (true≢false (sym h))

above_by : (word : List ℕ) → list_all (λ c. nat_lt 32 c) word ≡ true → All (λ c. 32 < c) word
above_by [] all = All-nil (λ c. 32 < c)
above_by (b ∷ bs) all =
    let two = both (nat_lt 32 b) (list_all (λ c. nat_lt 32 c) bs) all in
    let above : 32 < b = is_above b two.0 in
    All-cons (λ c. 32 < c) b bs above (above_by bs two.1)
  where
    is_above : (b : ℕ) → nat_lt 32 b ≡ true → 32 < b
    is_above b h = grind (arith, nat_tests)

plain_keyword : (ext : Ext) → IsPlain (keyword ext)
plain_keyword I = let is : length (codes "program") ≡ 7 = refl in record { some = omega (arith, is); above = above_by (codes "program") refl }
plain_keyword Im = let is : length (codes "program-m") ≡ 9 = refl in record { some = omega (arith, is); above = above_by (codes "program-m") refl }

plain_texts : (words : List ℕ) → All IsPlain (map word_text words)
plain_texts [] = All-nil IsPlain
plain_texts (word ∷ words) =
    All-cons IsPlain (word_text word) (map word_text words) (record { some = text_some word; above = above_of_bytes _ (bytes_are_small word) }) (plain_texts words)

-- ---- the line
pub image_line : (ext : Ext) (name size bytes words : List ℕ) (texts : List (List ℕ)) (text : List ℕ) → AreWordsOf bytes words → All (λ word. word < 2 ^ 32) words → texts ≡ map word_text words
    → (read : (cluster : Cluster) × (program_line ext no_programs (name ∷ size ∷ texts) ≡ Ok cluster)) → text ≡ (keyword ext ++ spaced (name ∷ size ∷ texts)) ++ 10 ∷ [] → IsImageLine ext name size bytes text
image_line ext name size bytes words texts text are small same read is =
    let back : all_read hex_word BadWord texts ≡ Ok words = ap (all_read hex_word BadWord) same ∙ words_read_back words small in
    let says : IsRead ext name size words read.0 = read_says ext name size texts words read.0 back read.1 in
    let line : List ℕ = keyword ext ++ spaced (name ∷ size ∷ texts) in
    let first : IsPlain (keyword ext) = plain_keyword ext in
    let rest : All IsPlain (name ∷ size ∷ texts) = All-cons IsPlain name (size ∷ texts) (plain_name name says.named) (All-cons IsPlain size texts (plain_number size says.number says.is_number) (subst (All IsPlain) (sym same) (plain_texts words))) in
    record {
      words = texts;
      is_line = ap (map words_of) (ap lines is ∙ one_line line (all_above (keyword ext) (name ∷ size ∷ texts) first rest))
          ∙ ap (λ words. words ∷ []) (words_of_line (keyword ext) (name ∷ size ∷ texts) first rest);
      program = program_in ext says.number words;
      read = read.1 ∙ ap Ok says.cluster_is;
      is_size = says.is_number;
      is_ext = refl;
      is_image = are;
    }

-- the bytes are no more than a memory may have
pub image_short : (ext : Ext) (name size bytes words : List ℕ) (texts : List (List ℕ)) → AreWordsOf bytes words → All (λ word. word < 2 ^ 32) words → texts ≡ map word_text words
    → (read : (cluster : Cluster) × (program_line ext no_programs (name ∷ size ∷ texts) ≡ Ok cluster)) → length bytes ≤ MAX_MEMORY
image_short ext name size bytes words texts are small same read =
    let says : IsRead ext name size words read.0 = read_says ext name size texts words read.0 (ap (all_read hex_word BadWord) same ∙ words_read_back words small) read.1 in
    let many : length bytes + are.0 ≡ 4 * length words = ap (λ n. length bytes + n) (sym (length-replicate are.0 0)) ∙ sym (length-append bytes (replicate are.0 0)) ∙ ap length (sym are.2) ∙ length-words words in
    let fits : 4 * length words ≤ says.number = at_most says.number (4 * length words) says.fits in
    let most : says.number ≤ MAX_MEMORY = lawful says.number says.sized in
    omega (arith, many, fits, most)
  where
    at_most : (n m : ℕ) → nat_lt n m ≡ false → m ≤ n
    at_most n m h = grind (arith, nat_tests)

    lawful : (n : ℕ) → is_memory_size n ≡ true → n ≤ MAX_MEMORY
    lawful n h = grind (arith, nat_tests)

-- what was read is all
pub read_whole : (bytes all : List ℕ) → bytes ≡ take most_read all → length bytes ≤ MAX_MEMORY → bytes ≡ all
read_whole bytes all is short = is ∙ take_all most_read all (least (length all) (subst (λ n. n ≤ MAX_MEMORY) (ap length is ∙ length-take most_read all) short))
  where
    least : (m : ℕ) → min most_read m ≤ MAX_MEMORY → m ≤ most_read
    least m h = omega (arith, h)

-- ---- one word more
nothing : (k : ℕ) → take {A = ℕ} k [] ≡ []
nothing zero = refl
nothing (suc k) = refl

take_then : (xs : List ℕ) (n m : ℕ) → take (n + m) xs ≡ take n xs ++ take m (drop n xs)
take_then xs zero m = ap (λ k. take k xs) (plain m)
  where
    plain : (m : ℕ) → 0 + m ≡ m
    plain m = omega arith
take_then [] (suc n) m = nothing (suc n + m) ∙ sym (nothing m)
take_then (x ∷ xs) (suc n) m = ap (λ k. take k (x ∷ xs)) (moved n m) ∙ ap (λ l. x ∷ l) (take_then xs n m)
  where
    moved : (n m : ℕ) → suc n + m ≡ suc (n + m)
    moved n m = omega arith

pub words_more : (words bytes : List ℕ) (i word : ℕ) → flat_map (to_le_bytes w32) words ≡ take (i * 4) bytes → to_le_bytes w32 word ≡ slice_range bytes (4 * i) (4 * i + 4) → flat_map (to_le_bytes w32) (words ++ word ∷ []) ≡ take ((i + 1) * 4) bytes
words_more words bytes i word before is =
    let four : (4 * i + 4) - 4 * i ≡ 4 = omega arith in
    let here : slice_range bytes (4 * i) (4 * i + 4) ≡ take 4 (drop (i * 4) bytes) = ap (λ k. take k (drop (4 * i) bytes)) four ∙ ap (λ k. take 4 (drop k bytes)) (turn i) in
    flat_map-append (to_le_bytes w32) words (word ∷ [])
    ∙ ap (λ l. l ++ flat_map (to_le_bytes w32) (word ∷ [])) before
    ∙ ap (λ l. take (i * 4) bytes ++ l) (single word ∙ is ∙ here)
    ∙ sym (take_then bytes (i * 4) 4) ∙ ap (λ k. take k bytes) (more i)
  where
    turn : (i : ℕ) → 4 * i ≡ i * 4
    turn i = omega arith

    more : (i : ℕ) → i * 4 + 4 ≡ (i + 1) * 4
    more i = omega arith

    single : (word : ℕ) → flat_map (to_le_bytes w32) (word ∷ []) ≡ to_le_bytes w32 word
    single word = refl

-- ---- the command
pub read_part : (o : Option (List ℕ)) (P : List ℕ → Type 0) → IfSome (option_map (take most_read) o) P → IfSome o (λ bytes. P (take most_read bytes))
read_part None P h = tt
read_part (Some bytes) P h = h

error_of : (ext : Ext) (name size items bytes : List ℕ) (error : ImageError) → items ≡ take most_read bytes → IsErrorOfLine ext name size items error → IsErrorOf ext name size bytes error
error_of ext name size items bytes (errors.Line error) same h = subst (λ b. IsRefused ext name size b error) same h
error_of ext name size items bytes errors.Elf same h = subst (λ b. IsElf b) same h
error_of ext name size items bytes errors.NoMemory same h = tt
error_of ext name size items bytes errors.CannotRead same h = tt
error_of ext name size items bytes errors.CannotWrite same h = tt

pub refused_line : (ext : Ext) (name size items : List ℕ) (error : ImageError) (o : Option (List ℕ)) → IfSome o (λ bytes. items ≡ take most_read bytes) → IsErrorOfLine ext name size items error
    → IfSome o (λ bytes. IsErrorOf ext name size bytes error)
refused_line ext name size items error None same h = tt
refused_line ext name size items error (Some bytes) same h = error_of ext name size items bytes error same h

pub line_of_all : (ext : Ext) (name size items text : List ℕ) (o : Option (List ℕ)) → IfSome o (λ bytes. items ≡ take most_read bytes) → length items ≤ MAX_MEMORY → IsImageLine ext name size items text
    → IfSome o (λ bytes. IsImageLine ext name size bytes text)
line_of_all ext name size items text None same short h = tt
line_of_all ext name size items text (Some bytes) same short h = subst (λ b. IsImageLine ext name size b text) (read_whole items bytes same short) h

pub line_written : (ext : Ext) (name size items text : List ℕ) (o : Option (List ℕ)) (r : Result (Unit {0}) ImageError) (old new : Option (List ℕ)) → IfSome o (λ bytes. items ≡ take most_read bytes) → length items ≤ MAX_MEMORY
    → IsImageLine ext name size items text → OnOk r (Appends old new text) → IfSome o (λ bytes. OnOk r ((text : List ℕ) × IsImageLine ext name size bytes text × Appends old new text))
line_written ext name size items text None r old new same short line h = tt
line_written ext name size items text (Some bytes) (Err error) old new same short line h = tt
line_written ext name size items text (Some bytes) (Ok done) old new same short line h = (text, line_of_all ext name size items text (Some bytes) same short line, h)
