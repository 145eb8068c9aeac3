-- Digits of words.
use Rattle.std.proofs.Common.{◌≡◌, ℕ, zero, suc, ◌+◌, ◌*◌, ◌/◌, ◌%◌, ◌^◌, ◌<◌, Bool, true, ◌&&◌, List, [], ◌∷◌, length, map, None, Some, Ok, refl, ap, ◌∙◌, arith, nat_lt, slice_index}
use Rattle.std.specs.Prelude.{All, if◌then◌else◌}
use Rattle.std.specs.Char.{is_digit, digit_value}
use Rattle.std.specs.Int.{to_be_bytes, bytes_high_first, byte_at, w32}
use Rattle.std.specs.Str.Parse.{digits_value_after}
use Rattle.std.proofs.lemmas.Bool.{lt-ltb}
use Rattle.std.proofs.lemmas.List.Elements.{All-cons, All-nil}
use Rattle.hex.specs.Hex.{encode_with, lower_digits}
use Rattle.om_text.specs.Numbers.{are_digits, hex_word}
use Rattle.std.specs.Option.{ok_or}
use Rattle.om_text.specs.Reading.{◌>>=◌, all_read}
use Rattle.om_text.specs.declared.error.LineError.TheVariants as LineError
use Rattle.om_text.proofs.Readings.{all_read_cons}
use Rattle.om_look.specs.Trace.{word_text}

-- the digits, by their values
pub record IsDigit (d : ℕ) : Type 0 where
  pub value : digit_value (slice_index lower_digits d) ≡ d
  pub above : 32 < slice_index lower_digits d

pub a_digit : (d : ℕ) → d < 16 → IsDigit d
a_digit zero lt = record { value = refl; above = omega arith }
a_digit (suc zero) lt = record { value = refl; above = omega arith }
a_digit (suc (suc zero)) lt = record { value = refl; above = omega arith }
a_digit (suc (suc (suc zero))) lt = record { value = refl; above = omega arith }
a_digit (suc (suc (suc (suc zero)))) lt = record { value = refl; above = omega arith }
a_digit (suc (suc (suc (suc (suc zero))))) lt = record { value = refl; above = omega arith }
a_digit (suc (suc (suc (suc (suc (suc zero)))))) lt = record { value = refl; above = omega arith }
a_digit (suc (suc (suc (suc (suc (suc (suc zero))))))) lt = record { value = refl; above = omega arith }
a_digit (suc (suc (suc (suc (suc (suc (suc (suc zero)))))))) lt = record { value = refl; above = omega arith }
a_digit (suc (suc (suc (suc (suc (suc (suc (suc (suc zero))))))))) lt = record { value = refl; above = omega arith }
a_digit (suc (suc (suc (suc (suc (suc (suc (suc (suc (suc zero)))))))))) lt = record { value = refl; above = omega arith }
a_digit (suc (suc (suc (suc (suc (suc (suc (suc (suc (suc (suc zero))))))))))) lt = record { value = refl; above = omega arith }
a_digit (suc (suc (suc (suc (suc (suc (suc (suc (suc (suc (suc (suc zero)))))))))))) lt = record { value = refl; above = omega arith }
a_digit (suc (suc (suc (suc (suc (suc (suc (suc (suc (suc (suc (suc (suc zero))))))))))))) lt = record { value = refl; above = omega arith }
a_digit (suc (suc (suc (suc (suc (suc (suc (suc (suc (suc (suc (suc (suc (suc zero)))))))))))))) lt = record { value = refl; above = omega arith }
a_digit (suc (suc (suc (suc (suc (suc (suc (suc (suc (suc (suc (suc (suc (suc (suc zero))))))))))))))) lt = record { value = refl; above = omega arith }
a_digit (suc (suc (suc (suc (suc (suc (suc (suc (suc (suc (suc (suc (suc (suc (suc (suc d)))))))))))))))) lt = absurd (omega arith)

-- a byte's two digits
high_digit : (b : ℕ) → b < 256 → b / 16 < 16
high_digit b lt = omega arith

low_digit : (b : ℕ) → b % 16 < 16
low_digit b = omega arith

two_digits : (n b : ℕ) → (n * 16 + b / 16) * 16 + b % 16 ≡ n * 256 + b
two_digits n b = omega arith

-- what the digits of bytes write behind a number
abbrev worth : ℕ → List ℕ → ℕ
worth n [] = n
worth n (b ∷ bs) = worth (n * 256 + b) bs

value_of_bytes : (n : ℕ) (bs : List ℕ) → All (λ b. b < 256) bs → digits_value_after 16 n (encode_with lower_digits bs) ≡ worth n bs
unfolding encode_with
value_of_bytes n [] all = refl
value_of_bytes n (b ∷ bs) all =
    let lt : b < 256 = all 0 0 (omega arith) in
    ap (λ d. digits_value_after 16 ((n * 16 + d) * 16 + digit_value (slice_index lower_digits (b % 16))) (encode_with lower_digits bs)) (a_digit (b / 16) (high_digit b lt)).value
    ∙ ap (λ d. digits_value_after 16 ((n * 16 + b / 16) * 16 + d) (encode_with lower_digits bs)) (a_digit (b % 16) (low_digit b)).value
    ∙ ap (λ m. digits_value_after 16 m (encode_with lower_digits bs)) (two_digits n b)
    ∙ value_of_bytes (n * 256 + b) bs (λ k d within. all (suc k) d (omega arith))

digits_of_bytes : (bs : List ℕ) → All (λ b. b < 256) bs → are_digits 16 (encode_with lower_digits bs) ≡ true
unfolding encode_with
digits_of_bytes [] all = refl
digits_of_bytes (b ∷ bs) all =
    let lt : b < 256 = all 0 0 (omega arith) in
    let high : is_digit (slice_index lower_digits (b / 16)) 16 ≡ true = ap (λ d. nat_lt d 16) (a_digit (b / 16) (high_digit b lt)).value ∙ lt-ltb (b / 16) 16 (high_digit b lt) in
    let low : is_digit (slice_index lower_digits (b % 16)) 16 ≡ true = ap (λ d. nat_lt d 16) (a_digit (b % 16) (low_digit b)).value ∙ lt-ltb (b % 16) 16 (low_digit b) in
    ap (λ t. t && (is_digit (slice_index lower_digits (b % 16)) 16 && are_digits 16 (encode_with lower_digits bs))) high
    ∙ ap (λ t. t && are_digits 16 (encode_with lower_digits bs)) low
    ∙ digits_of_bytes bs (λ k d within. all (suc k) d (omega arith))

pub above_of_bytes : (bs : List ℕ) → All (λ b. b < 256) bs → All (λ c. 32 < c) (encode_with lower_digits bs)
unfolding encode_with
above_of_bytes [] all = All-nil (λ c. 32 < c)
above_of_bytes (b ∷ bs) all =
    let lt : b < 256 = all 0 0 (omega arith) in
    let more : List ℕ = encode_with lower_digits bs in
    let low : List ℕ = slice_index lower_digits (b % 16) ∷ more in
    All-cons (λ c. 32 < c) (slice_index lower_digits (b / 16)) low (a_digit (b / 16) (high_digit b lt)).above
    (All-cons (λ c. 32 < c) (slice_index lower_digits (b % 16)) more (a_digit (b % 16) (low_digit b)).above (above_of_bytes bs (λ k d within. all (suc k) d (omega (arith, within)))))

-- the bytes of a word
small : (n : ℕ) → n % 256 < 256
small n = omega arith

byte_small : (i n : ℕ) → byte_at i n < 256
byte_small zero n = small n
byte_small (suc i) n = small (n / 256 ^ suc i)

bytes_small : (k n : ℕ) → All (λ b. b < 256) (bytes_high_first k n)
bytes_small zero n = All-nil (λ b. b < 256)
bytes_small (suc k) n = All-cons (λ b. b < 256) (byte_at k n) (bytes_high_first k n) (byte_small k n) (bytes_small k n)

pub bytes_are_small : (word : ℕ) → All (λ b. b < 256) (to_be_bytes w32 word)
bytes_are_small word = bytes_small 4 word

-- a word's text is not empty
pub text_some : (word : ℕ) → 0 < length (word_text word)
unfolding encode_with
text_some word = let is : length (word_text word) ≡ 8 = refl in omega (arith, is)

worth_of_word : (word : ℕ) → word < 2 ^ 32 → worth 0 (to_be_bytes w32 word) ≡ word
worth_of_word word lt =
    let is : worth 0 (to_be_bytes w32 word) ≡ (((0 + word / 16777216 % 256) * 256 + word / 65536 % 256) * 256 + word / 256 % 256) * 256 + word % 256 = refl in
    is ∙ omega (arith, lt)

pub word_read_back : (word : ℕ) → word < 2 ^ 32 → hex_word (word_text word) ≡ Some word
unfolding encode_with
word_read_back word lt =
    let digits : are_digits 16 (word_text word) ≡ true = digits_of_bytes (to_be_bytes w32 word) (bytes_are_small word) in
    ap (λ (t : Bool). if t then Some (digits_value_after 16 0 (word_text word)) else None) digits
    ∙ ap Some (value_of_bytes 0 (to_be_bytes w32 word) (bytes_are_small word) ∙ worth_of_word word lt)

pub words_read_back : (words : List ℕ) → All (λ word. word < 2 ^ 32) words → all_read hex_word LineError.BadWord (map word_text words) ≡ Ok words
words_read_back [] all = refl
words_read_back (word ∷ words) all =
    all_read_cons hex_word LineError.BadWord (word_text word) (map word_text words)
    ∙ ap (λ o. ok_or o LineError.BadWord >>= λ w. all_read hex_word LineError.BadWord (map word_text words) >>= λ ws. Ok (w ∷ ws)) (word_read_back word (all 0 0 (omega arith)))
    ∙ ap (λ r. r >>= λ ws. Ok (word ∷ ws)) (words_read_back words (λ k d within. all (suc k) d (omega arith)))
