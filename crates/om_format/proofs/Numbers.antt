-- Numbers that are read are the numbers that were written, and what was written is read again.
use Rattle.std.proofs.Common.{add-one, ◌-◌, drop-drop, ◌%◌, ◌≡◌, ℕ, zero, suc, ◌+◌, ◌*◌, ◌<◌, ◌≤◌, Bool, true, false, cond, ltb, List, [], ◌∷◌, ◌++◌, length, get_or, take, drop, Ok, Err, refl, sym, ap, subst, ◌∙◌, append_assoc, arith, inl, inr}
use Rattle.std.specs.List.{AllByRecursion}
use Rattle.std.specs.Prelude.{slice_set}
use Rattle.std.proofs.Math.Seq.{take-suc-set}
use Rattle.std.specs.Int.{w32, to_le_bytes, from_le_bytes}
use Rattle.std.proofs.lemmas.Bool.{cases_lt, ltb-false, le-ltb}
use Rattle.std.proofs.lemmas.List.{drop-take, take_at, drop_at, take-append-drop, length-append, length-take, length-drop, get_or-drop, get_or-take, get_or_past}
use Rattle.std.proofs.lemmas.List.Concat.{flat_map-cons}
use Rattle.std.proofs.lemmas.Nat.{le_bytes_2, le_bytes_4, le_bytes_8, from_le_bytes-to_le_bytes_2, from_le_bytes-to_le_bytes_4, from_le_bytes-to_le_bytes_8}
use Rattle.om_format.specs.declared.error.DecodeError.{DecodeError}
use Rattle.om_format.specs.declared.error.DecodeError.TheVariants.{Short}
use Rattle.om_format.specs.Formats.{Size, one, two, four, eight, bytes_in, width, limit}
use Rattle.om_format.specs.Spelling.{numbers, IsField}
use Rattle.om_format.specs.FirstFault.{values_at}
use Rattle.om_format.specs.steps.Reading.{numbers_at}

abbrev pub IsBytes : List ℕ → Type 0
IsBytes bytes = (i : ℕ) → get_or bytes i 0 < 256

pub IsBytes-drop : (n : ℕ) (bytes : List ℕ) → IsBytes bytes → IsBytes (drop n bytes)
IsBytes-drop n bytes h i = rw get_or-drop (h (n + i))

pub IsBytes-take : (n : ℕ) (bytes : List ℕ) → IsBytes bytes → IsBytes (take n bytes)
IsBytes-take n bytes h i =
    elim (cases_lt i n) [
      | inl lt ↦ rw (get_or-take n bytes i 0 lt) (h i)
      | inr le ↦ rw (get_or_past (take n bytes) i 0 (omega (arith, length-take n bytes))) (omega arith)
    ]

-- ---- one number

pub length-number : (size : Size) (n : ℕ) → length (to_le_bytes (width size) n) ≡ bytes_in size
length-number one n = refl
length-number two n = refl
length-number four n = refl
length-number eight n = refl

byte_back : (bytes : List ℕ) → length bytes ≡ 1 → IsBytes bytes → to_le_bytes (width one) (from_le_bytes (width one) bytes) ≡ bytes
byte_back [] len fits = absurd cc
byte_back (b ∷ []) len fits = ap (λ (n : ℕ). n ∷ []) (omega (arith, fits 0))
byte_back (b ∷ c ∷ bytes) len fits = absurd (omega arith)

pub number_back : (size : Size) (bytes : List ℕ) → length bytes ≡ bytes_in size → IsBytes bytes → to_le_bytes (width size) (from_le_bytes (width size) bytes) ≡ bytes
number_back one bytes len fits = byte_back bytes len fits
number_back two bytes len fits = le_bytes_2 bytes _ len fits refl
number_back four bytes len fits = le_bytes_4 bytes _ len fits refl
number_back eight bytes len fits = le_bytes_8 bytes _ len fits refl

pub number_again : (size : Size) (n : ℕ) → n < limit size → from_le_bytes (width size) (to_le_bytes (width size) n) ≡ n
number_again one n lt = omega arith
number_again two n lt = from_le_bytes-to_le_bytes_2 n lt
number_again four n lt = from_le_bytes-to_le_bytes_4 n lt
number_again eight n lt = from_le_bytes-to_le_bytes_8 n lt

pub number_below : (size : Size) (bytes : List ℕ) → IsBytes bytes → from_le_bytes (width size) bytes < limit size
number_below one bytes fits = omega (arith, fits 0)
number_below two bytes fits = omega (arith, fits 0, fits 1)
number_below four bytes fits = omega (arith, fits 0, fits 1, fits 2, fits 3)
number_below eight bytes fits = omega (arith, fits 0, fits 1, fits 2, fits 3, fits 4, fits 5, fits 6, fits 7)

-- ---- many numbers

pub length-numbers : (size : Size) (values : List ℕ) → length (numbers size values) ≡ length values * bytes_in size
length-numbers size [] = omega arith
length-numbers size (n ∷ values) =
    let more = length-numbers size values in
    rw flat_map-cons (omega (arith, length-append (to_le_bytes (width size) n) (numbers size values), length-number size n, more))

-- what the numbers at the front are
pub record Takes (size : Size) (count : ℕ) (bytes values rest : List ℕ) : Type 0 where
  pub parts : bytes ≡ numbers size values ++ rest
  pub whole : length values ≡ count
  pub within : AllByRecursion (λ value. value < limit size) values
  pub rest_fits : IsBytes rest

pub values_take : (size : Size) (count : ℕ) (bytes : List ℕ) → IsBytes bytes → count * bytes_in size ≤ length bytes → Takes size count bytes (values_at size count bytes) (drop (count * bytes_in size) bytes)
values_take size zero bytes fits long = record { parts = (let none : 0 * bytes_in size ≡ 0 = omega arith in rw none refl); whole = refl; within = tt; rest_fits = IsBytes-drop (0 * bytes_in size) bytes fits }
values_take size (suc count) bytes fits long =
    let k = bytes_in size in
    let front = take k bytes in
    let rest = drop k bytes in
    let n = from_le_bytes (width size) front in
    let more = values_take size count rest (IsBytes-drop k bytes fits) (omega (arith, length-drop k bytes)) in
    let after : drop (count * k) rest ≡ drop (suc count * k) bytes = (let sum : suc count * k ≡ k + count * k = omega arith in rw sum (drop-drop (count * k) k bytes)) in
    let back = number_back size front (omega (arith, length-take k bytes)) (IsBytes-take k bytes fits) in
    record {
      parts = sym (take-append-drop k bytes) ∙ ap (λ (x : List ℕ). x ++ rest) (sym back) ∙ ap (λ (x : List ℕ). to_le_bytes (width size) n ++ x) (more.parts ∙ ap (λ (x : List ℕ). numbers size (values_at size count rest) ++ x) after) ∙ sym (append_assoc (to_le_bytes (width size) n) (numbers size (values_at size count rest)) (drop (suc count * k) bytes));
      whole = omega (arith, more.whole);
      within = (number_below size front (IsBytes-take k bytes fits), more.within);
      rest_fits = IsBytes-drop (suc count * k) bytes fits;
    }

pub values_again : (size : Size) (values rest : List ℕ) → AllByRecursion (λ value. value < limit size) values → values_at size (length values) (numbers size values ++ rest) ≡ values
values_again size [] rest within = refl
values_again size (n ∷ values) rest within =
    let text = to_le_bytes (width size) n in
    let len = length-number size n in
    let grouped = append_assoc text (numbers size values) rest in
    rw (grouped, take_at text (numbers size values ++ rest) (bytes_in size) len, drop_at text (numbers size values ++ rest) (bytes_in size) len, number_again size n within.0, values_again size values rest within.1) refl

-- a test that did not fail
pub guard_ok : {A : Type 0} (b : Bool) (d : DecodeError) (x y : A) → cond b (Err d) (Ok x) ≡ Ok y → (b ≡ false) × (x ≡ y)
guard_ok true d x y e = absurd cc
guard_ok false d x y e = (refl, cc)

-- what is read as numbers is spelled so
pub numbers_take : (size : Size) (count : ℕ) (bytes : List ℕ) (x : List ℕ × List ℕ) → IsBytes bytes → numbers_at size count bytes ≡ Ok x → Takes size count bytes x.0 x.1
unfolding numbers_at
numbers_take size count bytes x fits e =
    let k = count * bytes_in size in
    let g = guard_ok (ltb (length bytes) k) Short (values_at size count bytes, drop k bytes) x e in
    subst (λ (y : List ℕ × List ℕ). Takes size count bytes y.0 y.1) g.1 (values_take size count bytes fits (ltb-false _ _ g.0))

-- what is spelled as numbers is read so
pub numbers_again : (size : Size) (count : ℕ) (allowed : List ℕ → Bool) (values rest : List ℕ) → IsField size count allowed values → numbers_at size count (numbers size values ++ rest) ≡ Ok (values, rest)
unfolding numbers_at
numbers_again size count allowed values rest h =
    let k = count * bytes_in size in
    let len : length (numbers size values) ≡ k = length-numbers size values ∙ ap (λ (n : ℕ). n * bytes_in size) h.whole in
    let long : ltb (length (numbers size values ++ rest)) k ≡ false = le-ltb _ _ (omega (arith, length-append (numbers size values) rest)) in
    let same : values_at size count (numbers size values ++ rest) ≡ values = ap (λ (n : ℕ). values_at size n (numbers size values ++ rest)) (sym h.whole) ∙ values_again size values rest h.within in
    rw (long, same, drop_at (numbers size values) rest k len) refl

-- ---- bytes as numbers of one byte

pub within_bytes : (bytes : List ℕ) → IsBytes bytes → AllByRecursion (λ value. value < limit one) bytes
within_bytes [] fits = tt
within_bytes (b ∷ bytes) fits = (fits 0, within_bytes bytes (λ i. fits (suc i)))

pub numbers-bytes : (bytes : List ℕ) → IsBytes bytes → numbers one bytes ≡ bytes
numbers-bytes [] fits = refl
numbers-bytes (b ∷ bytes) fits =
    let rest = numbers-bytes bytes (λ i. fits (suc i)) in
    let low : b % 256 ≡ b = omega (arith, fits 0) in
    rw (low, rest) refl

-- ---- numbers of a slice that has no more

take-sum : (n m : ℕ) (xs : List ℕ) → take n (take (n + m) xs) ≡ take n xs
take-sum zero m xs = refl
take-sum (suc n) m [] = (let more : suc n + m ≡ suc (n + m) = omega arith in rw more refl)
take-sum (suc n) m (x ∷ xs) = (let more : suc n + m ≡ suc (n + m) = omega arith in rw (more, take-sum n m xs) refl)

pub values_front : (size : Size) (count : ℕ) (bytes : List ℕ) → values_at size count (take (count * bytes_in size) bytes) ≡ values_at size count bytes
values_front size zero bytes = refl
values_front size (suc count) bytes =
    let k = bytes_in size in
    let sum : suc count * k ≡ k + count * k = omega arith in
    let first : take k (take (k + count * k) bytes) ≡ take k bytes = take-sum k (count * k) bytes in
    let rest : drop k (take (k + count * k) bytes) ≡ take (count * k) (drop k bytes) = drop-take k (count * k) bytes in
    rw (sum, first, rest, values_front size count (drop k bytes)) refl

-- one more of the places has its number
pub more_words : (places : List ℕ) (count i : ℕ) (rest word after : List ℕ) (x : ℕ) (all : List ℕ) → length places ≡ count → i < count → length rest ≡ (count - i) * 4 → word ≡ take 4 rest → after ≡ drop 4 rest → x ≡ from_le_bytes w32 word
    → take i places ++ values_at four (count - i) rest ≡ all
    → (length after ≡ (count - (i + 1)) * 4) × (take (i + 1) (slice_set places i x) ++ values_at four (count - (i + 1)) after ≡ all)
more_words places count i rest word after x all len lt whole front back is so_far =
    let left : count - i ≡ suc (count - (i + 1)) = omega arith in
    let next : values_at four (count - i) rest ≡ x ∷ values_at four (count - (i + 1)) after = rw (left, is, front, back) refl in
    let here : i < length places = omega arith in
    let filled : take (i + 1) (slice_set places i x) ≡ take i places ++ x ∷ [] = rw add-one (take-suc-set places i x here) in (
      omega (arith, ap length back, length-drop 4 rest),
      rw filled (append_assoc (take i places) (x ∷ []) (values_at four (count - (i + 1)) after) ∙ ap (λ (t : List ℕ). take i places ++ t) (sym next) ∙ so_far),
    )
