-- Values of digits.
use Rattle.std.proofs.Common.{◌≡◌, ℕ, ◌^◌, ◌<◌, ◌≤◌, Bool, true, false, cond, ◌&&◌, eqb, ltb, List, [], ◌∷◌, length, take, Some, None, arith, ap, ◌∙◌, sym, refl, subst}
use Rattle.std.specs.Char.{is_digit, digit_value}
use Rattle.std.specs.Str.Parse.{AllDigits, digits_value}
use Rattle.std.proofs.lemmas.Bool.{ltb-true, ltb-false, lt-ltb, le-ltb}
use Rattle.std.proofs.lemmas.Int.Digits.{digits_value-lt}
use Rattle.std.proofs.lemmas.Str.Parse.{digits_value-take-le}
use Rattle.om_text.specs.Numbers.{are_digits, below, hex_word}

some-by : (n limit v : ℕ) (b : Bool) → ltb n limit ≡ b → Some v ≡ cond b (Some n) None → (v ≡ n) × (n < limit)
some-by n limit v true p h = (cc, ltb-true n limit p)
some-by n limit v false p h = cc

-- a number that is told is below the limit
pub below-some : (n limit v : ℕ) → Some v ≡ below limit (Some n) → (v ≡ n) × (n < limit)
below-some n limit v h = some-by n limit v (ltb n limit) refl h

none-by : (n limit : ℕ) (b : Bool) → ltb n limit ≡ b → None ≡ cond b (Some n) None → limit ≤ n
none-by n limit true p h = cc
none-by n limit false p h = ltb-false n limit p

-- one that is not told is not
pub below-none : (n limit : ℕ) → None ≡ below limit (Some n) → limit ≤ n
below-none n limit h = none-by n limit (ltb n limit) refl h

too_large : (n limit : ℕ) (b : Bool) → limit ≤ n → cond b (below limit (Some n)) None ≡ None
too_large n limit true le = ap (λ t. cond t (Some n) None) (le-ltb n limit le)
too_large n limit false le = refl

-- what is below 2^64 is told of 32 bits where it is below 2^32
pub narrow-some : (b : Bool) (n v : ℕ) → Some v ≡ cond b (below (2 ^ 64) (Some n)) None → below (2 ^ 32) (Some v) ≡ cond b (below (2 ^ 32) (Some n)) None
narrow-some true n v h = ap (λ m. below (2 ^ 32) (Some m)) (below-some n (2 ^ 64) v h).0
narrow-some false n v h = cc

pub narrow-none : (b : Bool) (n : ℕ) → None ≡ cond b (below (2 ^ 64) (Some n)) None → None ≡ cond b (below (2 ^ 32) (Some n)) None
narrow-none true n h =
    let large = below-none n (2 ^ 64) h in
    let larger : 2 ^ 32 ≤ n = omega (arith, large) in
    sym (too_large n (2 ^ 32) true larger)
narrow-none false n h = refl

-- digits whose first few write too large a number
pub none-from_first : (radix limit : ℕ) (word : List ℕ) (i : ℕ) → 1 ≤ radix → limit ≤ digits_value radix (take i word) → cond (are_digits radix word) (below limit (Some (digits_value radix word))) None ≡ None
none-from_first radix limit word i pos le =
    let more = digits_value-take-le radix word i pos in
    let large : limit ≤ digits_value radix word = omega (arith, le, more) in
    too_large (digits_value radix word) limit (are_digits radix word) large

-- digits that write a number below the limit
pub all-digits : (radix limit : ℕ) (word : List ℕ) (value : ℕ) → are_digits radix word ≡ true → value ≡ digits_value radix word → value < limit → Some value ≡ cond (are_digits radix word) (below limit (Some (digits_value radix word))) None
all-digits radix limit word value digits same fits =
    let inside = subst (λ n. n < limit) same fits in
    ap Some same
    ∙ sym (ap (λ t. cond t (Some (digits_value radix word)) None) (lt-ltb (digits_value radix word) limit inside))
    ∙ sym (ap (λ t. cond t (below limit (Some (digits_value radix word))) None) digits)

both : (a b : Bool) → (a && b) ≡ true → (a ≡ true) × (b ≡ true)
both true b h = (refl, h)
both false b h = cc

pub both-true : (a b : Bool) → a ≡ true → b ≡ true → (a && b) ≡ true
both-true a b p q = ap (λ x. x && b) p ∙ q

pub AllDigits-from_are_digits : (radix : ℕ) (word : List ℕ) → are_digits radix word ≡ true → AllDigits radix word
AllDigits-from_are_digits radix [] h = tt
AllDigits-from_are_digits radix (c ∷ cs) h =
    let parts = both (is_digit c radix) (are_digits radix cs) h in
    (ltb-true (digit_value c) radix parts.0, AllDigits-from_are_digits radix cs parts.1)

below-hex_word : (word : List ℕ) (digits : Bool) → are_digits 16 word ≡ digits → length word ≡ 8 → cond digits (below (2 ^ 32) (Some (digits_value 16 word))) None ≡ cond digits (Some (digits_value 16 word)) None
below-hex_word word true p len =
    let fits = subst (λ n. digits_value 16 word < 16 ^ n) len (digits_value-lt 16 word (AllDigits-from_are_digits 16 word p)) in
    ap (λ b. cond b (Some (digits_value 16 word)) None) (lt-ltb (digits_value 16 word) (2 ^ 32) fits)
below-hex_word word false p len = refl

-- eight hexadecimal digits write a number of 32 bits
pub hex_word-is : (word : List ℕ) → length word ≡ 8 → cond (are_digits 16 word) (below (2 ^ 32) (Some (digits_value 16 word))) None ≡ hex_word word
hex_word-is word len = below-hex_word word (are_digits 16 word) refl len ∙ ap (λ n. cond (eqb n 8 && are_digits 16 word) (Some (digits_value 16 word)) None) (sym len)
