-- What a line of a program that is read says of its words.
use Rattle.std.proofs.Common.{◌≡◌, ℕ, ◌*◌, ◌<◌, ◌^◌, Bool, true, false, true≢false, not, ◌&&◌, List, [], ◌∷◌, length, All, Option, None, Some, Result, Ok, refl, sym, ap, ◌∙◌, arith, nat_lt, nat_le}
use Rattle.std.specs.Prelude.{if◌then◌else◌}
use Rattle.std.specs.Str.Parse.{digits_value}
use Rattle.std.specs.List.{list_all}
use Rattle.std.specs.Char.{is_digit}
use Rattle.std.proofs.lemmas.Bool.Decides.{nat_tests}
use Rattle.std.proofs.lemmas.List.Elements.{All-cons, All-nil}
use Rattle.om_isa.specs.declared.ext.Ext.{Ext}
use Rattle.om_isa.specs.Memory.{is_memory_size}
use Rattle.om_text.specs.Numbers.{number_of, below, are_digits, hex_word}
use Rattle.std.specs.Option.{ok_or}
use Rattle.om_text.specs.Reading.{◌>>=◌, refused, all_read}
use Rattle.om_text.specs.declared.error.LineError.{LineError}
use Rattle.om_text.specs.declared.error.LineError.TheVariants as faults
use Rattle.om_scripts.specs.Named.{is_name, is_name_byte}
use Rattle.om_scripts.specs.Programs.{Cluster, no_programs, program_in, program_line}
use Rattle.om_scripts.specs.declared.names.TheConstants.{MAX_NAME}
use Rattle.om_image.proofs.Lines.{IsPlain}

-- what a read line says
pub record IsRead (ext : Ext) (name size : List ℕ) (words : List ℕ) (cluster : Cluster) : Type 0 where
  pub number : ℕ
  pub is_number : number_of size ≡ Some number
  pub named : is_name name ≡ true
  pub sized : is_memory_size number ≡ true
  pub fits : nat_lt number (4 * length words) ≡ false
  pub cluster_is : cluster ≡ record no_programs { programs = (name, program_in ext number words) ∷ [] }

-- the last of its tests
abbrev tested : Bool → Bool → Bool → Cluster → Result Cluster LineError
tested named sized long cluster =
    refused (not named) faults.BadName >>= λ _. refused (not sized) faults.BadSize >>= λ _. refused long faults.ImageTooLong >>= λ _. Ok cluster

passed : (named sized long : Bool) (one other : Cluster) → tested named sized long one ≡ Ok other → (named ≡ true) × (sized ≡ true) × (long ≡ false) × (other ≡ one)
passed true true false one other e = (refl, refl, refl, cc)
passed true true true one other e = absurd (cc)
passed true false long one other e = absurd (cc)
passed false sized long one other e = absurd (cc)

pub read_says : (ext : Ext) (name size : List ℕ) (texts : List (List ℕ)) (words : List ℕ) (cluster : Cluster) → all_read hex_word faults.BadWord texts ≡ Ok words → program_line ext no_programs (name ∷ size ∷ texts) ≡ Ok cluster → IsRead ext name size words cluster
read_says ext name size texts words cluster are e = by_number (number_of size) refl e
  where
    by_number : (o : Option ℕ) → number_of size ≡ o
        → (ok_or o faults.BadNumber >>= λ n. all_read hex_word faults.BadWord texts >>= λ ws. tested (is_name name) (is_memory_size n) (nat_lt n (4 * length ws)) (record no_programs { programs = (name, program_in ext n ws) ∷ [] })) ≡ Ok cluster
        → IsRead ext name size words cluster
    by_number None is h = absurd (cc)
    by_number (Some n) is h =
        let last = sym (ap (λ r. r >>= λ ws. tested (is_name name) (is_memory_size n) (nat_lt n (4 * length ws)) (record no_programs { programs = (name, program_in ext n ws) ∷ [] })) are) ∙ h in
        let t = passed (is_name name) (is_memory_size n) (nat_lt n (4 * length words)) (record no_programs { programs = (name, program_in ext n words) ∷ [] }) cluster last in
        record { number = n; is_number = is; named = t.0; sized = t.1; fits = t.2; cluster_is = t.3 }

-- ---- its words are plain
both : (x y : Bool) → x && y ≡ true → (x ≡ true) × (y ≡ true)
both true y h = (refl, h)
both false y h = absurd (true≢false (sym h))

name_byte_above : (b : ℕ) → is_name_byte b ≡ true → 32 < b
name_byte_above b h = grind (arith, nat_tests)

name_above : (word : List ℕ) → list_all is_name_byte word ≡ true → All (λ c. 32 < c) word
name_above [] all = All-nil (λ c. 32 < c)
name_above (b ∷ bs) all = let two = both (is_name_byte b) (list_all is_name_byte bs) all in All-cons (λ c. 32 < c) b bs (name_byte_above b two.0) (name_above bs two.1)

pub plain_name : (word : List ℕ) → is_name word ≡ true → IsPlain word
plain_name word named =
    let two = both (nat_lt 0 (length word) && nat_le (length word) MAX_NAME) (list_all is_name_byte word) named in
    let some = (both (nat_lt 0 (length word)) (nat_le (length word) MAX_NAME) two.0).0 in
    record { some = grind (arith, nat_tests); above = name_above word two.1 }

digit_above : (b : ℕ) → is_digit b 10 ≡ true → 32 < b
digit_above b h = grind (arith, nat_tests)

digits_above : (word : List ℕ) → are_digits 10 word ≡ true → All (λ c. 32 < c) word
digits_above [] all = All-nil (λ c. 32 < c)
digits_above (b ∷ bs) all = let two = both (is_digit b 10) (are_digits 10 bs) all in All-cons (λ c. 32 < c) b bs (digit_above b two.0) (digits_above bs two.1)

pub plain_number : (word : List ℕ) (n : ℕ) → number_of word ≡ Some n → IsPlain word
plain_number word n is = by (nat_lt 0 (length word)) (are_digits 10 word) refl refl is
  where
    by : (some digits : Bool) → nat_lt 0 (length word) ≡ some → are_digits 10 word ≡ digits → below (2 ^ 32) (if some && digits then Some (digits_value 10 word) else None) ≡ Some n → IsPlain word
    by true true is_some are h = record { some = grind (arith, nat_tests); above = digits_above word are }
    by true false is_some are h = absurd (cc)
    by false digits is_some are h = absurd (cc)
