use Rattle.std.proofs.Common.{◌≡◌, ℕ, zero, suc, ◌<◌, Bool, true, false, true≢false, ◌&&◌, List, [], ◌∷◌, nat_lt, nat_le, length, refl, sym, arith}
use Rattle.std.specs.List.{list_all}
use Rattle.std.specs.Str.{IsAscii, IsUtf8}
use Rattle.std.proofs.lemmas.Str.{IsUtf8-from_ascii}
use Rattle.std.proofs.lemmas.Bool.Decides.{nat_tests}
use Rattle.std.proofs.lemmas.Str.Ascii.{IsAscii-nil}
use Rattle.om_scripts.specs.Named.{is_name, is_name_byte}
use Rattle.om_scripts.specs.declared.names.TheConstants.{MAX_NAME}

both : (x y : Bool) → x && y ≡ true → (x ≡ true) × (y ≡ true)
both true y h = (refl, h)
both false y h = absurd (true≢false (sym h))

byte_ascii : (b : ℕ) → is_name_byte b ≡ true → b < 128
byte_ascii b h = grind (arith, nat_tests)

bytes_ascii : (word : List ℕ) → list_all is_name_byte word ≡ true → IsAscii word
bytes_ascii [] all i = IsAscii-nil i
bytes_ascii (b ∷ bs) all zero = byte_ascii b (both (is_name_byte b) (list_all is_name_byte bs) all).0
bytes_ascii (b ∷ bs) all (suc i) = bytes_ascii bs (both (is_name_byte b) (list_all is_name_byte bs) all).1 i

-- a name is text
pub utf8_name : (word : List ℕ) → is_name word ≡ true → IsUtf8 word
utf8_name word named =
    let all = both (nat_lt 0 (length word) && nat_le (length word) MAX_NAME) (list_all is_name_byte word) named in
    IsUtf8-from_ascii word (bytes_ascii word all.1)
