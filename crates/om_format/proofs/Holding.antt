-- What holds of what a reading gives.
use Rattle.std.proofs.Common.{◌≡◌, ℕ, zero, suc, ◌*◌, ◌≤◌, ◌<◌, Bool, true, false, cond, ltb, List, length, take, drop, Result, Ok, Err, refl, sym, ap, subst, ◌⊎◌, inl, inr}
use Rattle.std.proofs.lemmas.Bool.{cases_lt, lt-ltb, le-ltb}
use Rattle.std.proofs.lemmas.List.{length-take-le}
use Rattle.om_format.specs.declared.error.DecodeError.{DecodeError}
use Rattle.om_format.specs.declared.error.DecodeError.TheVariants.{Short}
use Rattle.om_format.specs.Formats.{Size, bytes_in, one}
use Rattle.om_format.specs.FirstFault.{values_at}
use Rattle.om_format.specs.steps.Reading.{◌>>=◌, allow, number_at, numbers_at, bytes_at, opening_at, counted_at}

-- what holds of what a reading gives, where it gives something
abbrev pub Holds : {A : Type 0} → (A → Type 0) → Result A DecodeError → Type 0
Holds P (Ok x) = P x
Holds P (Err fault) = Unit {0}

pub of_ok : {A : Type 0} (P : A → Type 0) (r : Result A DecodeError) (x : A) → Holds P r → r ≡ Ok x → P x
of_ok P r x h e = subst (Holds P) e h

pub then_holds : {A B : Type 0} (P : B → Type 0) (Q : A → Type 0) (r : Result A DecodeError) (f : A → Result B DecodeError) → Holds Q r → ((x : A) → Q x → Holds P (f x)) → Holds P (r >>= f)
then_holds P Q (Ok x) f h more = more x h
then_holds P Q (Err d) f h more = tt

pub any_holds : {A B : Type 0} (P : B → Type 0) (r : Result A DecodeError) (f : A → Result B DecodeError) → ((x : A) → Holds P (f x)) → Holds P (r >>= f)
any_holds P (Ok x) f more = more x
any_holds P (Err d) f more = tt

pub allow_holds : {B : Type 0} (P : B → Type 0) (b : Bool) (d : DecodeError) (f : Unit {0} → Result B DecodeError) → (b ≡ true → Holds P (f tt)) → Holds P (allow b d >>= f)
allow_holds P true d f more = more refl
allow_holds P false d f more = tt

-- readings that go on alike go on alike from what holds
pub holding_same : {A B : Type 0} (Q : A → Type 0) (r : Result A DecodeError) (f g : A → Result B DecodeError) → Holds Q r → ((x : A) → Q x → f x ≡ g x) → (r >>= f) ≡ (r >>= g)
holding_same Q (Ok x) f g h same = same x h
holding_same Q (Err d) f g h same = refl

pub allow_same : {B : Type 0} (b : Bool) (d : DecodeError) (f g : Unit {0} → Result B DecodeError) → (b ≡ true → f tt ≡ g tt) → (allow b d >>= f) ≡ (allow b d >>= g)
allow_same true d f g same = same refl
allow_same false d f g same = refl

length-values_at : (size : Size) (count : ℕ) (bytes : List ℕ) → length (values_at size count bytes) ≡ count
length-values_at size zero bytes = refl
length-values_at size (suc count) bytes = ap suc (length-values_at size count (drop (bytes_in size) bytes))

pub numbers_hold : (size : Size) (count : ℕ) (bytes : List ℕ) → Holds (λ x. length x.0 ≡ count) (numbers_at size count bytes)
unfolding numbers_at
numbers_hold size count bytes = by_test (ltb (length bytes) (count * bytes_in size))
  where
    by_test : (b : Bool) → Holds (λ (x : List ℕ × List ℕ). length x.0 ≡ count) (cond b (Err Short) (Ok (values_at size count bytes, drop (count * bytes_in size) bytes)))
    by_test true = tt
    by_test false = length-values_at size count bytes

pub bytes_hold : (count : ℕ) (bytes : List ℕ) → Holds (λ x. length x.0 ≡ count) (bytes_at count bytes)
unfolding bytes_at
bytes_hold count bytes = by_test (cases_lt (length bytes) count)
  where
    by_test : (length bytes < count) ⊎ (count ≤ length bytes) → Holds (λ (x : List ℕ × List ℕ). length x.0 ≡ count) (cond (ltb (length bytes) count) (Err Short) (Ok (take count bytes, drop count bytes)))
    by_test (inl short) = (let a : ltb (length bytes) count ≡ true = lt-ltb _ _ short in rw a tt)
    by_test (inr long) = (let a : ltb (length bytes) count ≡ false = le-ltb _ _ long in rw a (length-take-le count bytes long))

pub counted_hold : (size : Size) (allowed : ℕ → Bool) (offset : ℕ) (bytes : List ℕ) → Holds (λ x. allowed (length x.0) ≡ true) (counted_at size allowed offset bytes)
unfolding counted_at
counted_hold size allowed offset bytes =
    any_holds _ (number_at size bytes) _ (λ len. allow_holds _ (allowed len.0) _ _ (λ fine.
    any_ok len.0 (bytes_at len.0 len.1) (bytes_hold len.0 len.1) fine))
  where
    any_ok : (n : ℕ) (r : Result (List ℕ × List ℕ) DecodeError) → Holds (λ x. length x.0 ≡ n) r → allowed n ≡ true → Holds (λ (x : List ℕ × List ℕ). allowed (length x.0) ≡ true) r
    any_ok n (Ok x) len fine = subst (λ (m : ℕ). allowed m ≡ true) (sym len) fine
    any_ok n (Err d) len fine = tt

pub opening_hold : (is_kind is_version : ℕ → Bool) (bytes : List ℕ) → Holds (λ x. (is_kind x.0 ≡ true) × (is_version x.1 ≡ true)) (opening_at is_kind is_version bytes)
unfolding opening_at
opening_hold is_kind is_version bytes =
    any_holds _ (number_at one bytes) _ (λ kind. allow_holds _ (is_kind kind.0) _ _ (λ known.
    any_holds _ (number_at one kind.1) _ (λ version. allow_holds _ (is_version version.0) _ _ (λ fine. (known, fine)))))
