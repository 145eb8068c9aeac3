-- Reading the parts of a record is reading their fields.
use Rattle.std.proofs.Common.{◌≡◌, ℕ, zero, suc, ◌+◌, ◌*◌, ◌≤◌, Bool, true, false, cond, ltb, List, [], ◌∷◌, length, take, drop, Result, Ok, Err, refl, sym, ap, ◌∙◌, arith, inl, inr}
use Rattle.std.proofs.lemmas.Bool.{cases_lt, lt-ltb, le-ltb}
use Rattle.std.proofs.lemmas.List.{length-take-le}
use Rattle.om_format.specs.declared.error.DecodeError.{DecodeError}
use Rattle.om_format.specs.declared.error.DecodeError.TheVariants.{Short}
use Rattle.om_format.specs.Formats.{Size, one, two, four, eight, bytes_in, Format, end, counted, is_body_size, body, opening}
use Rattle.om_format.specs.FirstFault.{values_at}
use Rattle.om_format.specs.steps.Reading.{◌>>=◌, allow, numbers_at, number_at, bytes_at, fields_at, opening_at, counted_at, body_at, end_at}

pub bind_assoc : {A B C : Type 0} (r : Result A DecodeError) (f : A → Result B DecodeError) (g : B → Result C DecodeError) → ((r >>= f) >>= g) ≡ (r >>= λ x. f x >>= g)
bind_assoc (Ok x) f g = refl
bind_assoc (Err d) f g = refl

bind_cond : {A B : Type 0} (b : Bool) (d : DecodeError) (x : A) (f : A → Result B DecodeError) → (cond b (Err d) (Ok x) >>= f) ≡ cond b (Err d) (f x)
bind_cond true d x f = refl
bind_cond false d x f = refl

-- a field of one number
pub one_number : (size : Size) (bytes : List ℕ) → numbers_at size 1 bytes ≡ (number_at size bytes >>= λ x. Ok (x.0 ∷ [], x.1))
unfolding numbers_at number_at
one_number one bytes = sym (bind_cond (ltb (length bytes) 1) Short _ _)
one_number two bytes = sym (bind_cond (ltb (length bytes) 2) Short _ _)
one_number four bytes = sym (bind_cond (ltb (length bytes) 4) Short _ _)
one_number eight bytes = sym (bind_cond (ltb (length bytes) 8) Short _ _)

values-bytes : (count : ℕ) (bytes : List ℕ) → count ≤ length bytes → values_at one count bytes ≡ take count bytes
values-bytes zero bytes long = refl
values-bytes (suc count) [] long = absurd (omega arith)
values-bytes (suc count) (b ∷ bytes) long = ap (λ (rest : List ℕ). b ∷ rest) (values-bytes count bytes (omega arith))

-- a field of bytes
pub many_bytes : (count : ℕ) (bytes : List ℕ) → numbers_at one count bytes ≡ cond (ltb (length bytes) count) (Err Short) (Ok (take count bytes, drop count bytes))
unfolding numbers_at
many_bytes count bytes =
    let same : count * 1 ≡ count = omega arith in
    elim (cases_lt (length bytes) count) [
      | inl short ↦ (let a : ltb (length bytes) count ≡ true = lt-ltb _ _ short in rw (same, a) refl)
      | inr long ↦ (let a : ltb (length bytes) count ≡ false = le-ltb _ _ long in rw (same, a, values-bytes count bytes long) refl)
    ]

pub ends : (offset : ℕ) (bytes : List ℕ) → fields_at end offset bytes ≡ (end_at bytes >>= λ u. Ok [])
unfolding end_at
ends offset [] = refl
ends offset (byte ∷ bytes) = refl

pub bind_same : {A B : Type 0} (r : Result A DecodeError) (f g : A → Result B DecodeError) → ((x : A) → f x ≡ g x) → (r >>= f) ≡ (r >>= g)
bind_same (Ok x) f g same = same x
bind_same (Err d) f g same = refl

taken : {B : Type 0} (n : ℕ) (bytes : List ℕ) (f g : List ℕ × List ℕ → Result B DecodeError) → (n ≤ length bytes → f (take n bytes, drop n bytes) ≡ g (take n bytes, drop n bytes))
    → (cond (ltb (length bytes) n) (Err Short) (Ok (take n bytes, drop n bytes)) >>= f) ≡ (cond (ltb (length bytes) n) (Err Short) (Ok (take n bytes, drop n bytes)) >>= g)
taken n bytes f g same =
    elim (cases_lt (length bytes) n) [
      | inl short ↦ (let a : ltb (length bytes) n ≡ true = lt-ltb _ _ short in rw a refl)
      | inr long ↦ (let a : ltb (length bytes) n ≡ false = le-ltb _ _ long in rw a (same long))
    ]

-- so many bytes
pub bytes_is : (n : ℕ) (bytes : List ℕ) → numbers_at one n bytes ≡ bytes_at n bytes
unfolding bytes_at
bytes_is n bytes = many_bytes n bytes

-- what is known of what was read
pub bytes_same : {B : Type 0} (n : ℕ) (bytes : List ℕ) (f g : List ℕ × List ℕ → Result B DecodeError) → ((x : List ℕ × List ℕ) → length x.0 ≡ n → f x ≡ g x) → (bytes_at n bytes >>= f) ≡ (bytes_at n bytes >>= g)
unfolding bytes_at
bytes_same n bytes f g same = taken n bytes f g (λ long. same (take n bytes, drop n bytes) (length-take-le n bytes long))

-- a length, so many bytes, and what comes behind them
pub counted_is : (size : Size) (allowed : ℕ → Bool) (behind : Format) (offset : ℕ) (bytes : List ℕ)
    → fields_at (counted size allowed behind) offset bytes ≡ (counted_at size allowed offset bytes >>= λ b. fields_at behind (offset + bytes_in size + length b.0) b.1 >>= λ rest. Ok ((length b.0 ∷ []) ∷ b.0 ∷ rest))
unfolding counted counted_at
counted_is size allowed behind offset bytes =
    let one_wide : 1 * bytes_in size ≡ bytes_in size = omega arith in
    rw one_wide (simp (one_number, bytes_is, bind_assoc) (bind_same (number_at size bytes) _ _ (λ len. bind_same (allow _ _) _ _ (λ fine. bytes_same len.0 len.1 _ _ (λ x len_is. rw len_is (let same : len.0 * 1 ≡ len.0 = omega arith in rw same refl))))))

-- a body that comes last
pub last_body_is : (offset : ℕ) (bytes : List ℕ) → fields_at (body end) offset bytes ≡ (body_at offset bytes >>= λ b. end_at b.1 >>= λ u. Ok ((length b.0 ∷ []) ∷ b.0 ∷ []))
last_body_is offset bytes =
    counted_is two is_body_size end offset bytes ∙ bind_same (body_at offset bytes) _ _ (λ b. ap (λ (r : Result (List (List ℕ)) DecodeError). r >>= λ rest. Ok ((length b.0 ∷ []) ∷ b.0 ∷ rest)) (ends (offset + 2 + length b.0) b.1) ∙ bind_assoc (end_at b.1) _ _)

-- kind and version, and what comes behind them
pub opening_is : (is_kind is_version : ℕ → Bool) (behind : ℕ → Format) (offset : ℕ) (bytes : List ℕ)
    → fields_at (opening is_kind is_version behind) offset bytes
    ≡ (opening_at is_kind is_version bytes >>= λ x. fields_at (behind x.1) (offset + 1 + 1) x.2 >>= λ vs. Ok ((x.0 ∷ []) ∷ (x.1 ∷ []) ∷ vs))
unfolding opening opening_at
opening_is is_kind is_version behind offset bytes = simp (one_number, bind_assoc)
