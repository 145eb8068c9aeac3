use Rattle.std.proofs.Common.{◌≡◌, ℕ, ◌+◌, ◌-◌, ◌/◌, ◌%◌, ◌^◌, ◌<◌, ◌≤◌, Bool, true, false, ap, ◌∙◌, refl, arith, w32, pos, ◌*ℤ◌, ◌+ℤ◌}
use Rattle.std.specs.Prelude.{bit_and, nat_lt}
use Rattle.std.specs.Int.{cast_signed, int_shr}
use Rattle.std.proofs.lemmas.Bool.{ltb-true, ltb-false, lt-ltb, le-ltb}
use Rattle.std.proofs.lemmas.Int.{ints}
use Rattle.om_isa.specs.Words.{bits_of, immediate_i, immediate_s}
use Rattle.std.proofs.lemmas.Nat.{and_mask}
use Rattle.std.proofs.lemmas.Nat.Bits.{ones_shr}

-- a mask of as many ones as there are bits from lo to hi keeps the remainder
pub and_ones : (n hi lo : ℕ) → lo ≤ hi → hi < 32 → bit_and n (4294967295 / 2 ^ (31 - (hi - lo))) ≡ n % 2 ^ (hi - lo + 1)
and_ones n hi lo ordered within =
    let width : 32 - (31 - (hi - lo)) ≡ hi - lo + 1 = omega arith in
    ap (bit_and n) (ones_shr 32 (31 - (hi - lo)) (omega arith)) ∙ and_mask n (32 - (31 - (hi - lo))) ∙ ap (λ k. n % 2 ^ k) width

-- a word shifted right by 20 as a signed number is its immediate of form I
by_sign : (w : ℕ) (low : Bool) → nat_lt w (2 ^ 31) ≡ low → w < 2 ^ 32 → int_shr (cast_signed w32 w) 20 ≡ immediate_i w
by_sign w true test small =
    let low : w < 2 ^ 31 = ltb-true w (2 ^ 31) test in
    rw (lt-ltb w (2 ^ 31) low) (omega (arith, ints))
by_sign w false test small =
    let high : 2 ^ 31 ≤ w = ltb-false w (2 ^ 31) test in
    rw (le-ltb w (2 ^ 31) high) (omega (arith, ints))

pub signed_bits : (w : ℕ) → w < 2 ^ 32 → int_shr (cast_signed w32 w) 20 ≡ immediate_i w
signed_bits w small = by_sign w (nat_lt w (2 ^ 31)) refl small

-- a word shifted right by 25 as a signed number is the high part of its immediate of form S
high_by_sign : (w : ℕ) (low : Bool) → nat_lt w (2 ^ 31) ≡ low → w < 2 ^ 32 → int_shr (cast_signed w32 w) 25 *ℤ pos 32 +ℤ pos (bits_of w 11 7) ≡ immediate_s w
high_by_sign w true test small =
    let low : w < 2 ^ 31 = ltb-true w (2 ^ 31) test in
    rw (lt-ltb w (2 ^ 31) low) (omega (arith, ints))
high_by_sign w false test small =
    let high : 2 ^ 31 ≤ w = ltb-false w (2 ^ 31) test in
    rw (le-ltb w (2 ^ 31) high) (omega (arith, ints))

pub high_bits : (w : ℕ) → w < 2 ^ 32 → int_shr (cast_signed w32 w) 25 *ℤ pos 32 +ℤ pos (bits_of w 11 7) ≡ immediate_s w
high_bits w small = high_by_sign w (nat_lt w (2 ^ 31)) refl small
