use Rattle.std.proofs.Common.{◌≡◌, ℕ, true, ◌+◌, ◌*◌, ◌<◌, ◌≤◌, ◌^◌, get_or, take, arith, sym, subst, ap, ◌∙◌}
use Rattle.std.specs.Char.{is_digit, digit_value}
use Rattle.std.specs.Str.Parse.{digits_value}
use Rattle.std.proofs.lemmas.Bool.{lt-ltb}
use Rattle.std.proofs.lemmas.Int.Digits.{digits_value_more}
use Rattle.std.proofs.lemmas.List.{take_all}
use Rattle.std.proofs.lemmas.List.Folds.{list_all_more}
use Rattle.om_text.specs.Numbers.{are_digits}
use Rattle.om_text.proofs.Digits.{both-true, below-some, below-none, none-from_first, all-digits}
use Rattle.om_requests.proofs.numbers.value_of.Goals as goal

pub loop-byte-preserved : goal.loop-byte-preserved
loop-byte-preserved c =
    let radix : ℕ = 16 in
    let word = c.args.word.now in
    let i = c.loop-byte.byte-index in
    let byte = get_or word i 0 in
    let found = c.in_ok-digit.ensures.value in
    let small : digit_value byte < radix = subst (λ b. digit_value b < radix) c.from.ensures found.0 in
    let digit : c.in_ok-digit.digit ≡ digit_value byte = found.1 ∙ ap digit_value c.from.ensures in
    let told = below-some (c.loop-byte.value * radix + c.in_ok-digit.digit) (2 ^ 32) c.in_ok-value.value c.in_ok-value.ensures in
    record {
      digits = list_all_more (λ b. is_digit b radix) word i 0 c.loop-byte-test.true ∙ both-true _ _ c.loop-byte.invariant.digits (lt-ltb (digit_value byte) radix small);
      value = told.0
          ∙ ap (λ n. n * radix + c.in_ok-digit.digit) c.loop-byte.invariant.value
          ∙ ap (λ d. digits_value radix (take i word) * radix + d) digit
          ∙ sym (digits_value_more radix word i c.loop-byte-test.true);
      fits = subst (λ n. n < 2 ^ 32) (sym told.0) told.1;
    }

pub returns-in_err-value : goal.returns-in_err-value
returns-in_err-value c =
    let radix : ℕ = 16 in
    let word = c.args.word.now in
    let i = c.loop-byte.byte-index in
    let byte = get_or word i 0 in
    let found = c.in_ok-digit.ensures.value in
    let digit : c.in_ok-digit.digit ≡ digit_value byte = found.1 ∙ ap digit_value c.from.ensures in
    let value : c.loop-byte.value * radix + c.in_ok-digit.digit ≡ digits_value radix (take (i + 1) word) =
    ap (λ n. n * radix + c.in_ok-digit.digit) c.loop-byte.invariant.value
    ∙ ap (λ d. digits_value radix (take i word) * radix + d) digit
    ∙ sym (digits_value_more radix word i c.loop-byte-test.true) in
    let large = below-none (c.loop-byte.value * radix + c.in_ok-digit.digit) (2 ^ 32) c.in_err-value.ensures in
    c.from_residual-in_err-value.ensures
    ∙ sym (none-from_first radix (2 ^ 32) word (i + 1) (omega arith) (subst (λ n. 2 ^ 32 ≤ n) value large))

pub returns : goal.returns
returns c =
    let radix : ℕ = 16 in
    let word = c.args.word.now in
    let all = take_all c.loop-byte.byte-index word c.loop-byte-test.false in
    all-digits radix (2 ^ 32) word c.loop-byte.value
    (subst (λ w. are_digits radix w ≡ true) all c.loop-byte.invariant.digits)
    (subst (λ w. c.loop-byte.value ≡ digits_value radix w) all c.loop-byte.invariant.value)
    c.loop-byte.invariant.fits
