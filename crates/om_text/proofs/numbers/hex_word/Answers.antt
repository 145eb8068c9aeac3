use Rattle.std.proofs.Common.{◌∙◌}
use Rattle.std.specs.Str.Parse.{digits_value}
use Rattle.om_text.specs.Numbers.{are_digits}
use Rattle.om_text.proofs.Digits.{hex_word-is, narrow-none, narrow-some}
use Rattle.om_text.proofs.numbers.hex_word.Goals as goal

pub returns-in_err-value_of : goal.returns-in_err-value_of
returns-in_err-value_of c =
    let word = c.args.word.now in
    c.from_residual.ensures ∙ narrow-none (are_digits 16 word) (digits_value 16 word) c.in_err-value_of.ensures ∙ hex_word-is word c.if-word-ne-HEX_WORD_DIGITS.false

pub returns : goal.returns
returns c =
    let word = c.args.word.now in
    c.narrow.ensures ∙ narrow-some (are_digits 16 word) (digits_value 16 word) c.in_ok-value_of.field-0 c.in_ok-value_of.ensures ∙ hex_word-is word c.if-word-ne-HEX_WORD_DIGITS.false
