use Rattle.std.proofs.Common.{◌≡◌, ◌<◌, ◌^◌, true, take}
use Rattle.std.specs.Str.Parse.{digits_value}
use Rattle.om_text.specs.Numbers.{are_digits}
use Rattle.om_requests.proofs.numbers.value_of.Given as goal

abbrev pub invariant-loop-byte : goal.invariant-loop-byte
invariant-loop-byte l = record {
  digits : are_digits 16 (take l.byte-index l.word) ≡ true;
  value : l.value ≡ digits_value 16 (take l.byte-index l.word);
  fits : l.value < 2 ^ 32;
}
