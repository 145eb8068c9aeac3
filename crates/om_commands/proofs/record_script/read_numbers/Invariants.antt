use Rattle.std.proofs.Common.{◌≡◌, map, drop, vec_len}
use Rattle.om_commands.proofs.ScriptLemmas.{and_then}
use Rattle.om_commands.proofs.record_script.read_numbers.Given as goal
use Rattle.om_text.specs.Reading.{all_read}
use Rattle.om_text.specs.Numbers.{number_of}
use Rattle.om_text.specs.declared.error.LineError.TheVariants.{BadNumber}

-- the numbers so far, and then those of the words to come, are those of all words
abbrev pub invariant-loop-word : goal.invariant-loop-word
invariant-loop-word l = record {
  read : all_read number_of BadNumber (map (λ word. word.now) l.words) ≡ and_then l.numbers.items (all_read number_of BadNumber (map (λ word. word.now) (drop l.word-index l.words)));
  count : vec_len l.numbers ≡ l.word-index;
}
