use Rattle.std.proofs.Common.{◌≡◌, ◌++◌, take}
use Rattle.om_format.specs.Formats.{four}
use Rattle.om_format.specs.Spelling.{numbers}
use Rattle.om_format.proofs.checkpoint_writing.put_words.Given as goal

abbrev pub invariant-loop-word : goal.invariant-loop-word
invariant-loop-word l = l.out.items ≡ l.fn.out.items ++ numbers four (take l.word-index l.words)
