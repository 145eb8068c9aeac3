use Rattle.std.proofs.Common.{◌≡◌, ◌++◌, take, string_bytes}
use Rattle.std.specs.List.{flat_map}
use Rattle.om_svg.specs.WordText.{sheet_word_text}
use Rattle.om_svg.proofs.text.push_words.Given as goal

abbrev pub invariant-loop-word : goal.invariant-loop-word
invariant-loop-word l = string_bytes l.text ≡ string_bytes l.initial.text ++ flat_map (sheet_word_text l.programs) (take l.word-index l.words)
