use Rattle.std.proofs.Common.{◌≡◌, map, drop}
use Rattle.om_scripts.proofs.ScriptLemmas.{and_then}
use Rattle.om_scripts.proofs.image.words_in.Given as goal
use Rattle.om_text.specs.Reading.{all_read}
use Rattle.om_text.specs.Numbers.{hex_word}
use Rattle.om_text.specs.declared.error.LineError.TheVariants.{BadWord}

-- the words so far, and then those to come, are all words
abbrev pub invariant-loop-word : goal.invariant-loop-word
invariant-loop-word l =
    all_read hex_word BadWord (map (λ word. word.now) l.words) ≡ and_then l.all.items (all_read hex_word BadWord (map (λ word. word.now) (drop l.word-index l.words)))
