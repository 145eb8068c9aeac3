use Rattle.std.proofs.Common.{◌≡◌, ◌==◌, not, length, map}
use Rattle.std.specs.Prelude.{filter}
use Rattle.om_text.proofs.words.split_words.Given as goal

abbrev pub invariant-loop-word : goal.invariant-loop-word
invariant-loop-word l =
    map (λ word. word.now) l.words.items ≡ filter (λ word. not (length word == 0)) (map (λ word. word.now) l.yielded)
