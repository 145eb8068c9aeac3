use Rattle.std.proofs.Common.{ℕ, List, ◌++◌, drop}
use Rattle.om_commands.specs.Decode.{IsListing}
use Rattle.om_commands.proofs.decode.listing.Given as goal

-- the lines so far and those of the words to come are those of all words
abbrev pub invariant-loop-word : goal.invariant-loop-word
invariant-loop-word l = (rest : List ℕ) → IsListing l.ext (drop l.word-index l.words) rest → IsListing l.ext l.words (l.text.items ++ rest)
