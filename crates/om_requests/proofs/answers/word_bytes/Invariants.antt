use Rattle.std.proofs.Common.{◌≡◌, take}
use Rattle.om_requests.specs.Answers.{word_bytes}
use Rattle.om_requests.proofs.answers.word_bytes.Given as goal

abbrev pub invariant-loop-word : goal.invariant-loop-word
invariant-loop-word l = l.bytes.items ≡ word_bytes (take l.word-index l.words)
