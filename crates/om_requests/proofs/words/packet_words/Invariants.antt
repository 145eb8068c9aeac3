use Rattle.std.proofs.Common.{◌≡◌, map}
use Rattle.om_requests.proofs.words.packet_words.Given as goal

abbrev pub invariant-loop-word : goal.invariant-loop-word
invariant-loop-word l = map (λ word. word.now) l.words.items ≡ map (λ word. word.now) l.yielded
