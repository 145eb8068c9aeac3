use Rattle.std.proofs.Common.{◌≡◌, ◌++◌, codes, take, string_bytes}
use Rattle.om_inferiors.specs.Told.{threads_of}
use Rattle.om_inferiors.proofs.inferiors.threads_text.Given as goal

abbrev pub invariant-loop-member : goal.invariant-loop-member
invariant-loop-member l = string_bytes l.text ≡ codes "<?xml version=\"1.0\"?><threads>" ++ threads_of (take l.member-index l.members)
