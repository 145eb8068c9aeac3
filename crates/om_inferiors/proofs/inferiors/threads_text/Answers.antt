use Rattle.std.proofs.Common.{◌≡◌, ℕ, List, ◌++◌, ◌+◌, codes, take, string_bytes, append_assoc, ap, sym, ◌∙◌, arith}
use Rattle.std.proofs.lemmas.Slice.{pushed}
use Rattle.om_inferiors.specs.Told.{thread_text, threads_of}
use Rattle.om_inferiors.proofs.Sets.{threads_more}
use Rattle.om_inferiors.proofs.inferiors.threads_text.Goals as goal

pub loop-member-preserved : goal.loop-member-preserved
loop-member-preserved c =
    let members = c.args.members.now in
    let i = c.loop-member.member-index in
    let item = c.member-item in
    let head : List ℕ = codes "<?xml version=\"1.0\"?><threads>" in
    let more : threads_of (take (i + 1) members) ≡ threads_of (take i members) ++ thread_text item.result = threads_more members i item.result (omega arith) item.is in
    let text : c.deref.result.now ≡ thread_text item.result = c.deref.ensures ∙ c.in_ok-thread_text.ensures in
    let was : string_bytes c.push_str.new.self ≡ (head ++ threads_of (take i members)) ++ c.deref.result.now =
    pushed c.deref.result.now c.loop-member.invariant c.in_ok-push_str.was c.push_str.ensures.bytes in
    was ∙ ap (λ t. (head ++ threads_of (take i members)) ++ t) text ∙ append_assoc head (threads_of (take i members)) (thread_text item.result) ∙ ap (λ t. head ++ t) (sym more)
