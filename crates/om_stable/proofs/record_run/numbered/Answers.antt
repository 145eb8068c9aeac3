use Rattle.std.proofs.Common.{◌≡◌, ◌<◌, ◌+◌, [], ◌∷◌, ◌++◌, rules, refl, sym, ap, ◌∙◌, arith, ℕ, Vec, get_or, length, length-append, subst, take}
use Rattle.std.specs.declared.alloc.Global.{Global}
use Rattle.std.proofs.lemmas.Iterator.Adapters.{YieldsList-from_vec}
use Rattle.std.proofs.lemmas.Iterator.Consumers.{YieldsList-from_enumerate, YieldsList-turn}
use Rattle.std.proofs.lemmas.List.{map-append}
use Rattle.std.specs.Iterator.Adapters.{enumerate_source}
use Rattle.om_stable.specs.Content.{bytes_of, rows_of}
use Rattle.om_stable.specs.steps.Runs.{rows_from}
use Rattle.om_stable.proofs.RunLemmas.{rows_from-next, turn_at}
use Rattle.om_stable.proofs.record_run.numbered.Goals as goal

pub loop-k-preserved : goal.loop-k-preserved
loop-k-preserved c =
    let turn = YieldsList-turn (YieldsList-from_enumerate (YieldsList-from_vec {s = enumerate_source c.into_iter-k-iterator.result} c.args.records.items (search rules) (search rules)) (search rules))
    c.loop-k.yielded c.loop-k.k-iterator c.loop-k.yielded_by c.next.result c.next.new.self (c.in-Some.k, c.in-Some.bytes) c.in-Some.is c.next.ensures.steps in
    let at = turn_at c.args.records.items (length c.loop-k.yielded) c.in-Some.k c.in-Some.bytes turn in
    let long : length (c.loop-k.yielded ++ (c.in-Some.k, c.in-Some.bytes) ∷ []) ≡ length c.loop-k.yielded + 1 = length-append c.loop-k.yielded ((c.in-Some.k, c.in-Some.bytes) ∷ []) in
    rows_from-next c.loop-k.found.items c.push.new.self.items c.args.first (length c.loop-k.yielded) (c.args.first + c.in-Some.k) c.args.records.items c.in-Some.bytes c.in-Some.bytes c.in-Some.bytes.items
    at.0 at.2 c.loop-k.invariant (ap (λ k. c.args.first + k) at.1) refl refl
    (ap rows_of c.in_ok-push.ensures.items ∙ map-append (λ (e : ℕ × Vec ℕ Global). (e.0, e.1.items)) c.loop-k.found.items _)
    ∙ ap (λ k. rows_from c.args.first (bytes_of (take k c.args.records.items))) (sym long)
