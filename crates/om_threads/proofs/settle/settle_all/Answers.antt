use Rattle.std.proofs.Common.{◌≡◌, ◌<◌, ◌+◌, [], ◌∷◌, ◌++◌, rules, refl, sym, ap, ◌∙◌, subst, length, length-append}
use Rattle.std.proofs.lemmas.Iterator.Adapters.{YieldsList-from_vec}
use Rattle.std.proofs.lemmas.Iterator.Consumers.{YieldsList-from_enumerate, YieldsList-turn}
use Rattle.std.proofs.lemmas.Option.{slice_get_read, slice_get_within}
use Rattle.std.specs.Iterator.Adapters.{enumerate_source}
use Rattle.om_threads.specs.steps.Settling.{AreSettled, HavePairs}
use Rattle.om_threads.proofs.SettleLemmas.{all_go_on, pairs_next, turn_at}
use Rattle.om_threads.proofs.settle.settle_all.Goals as goal

pub settle_row-requires : goal.settle_row-requires
settle_row-requires g c =
    let turn = YieldsList-turn (YieldsList-from_enumerate (YieldsList-from_vec {s = enumerate_source c.into_iter-from-iterator.result} c.args.puts.items (search rules) (search rules)) (search rules))
    c.loop-from.yielded c.loop-from.from-iterator c.loop-from.yielded_by c.next.result c.next.new.self (c.in-Some.from, c.in-Some.row) c.in-Some.is c.next.ensures.steps in
    let at = turn_at c.args.puts.items (length c.loop-from.yielded) c.in-Some.from c.in-Some.row turn in
    let was = subst (λ k. AreSettled k c.args.puts.items c.args.takes.now.items c.loop-from.takes.items) (sym at.0) c.loop-from.invariant in
    let within : c.in-Some.from < length c.args.inboxes.now = subst (λ n. c.in-Some.from < n) c.requires.senders (slice_get_within c.args.puts.items c.in-Some.from c.in-Some.row at.1) in
    let inboxes = slice_get_read c.args.inboxes.now (length c.args.inboxes.now) c.in-Some.from c.index-inboxes-from.result refl within c.index-inboxes-from.is in
    subst (λ l. HavePairs l c.in-Some.from c.in-Some.row.items c.loop-from.takes.items) (sym c.deref.ensures.value)
    (pairs_next (length c.args.inboxes.now) c.args.inboxes.now c.args.puts.items c.args.takes.now.items c.loop-from.takes.items c.in-Some.from c.in-Some.row c.index-inboxes-from.result c.requires was at.1 inboxes)

pub loop-from-preserved : goal.loop-from-preserved
loop-from-preserved g c =
    let turn = YieldsList-turn (YieldsList-from_enumerate (YieldsList-from_vec {s = enumerate_source c.into_iter-from-iterator.result} c.args.puts.items (search rules) (search rules)) (search rules))
    c.loop-from.yielded c.loop-from.from-iterator c.loop-from.yielded_by c.next.result c.next.new.self (c.in-Some.from, c.in-Some.row) c.in-Some.is c.next.ensures.steps in
    let at = turn_at c.args.puts.items (length c.loop-from.yielded) c.in-Some.from c.in-Some.row turn in
    let was = subst (λ k. AreSettled k c.args.puts.items c.args.takes.now.items c.loop-from.takes.items) (sym at.0) c.loop-from.invariant in
    let more : c.in-Some.from + 1 ≡ length (c.loop-from.yielded ++ (c.in-Some.from, c.in-Some.row) ∷ []) = ap (λ k. k + 1) at.0 ∙ sym (length-append c.loop-from.yielded ((c.in-Some.from, c.in-Some.row) ∷ [])) in
    subst (λ k. AreSettled k c.args.puts.items c.args.takes.now.items c.settle_row.new.takes.items) more
    (all_go_on c.in-Some.from c.args.puts.items c.in-Some.row c.args.takes.now.items c.loop-from.takes.items c.settle_row.new.takes.items was at.1 c.settle_row.ensures)
