use Rattle.std.proofs.Common.{◌≡◌, ◌+◌, [], ◌∷◌, rules, ◌++◌, refl, sym, ap, ◌∙◌, subst, length, length-append, set}
use Rattle.std.proofs.lemmas.Iterator.Adapters.{YieldsList-from_vec}
use Rattle.std.proofs.lemmas.Iterator.Consumers.{YieldsList-from_enumerate, YieldsList-turn}
use Rattle.std.specs.Iterator.Adapters.{enumerate_source}
use Rattle.std.specs.Prelude.{Vec}
use Rattle.std.specs.Vec.{with_item}
use Rattle.std.specs.declared.alloc.Global.{Global}
use mathlib.Core.List.{IsPrefix}
use Rattle.om_board.specs.Inboxes.{Takings}
use Rattle.om_threads.specs.steps.Settling.{IsRowSettled, with_put}
use Rattle.om_threads.proofs.SettleLemmas.{line_read, pair_next, row_goes_on, row_inside, taken_inside, taken_read, turn_at}
use Rattle.om_threads.proofs.settle.settle_row.Goals as goal

pub index_mut-requires : goal.index_mut-requires
index_mut-requires g c =
    let turn = YieldsList-turn (YieldsList-from_enumerate (YieldsList-from_vec {s = enumerate_source c.into_iter-to-iterator.result} c.args.puts.items (search rules) (search rules)) (search rules))
    c.loop-to.yielded c.loop-to.to-iterator c.loop-to.yielded_by c.next.result c.next.new.self (c.in-Some.to, c.in-Some.put) c.in-Some.is c.next.ensures.steps in
    let at = turn_at c.args.puts.items (length c.loop-to.yielded) c.in-Some.to c.in-Some.put turn in
    let was = subst (λ k. IsRowSettled k c.args.from c.args.puts.items c.args.takes.now.items c.loop-to.takes.items) (sym at.0) c.loop-to.invariant in
    let pair = pair_next c.in-Some.to c.args.from c.args.row.now c.args.puts.items c.args.takes.now.items c.loop-to.takes.items c.in-Some.put c.requires was at.1 in
    let inside = row_inside c.loop-to.takes.items c.in-Some.to c.args.from pair.1.0 pair.1.1 in
    search rules

pub index_mut-requires-in-loop-to : goal.index_mut-requires-in-loop-to
index_mut-requires-in-loop-to g c =
    let turn = YieldsList-turn (YieldsList-from_enumerate (YieldsList-from_vec {s = enumerate_source c.into_iter-to-iterator.result} c.args.puts.items (search rules) (search rules)) (search rules))
    c.loop-to.yielded c.loop-to.to-iterator c.loop-to.yielded_by c.next.result c.next.new.self (c.in-Some.to, c.in-Some.put) c.in-Some.is c.next.ensures.steps in
    let at = turn_at c.args.puts.items (length c.loop-to.yielded) c.in-Some.to c.in-Some.put turn in
    let was = subst (λ k. IsRowSettled k c.args.from c.args.puts.items c.args.takes.now.items c.loop-to.takes.items) (sym at.0) c.loop-to.invariant in
    let pair = pair_next c.in-Some.to c.args.from c.args.row.now c.args.puts.items c.args.takes.now.items c.loop-to.takes.items c.in-Some.put c.requires was at.1 in
    let inside = taken_inside c.loop-to.takes.items c.in-Some.to c.args.from c.index_mut.result.now pair.1.0 pair.1.1 c.index_mut.ensures.value in
    search rules

pub settle-requires-clause-own : goal.settle-requires-clause-own
settle-requires-clause-own g c =
    let turn = YieldsList-turn (YieldsList-from_enumerate (YieldsList-from_vec {s = enumerate_source c.into_iter-to-iterator.result} c.args.puts.items (search rules) (search rules)) (search rules))
    c.loop-to.yielded c.loop-to.to-iterator c.loop-to.yielded_by c.next.result c.next.new.self (c.in-Some.to, c.in-Some.put) c.in-Some.is c.next.ensures.steps in
    let at = turn_at c.args.puts.items (length c.loop-to.yielded) c.in-Some.to c.in-Some.put turn in
    let was = subst (λ k. IsRowSettled k c.args.from c.args.puts.items c.args.takes.now.items c.loop-to.takes.items) (sym at.0) c.loop-to.invariant in
    let pair = pair_next c.in-Some.to c.args.from c.args.row.now c.args.puts.items c.args.takes.now.items c.loop-to.takes.items c.in-Some.put c.requires was at.1 in
    let taken = taken_read c.loop-to.takes.items c.in-Some.to c.args.from c.index_mut.result.now c.index_mut-in-loop-to.result.now pair.1.0 pair.1.1 c.index_mut.ensures.value c.index_mut-in-loop-to.ensures.value in
    ap (λ (t : Takings). t.line) taken ∙ pair.1.2 ∙ sym (line_read c.args.row.now c.in-Some.to c.index-row-to.result c.in-Some.put.line pair.0 c.index-row-to.is)

pub settle-requires-clause-same_line : goal.settle-requires-clause-same_line
settle-requires-clause-same_line g c =
    let turn = YieldsList-turn (YieldsList-from_enumerate (YieldsList-from_vec {s = enumerate_source c.into_iter-to-iterator.result} c.args.puts.items (search rules) (search rules)) (search rules))
    c.loop-to.yielded c.loop-to.to-iterator c.loop-to.yielded_by c.next.result c.next.new.self (c.in-Some.to, c.in-Some.put) c.in-Some.is c.next.ensures.steps in
    let at = turn_at c.args.puts.items (length c.loop-to.yielded) c.in-Some.to c.in-Some.put turn in
    let was = subst (λ k. IsRowSettled k c.args.from c.args.puts.items c.args.takes.now.items c.loop-to.takes.items) (sym at.0) c.loop-to.invariant in
    let pair = pair_next c.in-Some.to c.args.from c.args.row.now c.args.puts.items c.args.takes.now.items c.loop-to.takes.items c.in-Some.put c.requires was at.1 in
    sym (line_read c.args.row.now c.in-Some.to c.index-row-to.result c.in-Some.put.line pair.0 c.index-row-to.is)

pub loop-to-preserved : goal.loop-to-preserved
loop-to-preserved g c =
    let turn = YieldsList-turn (YieldsList-from_enumerate (YieldsList-from_vec {s = enumerate_source c.into_iter-to-iterator.result} c.args.puts.items (search rules) (search rules)) (search rules))
    c.loop-to.yielded c.loop-to.to-iterator c.loop-to.yielded_by c.next.result c.next.new.self (c.in-Some.to, c.in-Some.put) c.in-Some.is c.next.ensures.steps in
    let at = turn_at c.args.puts.items (length c.loop-to.yielded) c.in-Some.to c.in-Some.put turn in
    let was = subst (λ k. IsRowSettled k c.args.from c.args.puts.items c.args.takes.now.items c.loop-to.takes.items) (sym at.0) c.loop-to.invariant in
    let pair = pair_next c.in-Some.to c.args.from c.args.row.now c.args.puts.items c.args.takes.now.items c.loop-to.takes.items c.in-Some.put c.requires was at.1 in
    let old = c.index_mut-in-loop-to.result.now in
    let taken = taken_read c.loop-to.takes.items c.in-Some.to c.args.from c.index_mut.result.now old pair.1.0 pair.1.1 c.index_mut.ensures.value c.index_mut-in-loop-to.ensures.value in
    let row = with_item c.index_mut.result.now c.args.from c.settle.new.pass in
    let more : c.in-Some.to + 1 ≡ length (c.loop-to.yielded ++ (c.in-Some.to, c.in-Some.put) ∷ []) = ap (λ k. k + 1) at.0 ∙ sym (length-append c.loop-to.yielded ((c.in-Some.to, c.in-Some.put) ∷ [])) in
    subst (λ k. IsRowSettled k c.args.from c.args.puts.items c.args.takes.now.items (set c.loop-to.takes.items c.in-Some.to row)) more
    (row_goes_on c.in-Some.to c.args.from c.args.puts.items c.args.takes.now.items c.loop-to.takes.items _ c.index_mut.result.now row c.in-Some.put pair.1.0 c.settle.new.pass
    was at.1 pair.1.1
    (c.settle.ensures.known ∙ ap (λ t. with_put t c.in-Some.put) taken)
    (subst (λ (t : Takings). IsPrefix t.messages c.in-Some.put.messages) taken c.settle.ensures.settled)
    (ap (λ (r : Vec Takings Global). set r.items c.args.from c.settle.new.pass) c.index_mut.ensures.value)
    refl)
