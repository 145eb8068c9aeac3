use Rattle.std.proofs.Common.{◌≡◌, ◌∙◌, ◌+◌, ◌++◌, [], ◌∷◌, ap, arith, length, rules, subst, sym}
use Rattle.std.specs.Prelude.{slice_index, vec_len}
use Rattle.om_board.specs.Boards.{BoardState}
use Rattle.om_report.specs.Released.{AreAllMade, AreAllReleased, AreReleased}
use Rattle.om_report.specs.Harvests.{HarvestState}
use Rattle.om_report.proofs.HarvestLemmas.{made_grown, own_later, own_next, released_grown, moved}
use Rattle.om_report.proofs.harvest.all_met.Goals as goal

pub loop-harvest-preserved : goal.loop-harvest-preserved
loop-harvest-preserved g c =
    let was = c.loop-harvest.invariant in
    let next = c.in-Some.ensures.steps.0 in
    let all = c.loop-harvest.all.items in
    let h = c.in-Some.harvest in
    let outputs = c.met.result in
    let items = c.push_reserved.ensures.items in
    let recovery = c.args.board.now.manager.recovery in
    let programs = g.K.Naming.programs in
    let n = g.K.Naming.cell.n in
    let own : h.own ≡ vec_len c.loop-harvest.all = own_next _ _ h _ next was.own in
    let here : h.own ≡ length all = (let ok = c.loop-harvest.all.ok in omega arith) in
    let grown : vec_len c.push_reserved.new.self ≡ vec_len c.loop-harvest.all + 1 = search rules in
    let one = subst (λ (b : BoardState). AreReleased (slice_index b.manager.recovery h.own) outputs.items) was.board c.met.ensures.released in
    record {
      many = search rules;
      room = search rules;
      board = c.met.ensures.same ∙ was.board;
      outputs = moved (λ (x : HarvestState). x.outputs) _ _ _ _ _ _ next (items ∙ ap (λ o. all ++ o ∷ []) c.met.ensures.outputs) was.outputs;
      own = λ k x at. subst (λ d. x.own ≡ d + k) (sym grown) (own_later _ _ h _ next was.own k x at);
      released = subst (AreAllReleased recovery) (sym items) (released_grown recovery all outputs h.own here was.released one);
      made = λ clean. subst (AreAllMade programs n) (sym items) (made_grown programs n all outputs h.own here (was.made clean) (c.met.ensures.made clean));
    }
