use Rattle.std.proofs.Common.{◌≡◌, ◌≤◌, ◌+◌, ◌∙◌, ap, drop, length, length-take-le, take, sym, arith, rules}
use Rattle.std.proofs.lemmas.List.{length-drop}
use Rattle.om_stable.specs.steps.Pieces.{pieces, total}
use Rattle.om_stable.proofs.PieceLemmas.{count_left, front_kept, rest_from, total-parts, view_kept}
use Rattle.om_stable.proofs.record_list.RecordList.keep_front.Goals as goal

pub begin_of-end-requires-clause-count : goal.begin_of-end-requires-clause-count
begin_of-end-requires-clause-count c =
    let room : c.self.inside.gone + c.args.count ≤ length c.self.inside.lens.items = count_left c.self.inside.lens.items c.self.inside.bytes.items c.self.inside.gone c.self.inside.past c.args.count c.args.self.now c.self.view_is c.requires c.self.invariant.0 in
    search rules

pub overflow_add-self-inside : goal.overflow_add-self-inside
overflow_add-self-inside c =
    let room : c.self.inside.gone + c.args.count ≤ length c.self.inside.lens.items = count_left c.self.inside.lens.items c.self.inside.bytes.items c.self.inside.gone c.self.inside.past c.args.count c.args.self.now c.self.view_is c.requires c.self.invariant.0 in
    search rules

pub overflow_add-self-inside-2 : goal.overflow_add-self-inside-2
overflow_add-self-inside-2 c =
    let lens = rest_from c.deref.result.now c.self.inside.lens.items c.self.inside.gone c.deref.ensures.value in
    let counted : c.begin_of-end.result ≡ total (take c.args.count (drop c.self.inside.gone c.self.inside.lens.items)) = c.begin_of-end.ensures ∙ ap (λ ls. total (take c.args.count ls)) lens in
    let parts = total-parts (drop c.self.inside.gone c.self.inside.lens.items) c.args.count in
    let room : c.self.inside.past + c.begin_of-end.result ≤ length c.self.inside.bytes.items = omega (arith, counted, parts, c.self.invariant.1) in
    search rules

pub invariant_of-self : goal.invariant_of-self
invariant_of-self c =
    let lens = rest_from c.deref.result.now c.self.inside.lens.items c.self.inside.gone c.deref.ensures.value in
    let counted : c.begin_of-end.result ≡ total (take c.args.count (drop c.self.inside.gone c.self.inside.lens.items)) = c.begin_of-end.ensures ∙ ap (λ ls. total (take c.args.count ls)) lens in
    let room : c.self.inside.gone + c.args.count ≤ length c.self.inside.lens.items = count_left c.self.inside.lens.items c.self.inside.bytes.items c.self.inside.gone c.self.inside.past c.args.count c.args.self.now c.self.view_is c.requires c.self.invariant.0 in
    let kept = front_kept c.self.inside.lens.items c.self.inside.bytes.items c.self.inside.gone c.self.inside.past c.args.count c.begin_of-end.result c.self.invariant.1 counted room in
    let count = ap length c.truncate.ensures.items in
    let long = length-take-le (c.self.inside.gone + c.args.count) c.self.inside.lens.items room in (
      omega (arith, count, long),
      ap (λ ls. c.self.inside.past + total (drop c.self.inside.gone ls)) c.truncate.ensures.items ∙ kept ∙ sym (ap length c.truncate-2.ensures.items),
    )

pub returns : goal.returns
returns c =
    let lens = rest_from c.deref.result.now c.self.inside.lens.items c.self.inside.gone c.deref.ensures.value in
    let counted : c.begin_of-end.result ≡ total (take c.args.count (drop c.self.inside.gone c.self.inside.lens.items)) = c.begin_of-end.ensures ∙ ap (λ ls. total (take c.args.count ls)) lens in
    ap (λ ls. pieces (drop c.self.inside.gone ls) (drop c.self.inside.past c.truncate-2.new.self.items)) c.truncate.ensures.items
    ∙ ap (λ bs. pieces (drop c.self.inside.gone (take (c.self.inside.gone + c.args.count) c.self.inside.lens.items)) (drop c.self.inside.past bs)) c.truncate-2.ensures.items
    ∙ view_kept c.self.inside.lens.items c.self.inside.bytes.items c.self.inside.gone c.self.inside.past c.args.count c.begin_of-end.result c.args.self.now c.self.view_is counted
