use Rattle.std.proofs.Common.{◌≡◌, ◌≤◌, ◌+◌, ◌∙◌, ap, drop, length, take, arith, rules}
use Rattle.om_stable.specs.steps.Pieces.{pieces, total}
use Rattle.om_stable.proofs.PieceLemmas.{count_left, front_dropped, rest_from, total-parts, view_dropped}
use Rattle.om_stable.proofs.record_list.RecordList.drop_front.Goals as goal

pub begin_of-size-requires-clause-count : goal.begin_of-size-requires-clause-count
begin_of-size-requires-clause-count c =
    let room : c.self.inside.gone + c.args.count ≤ length c.self.inside.lens.items = count_left c.self.inside.lens.items c.self.inside.bytes.items c.self.inside.gone c.self.inside.past c.args.count c.args.self.now c.self.view_is c.requires c.self.invariant.0 in
    search rules

pub overflow_add-self : goal.overflow_add-self
overflow_add-self c =
    let lens = rest_from c.deref.result.now c.self.inside.lens.items c.self.inside.gone c.deref.ensures.value in
    let counted : c.begin_of-size.result ≡ total (take c.args.count (drop c.self.inside.gone c.self.inside.lens.items)) = c.begin_of-size.ensures ∙ ap (λ ls. total (take c.args.count ls)) lens in
    let parts = total-parts (drop c.self.inside.gone c.self.inside.lens.items) c.args.count in
    let room : c.self.inside.past + c.begin_of-size.result ≤ length c.self.inside.bytes.items = omega (arith, counted, parts, c.self.invariant.1) in
    search rules

pub overflow_add-self-2 : goal.overflow_add-self-2
overflow_add-self-2 c =
    let room : c.self.inside.gone + c.args.count ≤ length c.self.inside.lens.items = count_left c.self.inside.lens.items c.self.inside.bytes.items c.self.inside.gone c.self.inside.past c.args.count c.args.self.now c.self.view_is c.requires c.self.invariant.0 in
    search rules

pub overflow_sub-len : goal.overflow_sub-len
overflow_sub-len c =
    let room : c.self.inside.gone + c.args.count ≤ length c.self.inside.lens.items = count_left c.self.inside.lens.items c.self.inside.bytes.items c.self.inside.gone c.self.inside.past c.args.count c.args.self.now c.self.view_is c.requires c.self.invariant.0 in
    search rules

pub invariant_of-self : goal.invariant_of-self
invariant_of-self c =
    let lens = rest_from c.deref.result.now c.self.inside.lens.items c.self.inside.gone c.deref.ensures.value in
    let counted : c.begin_of-size.result ≡ total (take c.args.count (drop c.self.inside.gone c.self.inside.lens.items)) = c.begin_of-size.ensures ∙ ap (λ ls. total (take c.args.count ls)) lens in (
      count_left c.self.inside.lens.items c.self.inside.bytes.items c.self.inside.gone c.self.inside.past c.args.count c.args.self.now c.self.view_is c.requires c.self.invariant.0,
      front_dropped c.self.inside.lens.items c.self.inside.bytes.items c.self.inside.gone c.self.inside.past c.args.count c.begin_of-size.result c.self.invariant.1 counted,
    )

pub invariant_of-self-else-self-len : goal.invariant_of-self-else-self-len
invariant_of-self-else-self-len c =
    let lens = rest_from c.deref.result.now c.self.inside.lens.items c.self.inside.gone c.deref.ensures.value in
    let counted : c.begin_of-size.result ≡ total (take c.args.count (drop c.self.inside.gone c.self.inside.lens.items)) = c.begin_of-size.ensures ∙ ap (λ ls. total (take c.args.count ls)) lens in (
      count_left c.self.inside.lens.items c.self.inside.bytes.items c.self.inside.gone c.self.inside.past c.args.count c.args.self.now c.self.view_is c.requires c.self.invariant.0,
      front_dropped c.self.inside.lens.items c.self.inside.bytes.items c.self.inside.gone c.self.inside.past c.args.count c.begin_of-size.result c.self.invariant.1 counted,
    )

pub returns-then-self-len : goal.returns-then-self-len
returns-then-self-len c =
    let lens = rest_from c.deref.result.now c.self.inside.lens.items c.self.inside.gone c.deref.ensures.value in
    let counted : c.begin_of-size.result ≡ total (take c.args.count (drop c.self.inside.gone c.self.inside.lens.items)) = c.begin_of-size.ensures ∙ ap (λ ls. total (take c.args.count ls)) lens in
    c.move_to_front.ensures
    ∙ view_dropped c.self.inside.lens.items c.self.inside.bytes.items c.self.inside.gone c.self.inside.past c.args.count c.begin_of-size.result c.args.self.now c.self.view_is counted

pub returns-else-self-len : goal.returns-else-self-len
returns-else-self-len c =
    let lens = rest_from c.deref.result.now c.self.inside.lens.items c.self.inside.gone c.deref.ensures.value in
    let counted : c.begin_of-size.result ≡ total (take c.args.count (drop c.self.inside.gone c.self.inside.lens.items)) = c.begin_of-size.ensures ∙ ap (λ ls. total (take c.args.count ls)) lens in
    view_dropped c.self.inside.lens.items c.self.inside.bytes.items c.self.inside.gone c.self.inside.past c.args.count c.begin_of-size.result c.args.self.now c.self.view_is counted
