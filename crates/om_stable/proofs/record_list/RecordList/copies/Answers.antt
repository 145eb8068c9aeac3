use Rattle.std.proofs.Common.{◌≡◌, ◌≤◌, ◌+◌, ◌-◌, ◌∙◌, ℕ, List, IfOk, ap, drop, length, take, sym, subst, arith, rules}
use Rattle.std.proofs.lemmas.List.{length-drop}
use Rattle.om_stable.specs.Content.{bytes_of}
use Rattle.om_stable.specs.steps.Pieces.{pieces, total}
use Rattle.om_stable.proofs.PieceLemmas.{count_left, left_within, pieces_dropped, rest_from, total-parts}
use Rattle.om_stable.proofs.record_list.RecordList.copies.Goals as goal

pub begin_of-begin-requires-clause-count : goal.begin_of-begin-requires-clause-count
begin_of-begin-requires-clause-count c =
    let room : c.self.inside.gone + (c.args.from + c.args.count) ≤ length c.self.inside.lens.items = count_left c.self.inside.lens.items c.self.inside.bytes.items c.self.inside.gone c.self.inside.past (c.args.from + c.args.count) c.args.self.now c.self.view_is c.requires c.self.invariant.0 in
    search rules

pub offset_bounds-lens-from : goal.offset_bounds-lens-from
offset_bounds-lens-from c =
    let room : c.self.inside.gone + (c.args.from + c.args.count) ≤ length c.self.inside.lens.items = count_left c.self.inside.lens.items c.self.inside.bytes.items c.self.inside.gone c.self.inside.past (c.args.from + c.args.count) c.args.self.now c.self.view_is c.requires c.self.invariant.0 in
    search rules

pub slice_bounds-copies_of-count : goal.slice_bounds-copies_of-count
slice_bounds-copies_of-count c =
    let room : c.self.inside.gone + (c.args.from + c.args.count) ≤ length c.self.inside.lens.items = count_left c.self.inside.lens.items c.self.inside.bytes.items c.self.inside.gone c.self.inside.past (c.args.from + c.args.count) c.args.self.now c.self.view_is c.requires c.self.invariant.0 in
    search rules

pub slice_bounds-copies_of-start : goal.slice_bounds-copies_of-start
slice_bounds-copies_of-start c =
    let room : c.self.inside.gone + (c.args.from + c.args.count) ≤ length c.self.inside.lens.items = count_left c.self.inside.lens.items c.self.inside.bytes.items c.self.inside.gone c.self.inside.past (c.args.from + c.args.count) c.args.self.now c.self.view_is c.requires c.self.invariant.0 in
    search rules

pub slice_bounds-copies_of-count-2 : goal.slice_bounds-copies_of-count-2
slice_bounds-copies_of-count-2 c =
    let lens = rest_from c.deref.result.now c.self.inside.lens.items c.self.inside.gone c.deref.ensures.value in
    let counted : c.begin_of-begin.result ≡ total (take c.args.from (drop c.self.inside.gone c.self.inside.lens.items)) = c.begin_of-begin.ensures ∙ ap (λ ls. total (take c.args.from ls)) lens in
    let parts = total-parts (drop c.self.inside.gone c.self.inside.lens.items) c.args.from in
    let within = left_within c.self.inside.lens.items c.self.inside.bytes.items c.self.inside.gone c.self.inside.past c.self.invariant.1 in
    let bytes = ap length (rest_from c.deref-2.result.now c.self.inside.bytes.items c.self.inside.past c.deref-2.ensures.value) in
    omega (arith, counted, parts, within, bytes)

pub slice_bounds-copies_of-start-2 : goal.slice_bounds-copies_of-start-2
slice_bounds-copies_of-start-2 c =
    let lens = rest_from c.deref.result.now c.self.inside.lens.items c.self.inside.gone c.deref.ensures.value in
    let counted : c.begin_of-begin.result ≡ total (take c.args.from (drop c.self.inside.gone c.self.inside.lens.items)) = c.begin_of-begin.ensures ∙ ap (λ ls. total (take c.args.from ls)) lens in
    let parts = total-parts (drop c.self.inside.gone c.self.inside.lens.items) c.args.from in
    let within = left_within c.self.inside.lens.items c.self.inside.bytes.items c.self.inside.gone c.self.inside.past c.self.invariant.1 in
    let bytes = ap length (rest_from c.deref-2.result.now c.self.inside.bytes.items c.self.inside.past c.deref-2.ensures.value) in
    let room : c.begin_of-begin.result ≤ length (take (length c.deref-2.result.now - c.self.inside.past) (drop c.self.inside.past c.deref-2.result.now)) = omega (arith, counted, parts, within, bytes) in
    search rules

pub copies_of-requires-clause-count : goal.copies_of-requires-clause-count
copies_of-requires-clause-count c =
    let room : c.self.inside.gone + (c.args.from + c.args.count) ≤ length c.self.inside.lens.items = count_left c.self.inside.lens.items c.self.inside.bytes.items c.self.inside.gone c.self.inside.past (c.args.from + c.args.count) c.args.self.now c.self.view_is c.requires c.self.invariant.0 in
    let lens = rest_from c.deref.result.now c.self.inside.lens.items c.self.inside.gone c.deref.ensures.value in
    let behind = ap length (rest_from _ (drop c.self.inside.gone c.self.inside.lens.items) c.args.from lens) in
    omega (arith, room, behind, length-drop c.args.from (drop c.self.inside.gone c.self.inside.lens.items), length-drop c.self.inside.gone c.self.inside.lens.items)

pub copies_of-requires-clause-within : goal.copies_of-requires-clause-within
copies_of-requires-clause-within c =
    let lens = rest_from c.deref.result.now c.self.inside.lens.items c.self.inside.gone c.deref.ensures.value in
    let bytes = rest_from c.deref-2.result.now c.self.inside.bytes.items c.self.inside.past c.deref-2.ensures.value in
    let counted : c.begin_of-begin.result ≡ total (take c.args.from (drop c.self.inside.gone c.self.inside.lens.items)) = c.begin_of-begin.ensures ∙ ap (λ ls. total (take c.args.from ls)) lens in
    let parts = total-parts (drop c.self.inside.gone c.self.inside.lens.items) c.args.from in
    let within = left_within c.self.inside.lens.items c.self.inside.bytes.items c.self.inside.gone c.self.inside.past c.self.invariant.1 in
    let first = ap total (rest_from _ (drop c.self.inside.gone c.self.inside.lens.items) c.args.from lens) in
    let second = ap length (rest_from _ (drop c.self.inside.past c.self.inside.bytes.items) c.begin_of-begin.result bytes) in
    omega (arith, counted, parts, within, first, second, length-drop c.begin_of-begin.result (drop c.self.inside.past c.self.inside.bytes.items))

pub returns : goal.returns
returns c =
    let front : List ℕ = drop c.self.inside.gone c.self.inside.lens.items in
    let held : List ℕ = drop c.self.inside.past c.self.inside.bytes.items in
    let all : List ℕ = take (length c.deref-2.result.now - c.self.inside.past) (drop c.self.inside.past c.deref-2.result.now) in
    let lens = rest_from c.deref.result.now c.self.inside.lens.items c.self.inside.gone c.deref.ensures.value in
    let bytes = rest_from c.deref-2.result.now c.self.inside.bytes.items c.self.inside.past c.deref-2.ensures.value in
    let counted : c.begin_of-begin.result ≡ total (take c.args.from front) = c.begin_of-begin.ensures ∙ ap (λ ls. total (take c.args.from ls)) lens in
    subst (λ ps. IfOk c.copies_of.result (λ found. bytes_of found.items ≡ take c.args.count ps))
    (ap (λ ls. pieces ls (take (length all - c.begin_of-begin.result) (drop c.begin_of-begin.result all))) (rest_from _ front c.args.from lens)
    ∙ ap (pieces (drop c.args.from front)) (rest_from _ held c.begin_of-begin.result bytes ∙ ap (λ n. drop n held) counted)
    ∙ sym (pieces_dropped front held c.args.from) ∙ ap (drop c.args.from) c.self.view_is)
    c.copies_of.ensures
