use Rattle.std.proofs.Common.{◌≡◌, ◌≤◌, ◌<◌, ◌+◌, ◌∙◌, ap, drop, get_or, length, length-take-le, take, sym, subst, arith, rules}
use Rattle.std.proofs.lemmas.List.{get_or-take, length-drop, take-take}
use Rattle.om_stable.specs.steps.Pieces.{total}
use Rattle.om_stable.proofs.PieceLemmas.{next_within, passed_more, rest_from, total-parts}
use Rattle.om_stable.proofs.record_list.begin_of.Goals as goal

pub slice_bounds-rest-count : goal.slice_bounds-rest-count
slice_bounds-rest-count c =
    let long = length-take-le c.args.count c.args.lens.now c.requires.count in
    let less : c.loop-len.len-index < c.args.count = omega (arith, long) in
    let here = get_or-take c.args.count c.args.lens.now c.loop-len.len-index 0 less in
    let room = next_within c.args.lens.now c.args.bytes.now c.loop-len.len-index (omega (arith, less, c.requires.count)) c.requires.within in
    let rest = ap length c.loop-len.invariant in
    omega (arith, here, room, rest)

pub slice_bounds-rest-start : goal.slice_bounds-rest-start
slice_bounds-rest-start c =
    let long = length-take-le c.args.count c.args.lens.now c.requires.count in
    let less : c.loop-len.len-index < c.args.count = omega (arith, long) in
    let here = get_or-take c.args.count c.args.lens.now c.loop-len.len-index 0 less in
    let room = next_within c.args.lens.now c.args.bytes.now c.loop-len.len-index (omega (arith, less, c.requires.count)) c.requires.within in
    let rest = ap length c.loop-len.invariant in
    let within : get_or (take c.args.count c.args.lens.now) c.loop-len.len-index 0 ≤ length c.loop-len.rest.now = omega (arith, here, room, rest) in
    search rules

pub loop-len-preserved : goal.loop-len-preserved
loop-len-preserved c =
    let long = length-take-le c.args.count c.args.lens.now c.requires.count in
    let less : c.loop-len.len-index < c.args.count = omega (arith, long) in
    let here = get_or-take c.args.count c.args.lens.now c.loop-len.len-index 0 less in
    rest_from c.loop-len.rest.now (drop (total (take c.loop-len.len-index c.args.lens.now)) c.args.bytes.now) (get_or (take c.args.count c.args.lens.now) c.loop-len.len-index 0) c.loop-len.invariant
    ∙ ap (λ n. drop n (drop (total (take c.loop-len.len-index c.args.lens.now)) c.args.bytes.now)) here
    ∙ passed_more c.args.lens.now c.args.bytes.now c.loop-len.len-index (omega (arith, less, c.requires.count))

pub returns : goal.returns
returns c =
    let long = length-take-le c.args.count c.args.lens.now c.requires.count in
    let all : c.loop-len.len-index ≡ c.args.count = omega (arith, long) in
    let rest : length c.loop-len.rest.now ≡ length (drop (total (take c.args.count c.args.lens.now)) c.args.bytes.now) =
    ap length c.loop-len.invariant ∙ ap (λ k. length (drop (total (take k c.args.lens.now)) c.args.bytes.now)) all in
    let parts = total-parts c.args.lens.now c.args.count in
    omega (arith, rest, parts, c.requires.within, length-drop (total (take c.args.count c.args.lens.now)) c.args.bytes.now)
