use Rattle.std.proofs.Common.{◌≡◌, ◌≤◌, ◌<◌, ◌+◌, ◌++◌, ◌∷◌, [], ◌∙◌, ap, drop, get_or, length, length-take-le, take, sym, subst, arith, rules, ℕ, Vec}
use Rattle.std.specs.declared.alloc.Global.{Global}
use Rattle.std.proofs.lemmas.List.{get_or-take, map-append}
use Rattle.om_stable.specs.Content.{bytes_of}
use Rattle.om_stable.specs.steps.Pieces.{pieces, total}
use Rattle.om_stable.proofs.PieceLemmas.{copied_more, next_within, passed_more, rest_from}
use Rattle.om_stable.proofs.record_list.copies_of.Goals as goal

pub slice_bounds-from_slice-end : goal.slice_bounds-from_slice-end
slice_bounds-from_slice-end c =
    let long = length-take-le c.args.count c.args.lens.now c.requires.count in
    let less : c.loop-len.len-index < c.args.count = omega (arith, long) in
    let here = get_or-take c.args.count c.args.lens.now c.loop-len.len-index 0 less in
    let room = next_within c.args.lens.now c.args.bytes.now c.loop-len.len-index (omega (arith, less, c.requires.count)) c.requires.within in
    let rest = ap length c.loop-len.invariant.passed in
    let within : get_or (take c.args.count c.args.lens.now) c.loop-len.len-index 0 ≤ length c.loop-len.rest.now = omega (arith, here, room, rest) in
    sym (length-take-le _ c.loop-len.rest.now within)

pub slice_bounds-rest-count : goal.slice_bounds-rest-count
slice_bounds-rest-count c =
    let long = length-take-le c.args.count c.args.lens.now c.requires.count in
    let less : c.loop-len.len-index < c.args.count = omega (arith, long) in
    let here = get_or-take c.args.count c.args.lens.now c.loop-len.len-index 0 less in
    let room = next_within c.args.lens.now c.args.bytes.now c.loop-len.len-index (omega (arith, less, c.requires.count)) c.requires.within in
    let rest = ap length c.loop-len.invariant.passed in
    omega (arith, here, room, rest)

pub slice_bounds-rest-start : goal.slice_bounds-rest-start
slice_bounds-rest-start c =
    let long = length-take-le c.args.count c.args.lens.now c.requires.count in
    let less : c.loop-len.len-index < c.args.count = omega (arith, long) in
    let here = get_or-take c.args.count c.args.lens.now c.loop-len.len-index 0 less in
    let room = next_within c.args.lens.now c.args.bytes.now c.loop-len.len-index (omega (arith, less, c.requires.count)) c.requires.within in
    let rest = ap length c.loop-len.invariant.passed in
    let within : get_or (take c.args.count c.args.lens.now) c.loop-len.len-index 0 ≤ length c.loop-len.rest.now = omega (arith, here, room, rest) in
    search rules

pub loop-len-preserved : goal.loop-len-preserved
loop-len-preserved c =
    let lens = c.args.lens.now in
    let k = c.loop-len.len-index in
    let long = length-take-le c.args.count lens c.requires.count in
    let less : k < c.args.count = omega (arith, long) in
    let inside : k < length lens = omega (arith, less, c.requires.count) in
    let here : get_or (take c.args.count lens) k 0 ≡ get_or lens k 0 = get_or-take c.args.count lens k 0 less in
    let piece : c.in_ok-from_slice.field-0.items ≡ take (get_or lens k 0) (drop (total (take k lens)) c.args.bytes.now) =
    c.in_ok-from_slice.ensures.items ∙ ap (λ n. take n c.loop-len.rest.now) here ∙ ap (take (get_or lens k 0)) c.loop-len.invariant.passed in
    record {
      copied = ap bytes_of c.in_ok-push.ensures.items ∙ map-append (λ (r : Vec ℕ Global). r.items) c.loop-len.found.items _
          ∙ ap (λ bs. bs ++ c.in_ok-from_slice.field-0.items ∷ []) c.loop-len.invariant.copied
          ∙ ap (λ b. take k (pieces lens c.args.bytes.now) ++ b ∷ []) piece ∙ copied_more lens c.args.bytes.now k inside;
      passed = rest_from c.loop-len.rest.now (drop (total (take k lens)) c.args.bytes.now) (get_or (take c.args.count lens) k 0) c.loop-len.invariant.passed
          ∙ ap (λ n. drop n (drop (total (take k lens)) c.args.bytes.now)) here ∙ passed_more lens c.args.bytes.now k inside;
    }
