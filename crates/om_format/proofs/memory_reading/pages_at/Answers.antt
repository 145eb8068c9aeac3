use Rattle.std.proofs.Common.{◌≡◌, ℕ, ◌++◌, ◌*◌, ◌-◌, replicate, take, length, vec_len, List, ap, ◌∙◌, arith, rules}
use Rattle.std.proofs.lemmas.Result.{err_from_is_err_and}
use Rattle.std.proofs.lemmas.List.{length-append, length-replicate}
use Rattle.om_pages.specs.declared.pages.TheConstants.{PAGE}
use Rattle.om_format.proofs.Loops.{next_front, last_front, pages_go_on, pages_end, pages_done}
use Rattle.om_format.proofs.memory_reading.pages_at.Goals as goal

pub returns-in_err-index-clause-exact : goal.returns-in_err-index-clause-exact
returns-in_err-index-clause-exact c =
    let p = err_from_is_err_and c.from_residual-in_err-index.result c.from_residual-in_err-index.ensures.1 in
    rw (p.1, p.2) (λ other. pages_end c.args.size c.args.count _ c.in_err-index.field-0.0 c.loop.value.items c.loop.counter c.loop.low c.loop.offset c.loop.rest.now c.loop-test.true c.in_err-index.ensures.exact.0 c.loop.invariant.read)

pub loop-preserved : goal.loop-preserved
loop-preserved c =
    let index = c.in_ok-index.index in
    let page = c.in_ok-index.page.now in
    let value = c.loop.value.items in
    let gap = (index - c.loop.low) * PAGE in
    let len : vec_len c.loop.value ≡ length value = search rules in
    let zeros : c.resize.new.self.items ≡ value ++ replicate gap 0 = c.in_ok-resize.ensures.items ∙ ap (λ (n : ℕ). take (index * PAGE) value ++ replicate (index * PAGE - n) 0) len ∙ next_front value c.args.size c.loop.low index c.loop.invariant.so_far c.in_ok-index.ensures.above c.in_ok-index.ensures.below in
    let new : c.extend_from_slice.new.self.items ≡ (value ++ replicate gap 0) ++ page = c.in_ok-extend_from_slice.ensures.items ∙ ap (λ (xs : List ℕ). xs ++ page) zeros in
    record {
      left = omega (arith, c.in_ok-index.ensures.left, c.loop.invariant.left);
      low = omega (arith, c.in_ok-index.ensures.below);
      so_far = rw new (omega (arith, length-append (value ++ replicate gap 0) page, length-append value (replicate gap 0), length-replicate {A = ℕ} gap 0, c.in_ok-index.ensures.whole, c.in_ok-index.ensures.below, c.in_ok-index.ensures.above, c.loop.invariant.so_far));
      read = rw new (pages_go_on c.args.size c.args.count _ value c.loop.counter c.loop.low c.loop.offset c.loop.rest.now (record { index = index; bytes = page }) c.in_ok-index.after.now c.loop-test.true c.in_ok-index.ensures.exact c.loop.invariant.read);
    }

pub returns-clause-exact : goal.returns-clause-exact
returns-clause-exact c =
    let value = c.loop.value.items in
    let len : vec_len c.loop.value ≡ length value = search rules in
    let zeros : c.resize-2.new.self.items ≡ value ++ replicate (c.args.size - c.loop.low * PAGE) 0 = c.in_ok-resize-2.ensures.items ∙ ap (λ (n : ℕ). take c.args.size value ++ replicate (c.args.size - n) 0) len ∙ last_front value c.args.size c.loop.low c.loop.invariant.so_far in
    rw zeros (pages_done c.args.size c.args.count _ value c.loop.counter c.loop.low c.loop.offset c.loop.rest.now c.loop-test.false c.loop.invariant.read)
