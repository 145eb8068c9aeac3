use Rattle.std.proofs.Common.{◌≡◌, ◌∙◌, ℕ, ◌<◌, List, Option, None, Some, refl, arith, length, slice_index, nat_le, min}
use Rattle.om_recover.specs.steps.Bases.{newest_part}
use Rattle.om_recover.specs.declared.rows.trees.Base.{Base}
use Rattle.om_recover.specs.declared.rows.trees.Newest.{Newest}
use Rattle.om_recover.proofs.BaseStepLemmas.{newest_start, newest_step, newest_ends}
use Rattle.om_recover.proofs.rows.cutting.cut_newest.Goals as goal

-- what becomes of one is a matter of its own place of the vector
at_own_place : (vector : List ℕ) (p : ℕ) (slot : Option Newest) → newest_part (λ (place : ℕ × ℕ). nat_le place.1 (slice_index vector p)) (λ (_ : ℕ × ℕ) (base : Base). record base { last = min base.last (slice_index vector p) }) p slot
    ≡ newest_part (λ (place : ℕ × ℕ). nat_le place.1 (slice_index vector place.0)) (λ (place : ℕ × ℕ) (base : Base). record base { last = min base.last (slice_index vector place.0) }) p slot
at_own_place vector p None = refl
at_own_place vector p (Some newest) = refl

pub loop-p-init : goal.loop-p-init
loop-p-init c = record { part = newest_start _ _ c.args.newest.now.items; count = omega (arith, c.len-p-end.ensures) }

pub loop-p-preserved : goal.loop-p-preserved
loop-p-preserved c =
    let within : c.loop-p.p < length c.loop-p.newest.items = omega (arith, c.loop-p.invariant.count, c.loop-p-test.true) in
    let changed = rw c.number_or_zero.ensures at (c.cut_slot.ensures c.loop-p.p) in
    record {
      part = newest_step (λ (place : ℕ × ℕ). nat_le place.1 (slice_index c.args.state.now place.0)) (λ (place : ℕ × ℕ) (base : Base). record base { last = min base.last (slice_index c.args.state.now place.0) }) c.args.newest.now.items c.loop-p.newest.items c.loop-p.p c.index_mut.result.now c.cut_slot.new.slot within c.index_mut.ensures.value
          (changed ∙ at_own_place c.args.state.now c.loop-p.p c.index_mut.result.now) c.loop-p.invariant.part;
      count = c.loop-p.invariant.count;
    }

pub returns : goal.returns
returns c = newest_ends _ _ _ c.args.newest.now.items c.loop-p.newest.items (omega (arith, c.loop-p.invariant.count, c.loop-p-test.false)) c.loop-p.invariant.part
