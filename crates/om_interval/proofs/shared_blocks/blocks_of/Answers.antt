use Rattle.std.proofs.Common.{◌∙◌, ◌++◌, ◌∷◌, [], ap, sym, arith, take, Vec, ℕ, Global}
use Rattle.std.proofs.lemmas.List.{map_more}
use Rattle.std.specs.Arc.{arc_value}
use Rattle.std.specs.declared.sync.Arc.{Arc}
use Rattle.om_interval.specs.steps.Lines.{blocks_in}
use Rattle.om_interval.proofs.LineLemmas.{shared_more}
use Rattle.om_interval.proofs.shared_blocks.blocks_of.Goals as goal

pub loop-block-preserved : goal.loop-block-preserved
loop-block-preserved c =
    let items = c.deref-block-items.result.now in (
      shared_more c.loop-block.copy.items c.push_reserved.new.self.items c.in_ok-try_clone.field-0 (arc_value {X = Vec ℕ Global} c.block-item.result).items c.push_reserved.ensures.items (ap (λ v. v.items) c.in_ok-try_clone.ensures)
          ∙ ap (λ blocks. blocks ++ (arc_value {X = Vec ℕ Global} c.block-item.result).items ∷ []) c.loop-block.invariant.0
          ∙ ap (λ (b : Arc (Vec ℕ Global) Global). blocks_in (take c.loop-block.block-index items) ++ (arc_value {X = Vec ℕ Global} b).items ∷ []) c.block-item.is
          ∙ sym (map_more (λ block. (arc_value {X = Vec ℕ Global} block).items) items c.loop-block.block-index c.block-item.result (omega (arith, c.loop-block-test.true))),
      omega (arith, c.push_reserved.ensures.len, c.loop-block.invariant.1),
      omega (arith, c.push_reserved.ensures.capacity, c.loop-block.invariant.2),
    )
