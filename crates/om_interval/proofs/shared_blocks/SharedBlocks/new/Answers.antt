use Rattle.std.proofs.Common.{◌∙◌, ◌++◌, ◌∷◌, [], ap}
use Rattle.om_interval.proofs.LineLemmas.{new_line}
use Rattle.om_interval.proofs.shared_blocks.SharedBlocks.new.Goals as goal

pub invariant_of-result : goal.invariant_of-result
invariant_of-result c = (new_line c.new.result.items c.push_reserved.new.self.items c.new.ensures.items (c.push_reserved.ensures.items ∙ ap (λ xs. xs ++ 0 ∷ []) c.in_ok-own.ensures.items)).0

pub returns : goal.returns
returns c = (new_line c.new.result.items c.push_reserved.new.self.items c.new.ensures.items (c.push_reserved.ensures.items ∙ ap (λ xs. xs ++ 0 ∷ []) c.in_ok-own.ensures.items)).1
