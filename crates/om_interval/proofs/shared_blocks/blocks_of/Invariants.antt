use Rattle.std.proofs.Common.{◌≡◌, take, length, vec_len, vec_capacity}
use Rattle.om_interval.specs.steps.Lines.{blocks_in}
use Rattle.om_interval.proofs.shared_blocks.blocks_of.Given as goal

abbrev pub invariant-loop-block : goal.invariant-loop-block
invariant-loop-block l =
    (blocks_in l.copy.items ≡ blocks_in (take l.block-index l.block-items))
    × (vec_len l.copy ≡ l.block-index) × (vec_capacity l.copy ≡ length l.block-items)
