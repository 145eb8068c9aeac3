use Rattle.std.proofs.Common.{◌≡◌, map, take}
use Rattle.om_manager.specs.Outputs.{held_of}
use Rattle.om_world.proofs.stopping.copies_of.Given as goal

abbrev pub invariant-loop-output : goal.invariant-loop-output
invariant-loop-output l = record {
  held : map held_of l.copies.items ≡ map held_of (take l.output-index l.outputs);
  numbers : map (λ o. o.seq) l.copies.items ≡ map (λ o. o.seq) (take l.output-index l.outputs);
}
