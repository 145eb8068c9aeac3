use Rattle.std.proofs.Common.{◌≡◌}
use Rattle.std.specs.Prelude.{slice_index}
use Rattle.om_world.specs.Changes.{messages_behind}
use Rattle.om_world.proofs.frames.frames_behind.Given as goal

abbrev pub invariant-loop-to : goal.invariant-loop-to
invariant-loop-to l = l.frames.items ≡ messages_behind l.core (λ to. slice_index l.few to) l.to
