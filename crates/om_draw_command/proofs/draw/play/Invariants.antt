use Rattle.std.proofs.Common.{ℕ, [], take}
use Rattle.om_world.specs.World.{IsKnown}
use Rattle.om_picture.specs.Drawing.{IsSketchOf, sketch_of}
use Rattle.om_draw_command.specs.steps.Playing.{AreDrawn}
use Rattle.om_draw_command.proofs.draw.play.Given as goal

abbrev pub invariant-loop-k : goal.invariant-loop-k
invariant-loop-k l = record {
  drawn : (n first : ℕ) → IsSketchOf n first [] (sketch_of l.fn.picture)
      → AreDrawn l.lines (take l.k l.events) n first l.fn.world l.world (sketch_of l.picture);
  known : IsKnown l.world;
}
