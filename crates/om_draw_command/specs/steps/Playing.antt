-- What was drawn of the events that were played so far.
use Rattle.std.specs.Prelude.{ℕ, List}
use Rattle.om_world.specs.World.{WorldState}
use Rattle.om_world.specs.declared.event.Event.{Event}
use Rattle.om_picture.specs.Drawing.{IsSketchOf, Sketch}
use Rattle.om_picture.specs.Fates.{EventRow}
use Rattle.om_draw_command.specs.Draw.{ArePlayed}

-- events of these lines are played, and a picture of so many processes has their marks, from a line on
pub record AreDrawn (lines : List ℕ) (events : List Event) (n first : ℕ) (old new : WorldState) (sketch : Sketch) : Type 0 where
  pub rows : List EventRow
  pub played : ArePlayed lines events old rows new
  pub marks : IsSketchOf n first rows sketch
