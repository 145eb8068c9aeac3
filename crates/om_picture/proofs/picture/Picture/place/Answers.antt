use Rattle.om_picture.specs.Drawing.{sketch_of}
use Rattle.std.proofs.Common.{false, refl}
use Rattle.om_picture.proofs.PlaceLemmas.{placed_here, placed_none, placed_own}
use Rattle.om_picture.proofs.picture.Picture.place.Goals as goal

pub returns-in-Some : goal.returns-in-Some
returns-in-Some c =
    placed_own c.place_of_own.result (sketch_of c.args.self.now) (sketch_of c.place_of_own.new.self) c.args.step.now _ c.in-Some.ensures
    c.place_of_own.ensures.x c.place_of_own.ensures.lane

pub returns-in-None : goal.returns-in-None
returns-in-None c =
    placed_none (sketch_of c.args.self.now) c.args.step.now _ c.in-None.ensures
    (placed_here false (sketch_of c.args.self.now) _ refl c.here.ensures c.args.self.now.columns.there c.args.self.now.columns.inside)
