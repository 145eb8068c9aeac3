use Rattle.std.proofs.Common.{Bool, ap, sym, if◌then◌else◌}
use Rattle.om_picture.specs.Drawing.{sketch_of}
use Rattle.om_picture.specs.Places.{is_shown}
use Rattle.om_picture.proofs.PlaceLemmas.{placed_here, placed_if, placed_off}
use Rattle.om_picture.proofs.picture.Picture.next_place.Goals as goal

pub returns-then-not-self : goal.returns-then-not-self
returns-then-not-self c = placed_off _ (sketch_of c.args.self.now) c.if-not-self.true c.args.self.now.columns.inside

pub returns-in-Nothing : goal.returns-in-Nothing
returns-in-Nothing c =
    placed_here _ (sketch_of c.args.self.now) _ (ap is_shown c.in-Nothing.is)
    (sym (ap (λ (b : Bool). if b then c.args.self.now.columns.x else 0) c.if-not-self.false)) c.args.self.now.columns.there
    c.args.self.now.columns.inside

pub returns-in-Refused : goal.returns-in-Refused
returns-in-Refused c =
    placed_if c.why_column.result _ (sketch_of c.args.self.now) (sketch_of c.why_column.new.self) c.if-not-self.false c.why_column.ensures

pub returns-in_default : goal.returns-in_default
returns-in_default c =
    placed_if c.column.result _ (sketch_of c.args.self.now) (sketch_of c.column.new.self) c.if-not-self.false c.column.ensures
