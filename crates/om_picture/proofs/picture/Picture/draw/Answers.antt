use Rattle.std.proofs.Common.{◌∙◌, ap, not, sym}
use Rattle.om_picture.specs.Drawing.{sketch_of}
use Rattle.om_picture.proofs.DrawLemmas.{step_drawn}
use Rattle.om_picture.proofs.picture.Picture.draw.Goals as goal

pub draw_event-requires : goal.draw_event-requires
draw_event-requires c = c.in_ok-at.ensures.places.there ∙ ap not (sym c.in_ok-at.ensures.places.on)

pub returns : goal.returns
returns c =
    step_drawn c.end_round.result (sketch_of c.args.self.now) (sketch_of c.begin.new.self) (sketch_of c.place.new.self)
    (sketch_of c.draw_event.new.self) (sketch_of c.change-changed.new.self) (sketch_of c.keep.new.self) (sketch_of c.end_round.new.self)
    c.args.step.now c.in_ok-at.at c.in_ok-begin.ensures c.in_ok-at.ensures c.in_ok-draw_event.ensures c.change-changed.ensures
    c.in_ok-keep.ensures c.end_round.ensures
