use Rattle.std.proofs.Common.{refl}
use Rattle.om_picture.proofs.picture.Picture.column.Goals as goal

pub returns : goal.returns
returns c = (
  refl,
  record {
    first = refl;
    here = c.add-x.ensures.x;
    there = c.add-x.ensures.there;
    behind = c.add-x.ensures.behind;
    column = c.add-x.ensures.column;
    inside = c.add-x.ensures.inside;
    room = c.add-x.ensures.room;
  },
)
