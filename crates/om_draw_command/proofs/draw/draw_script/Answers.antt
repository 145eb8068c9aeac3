use Rattle.std.proofs.Common.{string_bytes}
use Rattle.om_draw_command.proofs.DrawLemmas.{is_picture_of}
use Rattle.om_draw_command.proofs.draw.draw_script.Goals as goal

pub returns-clause-text : goal.returns-clause-text
returns-clause-text c =
    is_picture_of c.args.script.now c.programs-programs.result.now c.args.lines.now c.args.from c.args.count c.in_ok-world.world
    (string_bytes c.in_ok-played_picture.field-0) c.programs-programs.ensures c.in_ok-world.ensures.begun c.in_ok-played_picture.ensures
