use Rattle.std.proofs.Common.{string_bytes}
use Rattle.om_commands.proofs.SimLemmas.{is_played}
use Rattle.om_commands.proofs.sim.told.Goals as goal

pub returns : goal.returns
returns c =
    is_played c.args.form c.args.script.now c.programs-programs.result.now c.args.world.now c.play.new.world c.events.result.now c.n.result
    (string_bytes c.new-text.result) (string_bytes c.play.new.text) (string_bytes c.push_end.new.text) c.programs-programs.ensures c.events.ensures
    c.n.ensures.number c.new-text.ensures.bytes c.in_ok-play.ensures.told c.play.ensures.known c.in_ok-push_end.ensures
