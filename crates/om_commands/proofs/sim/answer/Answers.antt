use Rattle.std.proofs.Common.{string_bytes}
use Rattle.om_commands.proofs.SimLemmas.{is_answer}
use Rattle.om_commands.proofs.sim.answer.Goals as goal

pub returns-clause-text : goal.returns-clause-text
returns-clause-text c =
    is_answer c.args.form c.args.script.now c.programs-programs.result.now c.in_ok-world.world (string_bytes c.in_ok-told.field-0) c.programs-programs.ensures
    c.in_ok-world.ensures.begun c.in_ok-told.ensures
