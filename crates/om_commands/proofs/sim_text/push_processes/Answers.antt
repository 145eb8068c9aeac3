use Rattle.std.proofs.Common.{string_bytes}
use Rattle.om_commands.specs.steps.Lines.{process_line}
use Rattle.om_commands.proofs.TextLemmas.{text_grows}
use Rattle.om_commands.proofs.sim_text.push_processes.Goals as goal

pub loop-p-preserved : goal.loop-p-preserved
loop-p-preserved g c =
    text_grows (process_line c.args.programs.now c.args.world.now.cores) c.loop-p.p (string_bytes c.args.text.now)
    (string_bytes c.loop-p.text) (string_bytes c.push_process.new.text) c.loop-p.invariant c.in_ok-push_process.ensures
