use Rattle.std.proofs.Common.{slice_index, string_bytes}
use Rattle.om_commands.specs.steps.Lines.{register_line}
use Rattle.om_commands.proofs.TextLemmas.{text_grows}
use Rattle.om_commands.proofs.state_text.push_registers.Goals as goal

pub loop-r-preserved : goal.loop-r-preserved
loop-r-preserved c =
    text_grows (λ r. register_line r (slice_index c.args.regs.now r)) c.loop-r.r (string_bytes c.args.text.now)
    (string_bytes c.loop-r.text) (string_bytes c.push_register.new.text) c.loop-r.invariant c.in_ok-push_register.ensures
