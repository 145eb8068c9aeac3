use Rattle.std.proofs.Common.{◌*◌, string_bytes}
use Rattle.om_commands.specs.steps.Lines.{memory_line}
use Rattle.om_commands.specs.declared.state_text.TheConstants.{ROW_BYTES}
use Rattle.om_commands.proofs.TextLemmas.{text_grows}
use Rattle.om_commands.proofs.state_text.push_memory.Goals as goal

pub loop-row-preserved : goal.loop-row-preserved
loop-row-preserved c =
    text_grows (λ row. memory_line c.args.memory.now (row * ROW_BYTES)) c.loop-row.row (string_bytes c.args.text.now)
    (string_bytes c.loop-row.text) (string_bytes c.push_row.new.text) c.loop-row.invariant c.in_ok-push_row.ensures
