use Rattle.om_run_commands.proofs.kills_left.push_line.Goals as goal

pub returns : goal.returns
returns c = c.write.ensures.bytes
