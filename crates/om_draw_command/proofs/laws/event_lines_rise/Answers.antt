use Rattle.om_draw_command.proofs.LineLemmas.{lines_rise}
use Rattle.om_draw_command.proofs.laws.event_lines_rise.Goals as goal

pub returns : goal.returns
returns c = lines_rise
