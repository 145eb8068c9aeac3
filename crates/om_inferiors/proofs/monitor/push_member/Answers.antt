use Rattle.std.proofs.Common.{string_bytes}
use Rattle.om_debug.specs.Monitor.{process_line}
use Rattle.om_inferiors.specs.Monitor.{number_text}
use Rattle.om_inferiors.proofs.Telling.{joined}
use Rattle.om_inferiors.proofs.monitor.push_member.Goals as goal

pub returns : goal.returns
returns c =
    joined c.push_standing.result (string_bytes c.args.text.now) (string_bytes c.push_number.new.text) (string_bytes c.push_standing.new.said) (number_text c.args.member.now.number)
    (process_line c.args.member.now.debugger) c.in_ok-push_number.ensures c.push_standing.ensures
