use Rattle.std.proofs.Common.{string_bytes}
use Rattle.om_world.specs.Texts.{event_text}
use Rattle.om_debug.specs.Monitor.{done_text}
use Rattle.om_debug.proofs.Telling.{told_doing}
use Rattle.om_debug.proofs.monitor.push_doing.Goals as goal

pub returns : goal.returns
returns c =
    told_doing c.push_done.result (string_bytes c.args.out.now) (string_bytes c.push_str.new.self) (string_bytes c.push_event.new.text) (string_bytes c.push_done.new.out)
    (event_text c.args.event) (done_text c.args.turns) c.in_ok-push_str.ensures.bytes c.in_ok-push_event.ensures c.push_done.ensures
