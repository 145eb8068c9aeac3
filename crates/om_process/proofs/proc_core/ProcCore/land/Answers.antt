use Rattle.std.proofs.Common.{sym, subst, map}
use Rattle.om_process.specs.Core.{AreLast}
use Rattle.om_process.specs.steps.Views.{logged_record}
use Rattle.om_process.proofs.Logging.{last_behind}
use Rattle.om_process.proofs.proc_core.ProcCore.land.Goals as goal

pub invariant_of-self-2 : goal.invariant_of-self-2
invariant_of-self-2 c =
    let i = c.self.invariant in
    record {
      cluster = i.cluster;
      own = i.own;
      counted = i.counted;
      own_place = i.own_place;
      got = i.got;
      received = i.received;
      sent = i.sent;
      ends = i.ends;
      outputs_end = i.outputs_end;
      made = i.made;
      messages = i.messages;
      outputs = i.outputs;
      logged = subst (AreLast c.self.inside.interval) (sym c.move_rows.ensures.log) (last_behind c.self.inside.interval _ (map logged_record c.self.inside.log.items) i.logged);
      starts = i.starts;
    }
