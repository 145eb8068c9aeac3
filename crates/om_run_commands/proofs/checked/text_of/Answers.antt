use Rattle.std.proofs.Common.{ap, string_bytes}
use Rattle.std.specs.Prelude.{Vec}
use Rattle.std.specs.declared.alloc.Global.{Global}
use Rattle.om_process.specs.declared.status.Status.{Status}
use Rattle.om_run_commands.proofs.CheckLemmas.{text_of_world}
use Rattle.om_run_commands.proofs.checked.text_of.Goals as goal

pub returns : goal.returns
returns c =
    text_of_world c.args.form string_bytes c.args.programs.now c.args.world.now c.manager.result.now c.in_ok-report.report c.deref.result.now
    c.deref-2.result.now c.in_ok-statuses.statuses.items c.n.result c.run_text.result c.requires c.manager.ensures c.n.ensures.number
    c.in_ok-report.ensures.outputs c.in_ok-report.ensures.processes c.in_ok-statuses.ensures.number c.in_ok-statuses.ensures.statuses
    (ap {A = Vec Status Global} (λ v. v.items) c.in_ok-report.ensures.statuses) c.deref.ensures.value c.deref-2.ensures.value
    c.run_text.ensures
