use Rattle.std.proofs.Common.{◌∙◌, Some, ap, sym}
use Rattle.om_recover.proofs.LogsLemmas.{in_runs_at, outside_at}
use Rattle.om_recover.proofs.rows.logs.log_at.Goals as goal

pub returns-in-Some : goal.returns-in-Some
returns-in-Some c = in_runs_at c.args.logs.now _ _ _ (rw c.deref.ensures.value at c.in-Some.ensures)

pub returns-in-None-get : goal.returns-in-None-get
returns-in-None-get c = outside_at c.args.logs.now c.args.pid c.args.x (rw c.deref.ensures.value at c.in-None.ensures) ∙ sym c.in-None-get.ensures.value

pub returns-in-Some-get : goal.returns-in-Some-get
returns-in-Some-get c = outside_at c.args.logs.now c.args.pid c.args.x (rw c.deref.ensures.value at c.in-None.ensures) ∙ sym c.in-Some-get.ensures.value ∙ ap Some (sym c.of.ensures)
