use Rattle.std.proofs.Common.{sym, subst}
use Rattle.om_recover.specs.Rows.{Has}
use Rattle.om_recover.specs.steps.Held.{held, row_of, IsRecordTo}
use Rattle.om_recover.specs.declared.row.Row.{Row}
use Rattle.om_recover.proofs.HeldLemmas.{some_log, some_base}
use Rattle.om_recover.proofs.LookupLemmas.{log_to, base_to}
use Rattle.om_recover.proofs.rows.lookup.record_to.Goals as goal

pub returns-in-None : goal.returns-in-None
returns-in-None c = λ x has within. c.in-None.ensures x (some_base _ _ _ c.requires (subst (λ kind. Has (held c.args.trees.now) kind c.args.pid x) c.in-Checkpoint.is has)) within

pub returns-in-Some : goal.returns-in-Some
returns-in-Some c =
    subst (λ (row : Row). IsRecordTo (held c.args.trees.now) c.args.kind c.args.pid c.args.to row) (sym c.row.ensures)
    (subst (λ kind. IsRecordTo (held c.args.trees.now) kind c.args.pid c.args.to (row_of kind c.args.pid c.in-Some.x c.in-Some.base.now.vectors)) (sym c.in-Checkpoint.is)
    (base_to _ _ _ _ c.in-Some.base.now c.requires c.in-Some.ensures))

pub returns-in-None-log_to : goal.returns-in-None-log_to
returns-in-None-log_to c = λ x has within. c.in-None-log_to.ensures x (some_log _ _ _ c.requires (subst (λ kind. Has (held c.args.trees.now) kind c.args.pid x) c.in-Log.is has)) within

pub returns-in-Some-log_to : goal.returns-in-Some-log_to
returns-in-Some-log_to c =
    subst (λ (row : Row). IsRecordTo (held c.args.trees.now) c.args.kind c.args.pid c.args.to row) (sym (rw c.kept.ensures at c.row-in-Some-log_to.ensures))
    (subst (λ kind. IsRecordTo (held c.args.trees.now) kind c.args.pid c.args.to (row_of kind c.args.pid c.in-Some-log_to.x c.in-Some-log_to.vectors)) (sym c.in-Log.is)
    (log_to _ _ _ _ c.in-Some-log_to.vectors c.requires c.in-Some-log_to.ensures))
