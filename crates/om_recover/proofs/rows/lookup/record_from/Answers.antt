use Rattle.std.proofs.Common.{sym, subst}
use Rattle.om_recover.specs.Rows.{Has}
use Rattle.om_recover.specs.steps.Held.{held, row_of, IsRecordFrom}
use Rattle.om_recover.specs.declared.row.Row.{Row}
use Rattle.om_recover.proofs.HeldLemmas.{some_log, some_base}
use Rattle.om_recover.proofs.LookupLemmas.{log_from, base_from}
use Rattle.om_recover.proofs.rows.lookup.record_from.Goals as goal

pub returns-in-None : goal.returns-in-None
returns-in-None c = λ x has within. c.in-None.ensures x (some_base _ _ _ c.requires (subst (λ kind. Has (held c.args.trees.now) kind c.args.pid x) c.in-Checkpoint.is has)) within

pub returns-in-Some : goal.returns-in-Some
returns-in-Some c =
    subst (λ (row : Row). IsRecordFrom (held c.args.trees.now) c.args.kind c.args.pid c.args.from row) (sym c.row.ensures)
    (subst (λ kind. IsRecordFrom (held c.args.trees.now) kind c.args.pid c.args.from (row_of kind c.args.pid c.in-Some.x c.in-Some.base.now.vectors)) (sym c.in-Checkpoint.is)
    (base_from _ _ _ _ c.in-Some.base.now c.requires c.in-Some.ensures))

pub returns-in-None-log_from : goal.returns-in-None-log_from
returns-in-None-log_from c = λ x has within. c.in-None-log_from.ensures x (some_log _ _ _ c.requires (subst (λ kind. Has (held c.args.trees.now) kind c.args.pid x) c.in-Log.is has)) within

pub returns-in-Some-log_from : goal.returns-in-Some-log_from
returns-in-Some-log_from c =
    subst (λ (row : Row). IsRecordFrom (held c.args.trees.now) c.args.kind c.args.pid c.args.from row) (sym (rw c.kept.ensures at c.row-in-Some-log_from.ensures))
    (subst (λ kind. IsRecordFrom (held c.args.trees.now) kind c.args.pid c.args.from (row_of kind c.args.pid c.in-Some-log_from.x c.in-Some-log_from.vectors)) (sym c.in-Log.is)
    (log_from _ _ _ _ c.in-Some-log_from.vectors c.requires c.in-Some-log_from.ensures))
