use Rattle.std.proofs.Common.{sym, subst}
use Rattle.om_recover.specs.Rows.{HasRow, Has}
use Rattle.om_recover.specs.steps.Held.{held, row_of}
use Rattle.om_recover.specs.declared.rows.trees.Vectors.{Vectors}
use Rattle.om_recover.proofs.HeldLemmas.{held_log, held_base, some_log, some_base}
use Rattle.om_recover.proofs.PlaceLemmas.{none_is_none}
use Rattle.om_recover.proofs.rows.lookup.vectors_of.Goals as goal

pub returns-in-None : goal.returns-in-None
returns-in-None c = λ has. none_is_none _ c.in-None.ensures (some_base _ _ _ c.requires (subst (λ kind. Has (held c.args.trees.now) kind c.args.pid c.args.x) c.in-Checkpoint.is has))

pub returns-in-Some : goal.returns-in-Some
returns-in-Some c =
    subst (λ (vectors : Vectors). HasRow (held c.args.trees.now) (row_of c.args.kind c.args.pid c.args.x vectors)) (sym c.of.ensures)
    (subst (λ kind. HasRow (held c.args.trees.now) (row_of kind c.args.pid c.args.x c.in-Some.base.now.vectors)) (sym c.in-Checkpoint.is) (held_base c.args.trees.now _ _ c.in-Some.base.now c.in-Some.ensures))

pub returns-in-None-log_at : goal.returns-in-None-log_at
returns-in-None-log_at c = λ has. none_is_none _ c.in-None-log_at.ensures (some_log _ _ _ c.requires (subst (λ kind. Has (held c.args.trees.now) kind c.args.pid c.args.x) c.in-Log.is has))

pub returns-in-Some-log_at : goal.returns-in-Some-log_at
returns-in-Some-log_at c =
    subst (λ kind. HasRow (held c.args.trees.now) (row_of kind c.args.pid c.args.x c.in-Some-log_at.vectors)) (sym c.in-Log.is) (held_log c.args.trees.now _ _ c.in-Some-log_at.vectors c.in-Some-log_at.ensures)
