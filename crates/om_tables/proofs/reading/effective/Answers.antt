use Rattle.std.proofs.Common.{sym, subst}
use Rattle.om_tables.specs.steps.Statements.{ShowsEffective}
use Rattle.om_tables.proofs.reading.effective.Goals as goal

pub returns-clause-effective : goal.returns-clause-effective
returns-clause-effective g c clean had holds =
    c.first_in.ensures.effective had.checkpoints c.args.x (subst (ShowsEffective had.checkpoints c.args.x) (sym c.deref.ensures.value) (c.in_ok-rows.ensures.found clean had holds))

pub returns-clause-bytes : goal.returns-clause-bytes
returns-clause-bytes g c clean had holds =
    c.first_in.ensures.bytes had.checkpoints c.args.x (subst (ShowsEffective had.checkpoints c.args.x) (sym c.deref.ensures.value) (c.in_ok-rows.ensures.found clean had holds))
