use Rattle.std.proofs.Common.{◌++◌, ap, ◌∙◌, map, take, rules}
use Rattle.om_process.specs.Stores.{log_row}
use Rattle.om_process.proofs.Logging.{dropped_recorded, taken_recorded}
use Rattle.om_process.proofs.storing.move_rows.Goals as goal

pub returns-clause-rows : goal.returns-clause-rows
returns-clause-rows c =
    c.add_rows.ensures ∙ ap (λ ls. c.args.rows.now.items ++ map log_row ls) (taken_recorded c.args.k c.args.log.now.items c.first_of-stored.result.now (c.first_of-stored.ensures ∙ ap (take c.args.k) c.deref.ensures.value))

pub returns-clause-log : goal.returns-clause-log
returns-clause-log c =
    dropped_recorded c.args.k c.args.log.now.items c.first_of-stored.result.now _ (c.first_of-stored.ensures ∙ ap (take c.args.k) c.deref.ensures.value) (search rules)
