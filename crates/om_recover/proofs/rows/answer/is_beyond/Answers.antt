use Rattle.om_recover.specs.steps.Held.{held}
use Rattle.om_recover.proofs.HeldLemmas.{some_log, some_base}
use Rattle.om_recover.proofs.AnswerLemmas.{none_at_or_above}
use Rattle.om_recover.proofs.rows.answer.is_beyond.Goals as goal

pub returns-in-None-base_from : goal.returns-in-None-base_from
returns-in-None-base_from c = λ _.
    none_at_or_above (held c.args.trees.now) c.args.row.now (λ x has above. c.in-None.ensures x (some_log c.args.trees.now _ x c.requires has) above)
    (λ x has above. c.in-None-base_from.ensures x (some_base c.args.trees.now _ x c.requires has) above)
