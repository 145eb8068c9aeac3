use Rattle.std.proofs.Common.{None, arith}
use Rattle.om_recover.specs.steps.Held.{held}
use Rattle.om_recover.proofs.HeldLemmas.{some_log, some_base}
use Rattle.om_recover.proofs.AnswerLemmas.{above_without_log}
use Rattle.om_recover.proofs.rows.answer.is_last.Goals as goal

pub returns-in-None-base_from : goal.returns-in-None-base_from
returns-in-None-base_from c = λ _.
    above_without_log (held c.args.trees.now) c.args.row.now c.in-Some.from None (omega (arith, c.in-Some.ensures)) (λ x has above. c.in-None.ensures x (some_log c.args.trees.now _ x c.requires has) above)
    (λ x has above. c.in-None-base_from.ensures x (some_base c.args.trees.now _ x c.requires has) above)
