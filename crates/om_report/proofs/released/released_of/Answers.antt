use Rattle.std.proofs.lemmas.Result.{IfOk-weaker}
use Rattle.om_report.proofs.ReleasedLemmas.{numbered_too}
use Rattle.om_report.proofs.released.released_of.Goals as goal

pub returns-clause-numbered : goal.returns-clause-numbered
returns-clause-numbered c = IfOk-weaker c.copies_of.result _ _ (λ v same. numbered_too v.items c.released.result.now same c.released.ensures.numbered) c.copies_of.ensures.numbers
