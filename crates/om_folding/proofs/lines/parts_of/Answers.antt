use Rattle.std.proofs.Common.{rules, ◌∙◌, ◌==◌, tests}
use Rattle.std.proofs.lemmas.Iterator.Consumers.{YieldsList-end}
use Rattle.std.proofs.lemmas.Iterator.Splits.{YieldsList-from_slice_split}
use Rattle.om_folding.proofs.lines.parts_of.Goals as goal

pub returns : goal.returns
returns c =
    let pieces = YieldsList-from_slice_split _ (λ byte. byte == 10) c.args.text.now (cc) (cc) (cc) (λ x b q k. search (rules, tests)) in
    let ended = YieldsList-end pieces c.loop-part.yielded _ c.loop-part.yielded_by _ _ c.in-None.is c.next.ensures.steps in
    c.loop-part.invariant ∙ ended.0
