use Rattle.std.proofs.Common.{◌==◌, not, length, rules, ap, ◌∙◌, tests}
use Rattle.std.specs.Prelude.{filter}
use Rattle.std.proofs.lemmas.Iterator.Consumers.{YieldsList-end}
use Rattle.std.proofs.lemmas.Iterator.Splits.{YieldsList-from_slice_split}
use Rattle.om_text.specs.Words.{is_blank}
use Rattle.om_text.proofs.words.split_words.Goals as goal

pub returns : goal.returns
returns c =
    let pieces = YieldsList-from_slice_split _ is_blank c.args.line.now (cc) (cc) (cc) (λ x b q k. search (rules, tests)) in
    let ended = YieldsList-end pieces c.loop-word.yielded _ c.loop-word.yielded_by _ _ c.in-None.is c.next.ensures.steps in
    c.loop-word.invariant ∙ ap (filter (λ word. not (length word == 0))) ended.0
