use Rattle.std.proofs.Common.{rules, ◌∙◌, tests}
use Rattle.std.proofs.lemmas.Iterator.Consumers.{YieldsList-end}
use Rattle.std.proofs.lemmas.Iterator.Splits.{YieldsList-from_slice_split}
use Rattle.om_requests.specs.Requests.{is_mark}
use Rattle.om_requests.proofs.words.packet_words.Goals as goal

pub returns : goal.returns
returns c =
    let pieces = YieldsList-from_slice_split _ is_mark c.args.packet.now (cc) (cc) (cc) (λ x b q k. search (rules, tests)) in
    let ended = YieldsList-end pieces c.loop-word.yielded _ c.loop-word.yielded_by _ _ c.in-None.is c.next.ensures.steps in
    c.loop-word.invariant ∙ ended.0
