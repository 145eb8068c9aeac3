use Rattle.std.proofs.Common.{◌≢◌, ◌<◌, ap, ◌∙◌, arith}
use Rattle.std.specs.Prelude.{nat_le}
use Rattle.std.specs.FinMap as map
use Rattle.std.proofs.lemmas.Bool.{leb-true, leb-false}
use Rattle.om_stable.proofs.RecordLemmas.{len-remove_there, get-remove_apart, retained_from_parts}
use Rattle.om_stable.proofs.record_tree.RecordTree.keep_up_to.Goals as goal

pub loop-x-smaller : goal.loop-x-smaller
loop-x-smaller c = rw c.remove.ensures (len-remove_there c.loop-x.self c.in-Some.x c.in-Some.ensures.has)

pub loop-x-preserved : goal.loop-x-preserved
loop-x-preserved c = λ q h.
    let apart : q ≢ c.in-Some.x = omega arith in
    ap (λ m. map.get m q) c.remove.ensures ∙ get-remove_apart c.loop-x.self c.in-Some.x q apart ∙ c.loop-x.invariant q h

pub returns-then-x-r : goal.returns-then-x-r
returns-then-x-r c = retained_from_parts c.args.self.now c.loop-x.self (λ x. nat_le x c.args.r)
    (λ q kept. c.loop-x.invariant q (leb-true q c.args.r kept))
    (λ q gone. let over : c.in-Some.x < q = omega (arith, leb-false q c.args.r gone) in c.in-Some.ensures.greatest q over)

pub returns-in_default : goal.returns-in_default
returns-in_default c = retained_from_parts c.args.self.now c.loop-x.self (λ x. nat_le x c.args.r)
    (λ q kept. c.loop-x.invariant q (leb-true q c.args.r kept))
    (λ q gone. c.in_default.ensures.none q)
