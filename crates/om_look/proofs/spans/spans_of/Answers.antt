use Rattle.std.proofs.Common.{◌≡◌, suc, ◌+◌, ◌∷◌, sym, ap, subst, drop, add-one, drop-cons}
use Rattle.om_look.specs.declared.gathering.Found.{Found}
use Rattle.om_look.specs.steps.Adding.{Adds}
use Rattle.om_look.proofs.SpanLemmas.{SoFar, one_so_far}
use Rattle.om_look.proofs.spans.spans_of.Goals as goal

pub loop-f-preserved : goal.loop-f-preserved
loop-f-preserved c ordered =
    let found = c.args.found.now in
    let i = c.loop-f.f-index in
    let f = c.f-item.result in
    let at : drop i found ≡ f ∷ drop (i + 1) found = rw (add-one, drop-cons found i f c.loop-f-test.true) (ap (λ (g : Found). g ∷ drop (suc i) found) (sym c.f-item.is)) in
    let so_far : SoFar found c.loop-f.spans.items (f ∷ drop (i + 1) found) = subst (SoFar found c.loop-f.spans.items) at (c.loop-f.invariant ordered) in
    let adds : Adds c.loop-f.spans.items f.interval f.stop c.add.new.spans.items = subst (λ first. Adds c.loop-f.spans.items first f.stop c.add.new.spans.items) c.from.ensures c.in_ok-add.ensures in
    one_so_far found c.loop-f.spans.items c.add.new.spans.items f (drop (i + 1) found) so_far adds
