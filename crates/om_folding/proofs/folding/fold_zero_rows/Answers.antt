use Rattle.std.proofs.Common.{◌++◌, ◌∙◌, ap, sym, map}
use Rattle.om_folding.specs.Folding.{folded_line}
use Rattle.om_folding.proofs.TextLemmas.{texts_more}
use Rattle.om_folding.proofs.folding.fold_zero_rows.Goals as goal

pub loop-k-preserved : goal.loop-k-preserved
loop-k-preserved c =
    let lines = map (λ part. part.now) c.in_ok-parts.parts.items in
    let k = c.loop-k.k in
    c.in_ok-push_folded.ensures
    ∙ ap (λ parts. c.loop-k.short.items ++ folded_line (map (λ part. part.now) parts) k) c.deref.ensures.value
    ∙ ap (λ t. t ++ folded_line lines k) c.loop-k.invariant
    ∙ sym (texts_more (folded_line lines) k)
