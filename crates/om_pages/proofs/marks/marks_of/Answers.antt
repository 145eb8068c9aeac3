use Rattle.std.proofs.Common.{◌++◌, ◌∷◌, [], Bool, List, sym, ap, ◌∙◌, arith}
use Rattle.std.proofs.lemmas.List.FromFn.{map-range_with_len_more}
use Rattle.om_pages.specs.Pages.{page_at, is_kept}
use Rattle.om_pages.proofs.marks.marks_of.Goals as goal

pub loop-index-preserved : goal.loop-index-preserved
loop-index-preserved c =
    let memory = c.args.memory.now in
    let i = c.loop-index.index in
    c.in_ok-push.ensures.items ∙ ap (λ (x : Bool). c.loop-index.marks.items ++ x ∷ []) (c.is_kept.ensures ∙ ap is_kept c.page_of.ensures)
    ∙ ap (λ (xs : List Bool). xs ++ is_kept (page_at memory i).bytes ∷ []) c.loop-index.invariant
    ∙ sym (map-range_with_len_more (λ index. is_kept (page_at memory index).bytes) 0 i i (omega arith))
