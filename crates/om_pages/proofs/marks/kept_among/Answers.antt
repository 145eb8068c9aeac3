use Rattle.std.proofs.Common.{[], ◌∷◌, ap, ◌∙◌, sym, arith, length}
use Rattle.std.proofs.lemmas.List.{length-append}
use Rattle.om_pages.proofs.KeptPages.{one_index_more, one_index_within, all_below_more, one_more_zero}
use Rattle.om_pages.proofs.marks.kept_among.Goals as goal
use Rattle.om_pages.proofs.marks.kept_among.Goals.{then-is_kept_at+in_ok-push, else-is_kept_at}

pub loop-index-preserved : goal.loop-index-preserved
loop-index-preserved c =
    let memory = c.args.memory.now in
    let i = c.loop-index.index in
    let before = c.loop-index.kept.items in
    elim c.if-is_kept_at.branch [
      | then-is_kept_at+in_ok-push w ↦ (let put = w.in_ok-push.ensures.items in rw w.kept-is record {
        kept = one_index_more memory i before _ put c.loop-index.invariant.kept (sym c.is_kept_at.ensures ∙ w.if-is_kept_at.true);
        within = one_index_within i before _ put c.loop-index.invariant.within;
        few = omega (arith, ap length put, length-append before (i ∷ []));
      })
      | else-is_kept_at w ↦ (rw w.kept-is record {
        kept = c.loop-index.invariant.kept ∙ sym (one_more_zero memory i (sym c.is_kept_at.ensures ∙ w.if-is_kept_at.false));
        within = all_below_more i before c.loop-index.invariant.within;
        few = omega arith;
      })
    ]
