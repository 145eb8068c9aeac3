use Rattle.std.proofs.Common.{◌≡◌, ◌∙◌, Bool, true, ap, is_some, sym}
use Rattle.std.specs.Prelude.{◌&&◌, ◌||◌}
use Rattle.om_storing.specs.Receipts.{is_multiple_of}
use Rattle.om_storing.proofs.StoreLemmas.{stored_log}
use Rattle.om_storing.proofs.storing.Storing.store_by.Goals as goal

pub returns-then-is_log_due-clause-stored : goal.returns-then-is_log_due-clause-stored
returns-then-is_log_due-clause-stored g c =
    let a = c.args.self.now in
    let flush = c.is_multiple-is_flush_due in let every = c.is_multiple-is_checkpoint_due in let kept = c.is_some in
    let due : (is_multiple_of c.args.x c.args.flush || (is_some a.kept && is_multiple_of c.args.x c.args.checkpoint)) ≡ true =
    ap (λ (b : Bool). b || (is_some a.kept && is_multiple_of c.args.x c.args.checkpoint)) (sym flush.ensures)
    ∙ ap (λ (b : Bool). flush.result || (b && is_multiple_of c.args.x c.args.checkpoint)) (sym kept.ensures)
    ∙ ap (λ (b : Bool). flush.result || (kept.result && b)) (sym every.ensures)
    ∙ sym c.is_log_due.ensures ∙ c.if-is_log_due.true in
    stored_log c.args.x c.args.flush c.args.checkpoint (is_some a.kept) every.result c.args.node.now.core c.store.new.node.core every.ensures due c.in_ok-store.ensures.stored
