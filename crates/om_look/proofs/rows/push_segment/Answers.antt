use Rattle.std.proofs.Common.{◌≡◌, sym, subst, rules}
use Rattle.std.specs.Prelude.{IfErr, Err, Some}
use Rattle.std.specs.FinMap.{get}
use Rattle.om_stable.specs.Calls.{IsCleanCall}
use Rattle.om_stable.specs.Content.{rows_of}
use Rattle.om_format.specs.Checkpoints.{IsSpelled}
use Rattle.om_process.specs.Stored.{IsCheckpointAt}
use Rattle.om_process.specs.declared.row.PendingRow.{PendingRow}
use Rattle.om_look.specs.Rows.{IsBase, RefusesRows, base_row, receipts_behind}
use Rattle.om_look.specs.steps.Rowing.{RefusesBase, RefusesFollowing}
use Rattle.om_look.proofs.RowsLemmas.{base_refuses, following_refuses}
use Rattle.om_look.proofs.rows.push_segment.Goals as goal

pub returns-in_err-base-clause-refused : goal.returns-in_err-base-clause-refused
returns-in_err-base-clause-refused g c known =
    let held = g.S.Stable.content c.args.store.now in
    let fault = c.in_err-base.field-0.0 in
    let there : get held.checkpoints c.in-Some.x ≡ Some c.in-Some.bytes.items = rw c.in-Some.is at (c.in_ok-x.ensures.bytes known) in
    let same : c.from_residual-in_err-base.result ≡ Err fault = search rules in
    let why : RefusesBase c.args.own c.args.n c.in-Some.x c.in-Some.bytes.items fault = subst (λ bs. RefusesBase c.args.own c.args.n c.in-Some.x bs fault) c.deref.ensures.value c.in_err-base.ensures.refused in
    subst (λ r. IfErr r (λ fault. RefusesRows c.args.own c.args.n held fault)) (sym same)
    (base_refuses c.args.own c.args.n c.in-Some.x held c.in-Some.bytes.items fault there why)

pub returns-in_err-push_rows-clause-refused : goal.returns-in_err-push_rows-clause-refused
returns-in_err-push_rows-clause-refused g c known =
    let held = g.S.Stable.content c.args.store.now in
    let own = c.args.own in let n = c.args.n in let x = c.in-Some.x in
    let fault = c.in_err-push_rows.field-0.0 in
    let first : IsCleanCall g.S.Stable.is_clean g.S.Stable.IsSound c.args.store.now c.effective_of.new.store = (c.receipts_up_to.ensures.reads.clean known.0, known.1) in
    let second : IsCleanCall g.S.Stable.is_clean g.S.Stable.IsSound c.effective_of.new.store c.receipts_up_to.new.store = (known.0, c.in_ok-x.ensures.reads.sound first.0 known.1) in
    let same : c.from_residual-in_err-push_rows.result ≡ Err fault = search rules in
    let there : get held.checkpoints x ≡ Some c.in-Some.bytes.items = rw c.in-Some.is at (c.in_ok-x.ensures.bytes first) in
    let found = c.in_ok-base.ensures.found in
    let base = found.2 in
    let spelled = subst (IsSpelled found.0) c.deref.ensures.value found.1 in
    let stored : IsCheckpointAt held.checkpoints found.0.head.interval found.0 = subst (λ y. IsCheckpointAt held.checkpoints y found.0) (sym base.interval) (c.in-Some.bytes.items, there, spelled, base.interval) in
    let is_base : IsBase own n found.0.head.interval found.0 = subst (λ y. IsBase own n y found.0) (sym base.interval) base in
    let why : RefusesFollowing own n (base_row found.0) (receipts_behind held x c.args.to) fault =
    subst (λ h. RefusesFollowing own n (base_row found.0) (receipts_behind h x c.args.to) fault) (c.in_ok-x.ensures.reads.same first)
    (subst (λ rows. RefusesFollowing own n (base_row found.0) rows fault) (c.in_ok-found.ensures.found second)
    (subst (λ (es : _). RefusesFollowing own n (base_row found.0) (rows_of es) fault) c.deref-2.ensures.value
    (subst (λ (row : PendingRow). RefusesFollowing own n row (rows_of c.deref-2.result.now) fault) found.3 c.in_err-push_rows.ensures.refused))) in
    subst (λ r. IfErr r (λ fault. RefusesRows own n held fault)) (sym same)
    (following_refuses own n x _ held found.0 fault stored is_base why)
