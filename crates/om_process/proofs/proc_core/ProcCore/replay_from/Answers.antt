use Rattle.std.proofs.Common.{◌≡◌, ◌+◌, ◌∙◌, length, rules, refl, sym, ap, subst}
use Rattle.std.specs.Prelude.{Err, IfErr}
use Rattle.std.proofs.lemmas.List.{length-map}
use Rattle.om_format.specs.CheckpointViews.{checkpoint_record}
use Rattle.om_stable.specs.Content.{rows_of}
use Rattle.om_process.specs.steps.Rows.{RefusesFrom}
use Rattle.om_process.proofs.StoredLemmas.{found_ascend, missing_from, rows_from_checkpoint, rows_refused}
use Rattle.om_process.proofs.proc_core.ProcCore.replay_from.Goals as goal

pub returns-in-Some-clause-refused : goal.returns-in-Some-clause-refused
returns-in-Some-clause-refused g c = λ known le.
    let held = g.S.Stable.content c.args.store.now in
    let rows = rows_of c.in-Ok.found.items in
    let is = c.in-Ok.ensures.found known in
    missing_from held c.args.x (checkpoint_record c.args.checkpoint) rows c.in-Some.y is
    (c.in-Some.ensures.some (found_ascend held.receipts c.args.checkpoint.head.interval c.args.x rows is le))

pub returns-in_err-repeat_all-clause-refused : goal.returns-in_err-repeat_all-clause-refused
returns-in_err-repeat_all-clause-refused g c =
    let same : c.from_residual-in_err-repeat_all.result ≡ Err c.in_err-repeat_all.field-0.0 = search rules in
    let long : c.args.checkpoint.head.interval + length (rows_of c.in-Ok.found.items) ≡ c.args.x = ap (λ k. c.args.checkpoint.head.interval + k) (length-map c.in-Ok.found.items _ ∙ sym c.in-Ok.found.ok.0) ∙ c.in_default.ensures.all in
    λ known le.
    let held = g.S.Stable.content c.args.store.now in
    subst (λ r. IfErr r (λ fault. RefusesFrom held c.args.x (checkpoint_record c.args.checkpoint) fault)) (sym same)
    (rows_refused held c.args.x (checkpoint_record c.args.checkpoint) (rows_of c.in-Ok.found.items) c.in_err-repeat_all.field-0.0 c.in_ok-core.core (c.in-Ok.ensures.found known) c.in_default.ensures.gapless long refl c.in_ok-core.ensures.own c.in_ok-core.ensures.now c.in_err-repeat_all.ensures.refused)

pub returns-clause-replayed : goal.returns-clause-replayed
returns-clause-replayed g c =
    let long : c.args.checkpoint.head.interval + length (rows_of c.in-Ok.found.items) ≡ c.args.x = ap (λ k. c.args.checkpoint.head.interval + k) (length-map c.in-Ok.found.items _ ∙ sym c.in-Ok.found.ok.0) ∙ c.in_default.ensures.all in
    let replayed = c.in_ok-repeat_all.ensures.replayed in
    λ known le.
    let held = g.S.Stable.content c.args.store.now in
    rows_from_checkpoint held c.args.x (checkpoint_record c.args.checkpoint) (rows_of c.in-Ok.found.items) replayed.0 c.in_ok-core.core c.repeat_all.new.self (c.in-Ok.ensures.found known) c.in_default.ensures.gapless long replayed.1 refl
    c.in_ok-core.ensures.own c.in_ok-core.ensures.now (ap (λ s. s.own) c.in_ok-repeat_all.ensures.rest) c.in_ok-repeat_all.ensures.size replayed.2
