use Rattle.std.proofs.Common.{◌≡◌, ◌+◌, ◌<◌, ◌++◌, ◌∷◌, [], length, get_or, take, drop, rules, sym, ap, ◌∙◌, subst, arith}
use Rattle.std.specs.Prelude.{IfErr, Err}
use Rattle.om_format.specs.Receipts.{SpellsReceipt}
use Rattle.om_stable.specs.Content.{rows_of}
use Rattle.om_process.specs.Core.{cluster_size, with_now}
use Rattle.om_process.specs.Replays.{Replayed}
use Rattle.om_process.specs.steps.Rows.{RefusesRow, RefusesRows}
use Rattle.om_process.proofs.RowLemmas.{gapless_at, replayed_interval, replayed_more, rows_from, rows_long, rows_parted, spelled_more, taken_long}
use Rattle.om_process.proofs.proc_core.ProcCore.repeat_all.Goals as goal

pub repeat-requires-clause-next : goal.repeat-requires-clause-next
repeat-requires-clause-next c =
    let found = c.args.found.now.items in
    let i = c.loop-y.y-index in
    let before = c.loop-y.invariant.replayed in
    let within : c.loop-y.y-index < length c.args.found.now.items = search rules in
    let here : c.loop-y-item.result ≡ get_or c.args.found.now.items c.loop-y.y-index c.loop-y-item.result = search rules in
    let at : c.loop-y-item.result.0 ≡ c.args.self.now.now.interval + c.loop-y.y-index + 1 = gapless_at c.args.self.now.now.interval found i c.loop-y-item.result within here c.requires.gapless in
    let interval : c.loop-y.self.now.interval ≡ c.args.self.now.now.interval + length before.0 = replayed_interval _ _ before.0 c.args.self.now.now c.loop-y.self.now before.2 in
    let long : length before.0 ≡ c.loop-y.y-index = rows_long (rows_of (take i found)) before.0 before.1 ∙ taken_long found i (omega arith) in
    omega arith

pub returns-in_err-repeat-clause-refused : goal.returns-in_err-repeat-clause-refused
returns-in_err-repeat-clause-refused c =
    let before = c.loop-y.invariant.replayed in
    let own = ap (λ s. s.own) c.loop-y.invariant.rest in
    let within : c.loop-y.y-index < length c.args.found.now.items = search rules in
    let here : c.loop-y-item.result ≡ get_or c.args.found.now.items c.loop-y.y-index c.loop-y-item.result = search rules in
    let same : c.from_residual.result ≡ Err c.in_err-repeat.field-0.0 = search rules in
    let found = c.args.found.now.items in
    let refused = subst (λ n. RefusesRow c.args.self.now.own n c.loop-y.self.now (c.loop-y-item.result.0, c.loop-y-item.result.1.items) c.in_err-repeat.field-0.0) c.loop-y.invariant.size
    (subst (λ o. RefusesRow o (cluster_size c.loop-y.self.now) c.loop-y.self.now (c.loop-y-item.result.0, c.loop-y-item.result.1.items) c.in_err-repeat.field-0.0) own
    (subst (λ bs. RefusesRow c.loop-y.self.own (cluster_size c.loop-y.self.now) c.loop-y.self.now (c.loop-y-item.result.0, bs) c.in_err-repeat.field-0.0) c.deref.ensures.value c.in_err-repeat.ensures.refused)) in
    subst (λ r. IfErr r (λ fault. RefusesRows c.args.self.now.own (cluster_size c.args.self.now.now) c.args.self.now.now (rows_of found) fault)) (sym same) (
      rows_of (take c.loop-y.y-index found),
      (c.loop-y-item.result.0, c.loop-y-item.result.1.items),
      rows_of (drop (c.loop-y.y-index + 1) found),
      rows_parted found c.loop-y.y-index ∙ ap (λ rows. rows_of (take c.loop-y.y-index found) ++ rows) (rows_from found c.loop-y.y-index c.loop-y-item.result within here),
      before.0,
      before.1,
      c.loop-y.self.now,
      before.2,
      refused,
    )

pub loop-y-preserved : goal.loop-y-preserved
loop-y-preserved c =
    let one = c.in_ok-repeat.ensures.replayed in
    let before = c.loop-y.invariant.replayed in
    let own = ap (λ s. s.own) c.loop-y.invariant.rest in
    let within : c.loop-y.y-index < length c.args.found.now.items = search rules in
    let here : c.loop-y-item.result ≡ get_or c.args.found.now.items c.loop-y.y-index c.loop-y-item.result = search rules in
    record {
      replayed = (
        before.0 ++ one.0 ∷ [],
        spelled_more c.args.found.now.items c.loop-y.y-index c.loop-y-item.result before.0 one.0 within here before.1 (subst (SpellsReceipt one.0) c.deref.ensures.value one.1) one.2,
        replayed_more c.args.self.now.own (cluster_size c.args.self.now.now) before.0 c.args.self.now.now c.loop-y.self.now c.repeat.new.self.now one.0 before.2
            (subst (λ n. Replayed c.args.self.now.own n c.loop-y.self.now (one.0 ∷ []) c.repeat.new.self.now) c.loop-y.invariant.size
            (subst (λ o. Replayed o (cluster_size c.loop-y.self.now) c.loop-y.self.now (one.0 ∷ []) c.repeat.new.self.now) own one.3)),
      );
      rest = c.in_ok-repeat.ensures.rest ∙ ap (λ s. with_now s c.repeat.new.self.now) c.loop-y.invariant.rest;
      size = c.in_ok-repeat.ensures.size ∙ c.loop-y.invariant.size;
    }
