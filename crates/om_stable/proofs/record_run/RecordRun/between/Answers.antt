use Rattle.std.proofs.Common.{ℕ, ap, ◌∙◌, ◌+◌, sym, arith, length, drop, take, refl}
use Rattle.std.proofs.lemmas.Result.{IfOk-weaker}
use Rattle.om_stable.specs.Content.{rows_of}
use Rattle.om_stable.specs.steps.Runs.{rows_from}
use Rattle.om_stable.proofs.RunLemmas.{found_between, nothing_between}
use Rattle.om_stable.proofs.record_run.RecordRun.between.Goals as goal

pub returns-then-end-from : goal.returns-then-end-from
returns-then-end-from c =
    ap rows_of c.new.ensures.items
    ∙ nothing_between c.self.inside.first c.self.inside.records c.args.self.now c.self.view_is c.args.after c.args.to c.from.result c.from-2.result c.len-len.result
    c.count_below-from.result c.count_below-end.result c.len-len.ensures c.from.ensures c.from-2.ensures c.count_below-from.ensures c.count_below-end.ensures c.if-end-from.true

pub returns : goal.returns
returns c =
    IfOk-weaker c.numbered.result _ _ (λ found is.
    found_between c.self.inside.first c.self.inside.records c.args.self.now c.self.view_is found.items c.args.after c.args.to c.from.result c.from-2.result
    c.len-len.result c.count_below-from.result c.count_below-end.result (c.self.inside.first + c.count_below-from.result) c.len-len.ensures c.from.ensures c.from-2.ensures c.count_below-from.ensures
    c.count_below-end.ensures (omega arith) refl (is ∙ ap (rows_from (c.self.inside.first + c.count_below-from.result)) c.in_ok-records.ensures))
    c.numbered.ensures
