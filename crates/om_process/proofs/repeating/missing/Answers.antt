use Rattle.std.proofs.Common.{◌≡◌, ◌≢◌, ◌+◌, ◌<◌, ◌≤◌, ◌%◌, length, get_or, rules, sym, subst, arith}
use Rattle.om_stable.specs.Content.{rows_of}
use Rattle.om_process.specs.steps.Rows.{Ascend, IsFirstGap}
use Rattle.om_process.proofs.RowLemmas.{gap_before, gapless_more, row_within, rows_from}
use Rattle.om_process.proofs.repeating.missing.Goals.{then-last-via-then-last, then-last-via-else-last+then-y-last}
use Rattle.om_process.proofs.repeating.missing.Goals as goal

pub returns-then-last-clause-some : goal.returns-then-last-clause-some
returns-then-last-clause-some c =
    let within : c.loop-y.y-index < length c.args.found.now.items = search rules in
    let at : c.loop-y-item.result ≡ get_or c.args.found.now.items c.loop-y.y-index c.loop-y-item.result = search rules in
    λ ascend.
    let range = row_within c.args.x c.args.found.now.items c.loop-y.y-index c.loop-y.last c.loop-y-item.result within at (c.loop-y.invariant.ascend ascend) in
    let above : c.loop-y.last < c.loop-y-item.result.0 = range.0 in
    let below : c.loop-y-item.result.0 ≤ c.args.x = range.1 in
    let other : c.loop-y-item.result.0 ≢ c.loop-y.last + 1 = elim c.then-last.branch [ then-last-via-then-last w ↦ (let last = w.if-last.true in omega arith) | then-last-via-else-last+then-y-last w ↦ search rules ] in
    let same : (c.loop-y.last + 1) % 4294967296 ≡ c.loop-y.last + 1 = omega arith in
    subst (IsFirstGap c.args.after c.args.x (rows_of c.args.found.now.items)) (sym same)
    (gap_before c.args.after c.args.x c.args.found.now.items c.loop-y.y-index c.loop-y.last c.loop-y-item.result within at c.loop-y.invariant.gapless c.loop-y.invariant.last (c.loop-y.invariant.ascend ascend) other)

pub loop-y-preserved : goal.loop-y-preserved
loop-y-preserved c =
    let within : c.loop-y.y-index < length c.args.found.now.items = search rules in
    let at : c.loop-y-item.result ≡ get_or c.args.found.now.items c.loop-y.y-index c.loop-y-item.result = search rules in
    let next : c.loop-y-item.result.0 ≡ c.loop-y.last + 1 = search rules in
    let last : c.loop-y.last ≡ c.args.after + c.loop-y.y-index = c.loop-y.invariant.last in
    record {
      gapless = gapless_more c.args.after c.args.found.now.items c.loop-y.y-index c.loop-y-item.result within at c.loop-y.invariant.gapless (omega arith);
      last = omega arith;
      ascend = λ ascend. (subst (Ascend c.loop-y.last c.args.x) (rows_from c.args.found.now.items c.loop-y.y-index c.loop-y-item.result within at) (c.loop-y.invariant.ascend ascend)).1;
    }
