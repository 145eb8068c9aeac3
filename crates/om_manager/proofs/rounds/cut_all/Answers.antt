use Rattle.std.proofs.Common.{ap, rules, ◌<◌, ◌≤◌, length, slice_set}
use Rattle.om_manager.proofs.ManagerLemmas.{cut_more, cut_whole}
use Rattle.om_manager.proofs.rounds.cut_all.Goals as goal

pub loop-p-preserved : goal.loop-p-preserved
loop-p-preserved c =
    let inside : c.loop-p.p < length c.loop-p.logs.items = search rules in
    cut_more _ _ _ _ c.index_mut-log.result.now c.loop-p.invariant inside c.index_mut-log.ensures.value (ap (slice_set c.loop-p.logs.items c.loop-p.p) c.cut.ensures)

pub returns : goal.returns
returns c =
    let all : length c.args.logs.now.items ≤ c.loop-p.p = search rules in
    cut_whole _ _ _ c.loop-p.invariant all
