use Rattle.std.proofs.Common.{◌<◌, arith, length, slice_index, nat_le}
use Rattle.om_recover.proofs.RunPartLemmas.{part_start, part_step, part_ends}
use Rattle.om_recover.proofs.rows.cutting.cut_runs.Goals as goal

pub loop-p-init : goal.loop-p-init
loop-p-init c = record { part = part_start _ c.args.runs.now.items; count = omega (arith, c.len-p-end.ensures) }

pub loop-p-preserved : goal.loop-p-preserved
loop-p-preserved c =
    let within : c.loop-p.p < length c.loop-p.runs.items = omega (arith, c.loop-p.invariant.count, c.loop-p-test.true) in
    record {
      part = part_step (λ place. nat_le place.1 (slice_index c.args.state.now place.0)) c.args.runs.now.items c.loop-p.runs.items c.loop-p.p c.index_mut.result.now c.cut_run.new.run within c.index_mut.ensures.value
          (rw c.number_or_zero.ensures at c.cut_run.ensures) c.loop-p.invariant.part;
      count = c.loop-p.invariant.count;
    }

pub returns : goal.returns
returns c = part_ends _ _ c.args.runs.now.items c.loop-p.runs.items (omega (arith, c.loop-p.invariant.count, c.loop-p-test.false)) c.loop-p.invariant.part
