use Rattle.std.proofs.Common.{◌≡◌, sym, subst}
use Rattle.std.specs.Prelude.{Some, None, IfErr}
use Rattle.om_stable.specs.Calls.{IsCleanCall}
use Rattle.om_process.specs.declared.limits.TheConstants.{LAST_INTERVAL}
use Rattle.om_look.specs.steps.Rowing.{FindsSegment}
use Rattle.om_look.proofs.RowsLemmas.{AreSoFar, nothing_so_far, segments_more, segments_end}
use Rattle.om_look.proofs.ReadingLemmas.{read_nothing, read_more}
use Rattle.om_look.proofs.rows.stored_rows.Goals as goal

pub loop-next-init : goal.loop-next-init
loop-next-init g c = record {
  found = λ known. nothing_so_far c.args.own c.args.n (g.S.Stable.content c.args.store.now) (Some LAST_INTERVAL) c.new-rows.result.items c.new-rows.ensures.items;
  reads = read_nothing g.S.Stable.content g.S.Stable.failed g.S.Stable.is_clean g.S.Stable.IsSound c.args.store.now;
}

pub loop-next-preserved : goal.loop-next-preserved
loop-next-preserved g c = record {
  found = λ known.
      let held = g.S.Stable.content c.args.store.now in
      let first : IsCleanCall g.S.Stable.is_clean g.S.Stable.IsSound c.args.store.now c.loop-next.store = (c.push_segment.ensures.reads.clean known.0, known.1) in
      let second : IsCleanCall g.S.Stable.is_clean g.S.Stable.IsSound c.loop-next.store c.push_segment.new.store = (known.0, c.loop-next.invariant.reads.sound first.0 known.1) in
      let so_far : AreSoFar c.args.own c.args.n held (Some LAST_INTERVAL) (Some c.in-Some.to) c.loop-next.rows.items = subst (λ o. AreSoFar c.args.own c.args.n held (Some LAST_INTERVAL) o c.loop-next.rows.items) c.in-Some.is (c.loop-next.invariant.found first) in
      let finds : FindsSegment c.args.own c.args.n held c.in-Some.to c.loop-next.rows.items c.in_ok-next.next c.push_segment.new.rows.items = subst (λ h. FindsSegment c.args.own c.args.n h c.in-Some.to c.loop-next.rows.items c.in_ok-next.next c.push_segment.new.rows.items) (c.loop-next.invariant.reads.same first) (c.in_ok-next.ensures.finds second) in
      segments_more c.args.own c.args.n held (Some LAST_INTERVAL) c.in-Some.to c.in_ok-next.next c.loop-next.rows.items c.push_segment.new.rows.items so_far finds;
  reads = read_more g.S.Stable.content g.S.Stable.failed g.S.Stable.is_clean g.S.Stable.IsSound c.args.store.now c.loop-next.store c.push_segment.new.store _ c.loop-next.invariant.reads c.in_ok-next.ensures.reads;
}

pub returns-clause-rows : goal.returns-clause-rows
returns-clause-rows g c known =
    segments_end c.args.own c.args.n (g.S.Stable.content c.args.store.now) (Some LAST_INTERVAL) c.loop-next.next c.loop-next.rows.items c.in_default.is (c.loop-next.invariant.found known)
