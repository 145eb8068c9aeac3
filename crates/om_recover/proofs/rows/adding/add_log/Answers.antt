use Rattle.std.proofs.Common.{◌≡◌, ◌+◌, ◌<◌, ◌^◌, refl, sym, ap, is_some, subst, arith, true≢false}
use Rattle.std.specs.FinSet as set
use Rattle.om_recover.specs.steps.Held.{held, Hold, IsFree}
use Rattle.om_recover.specs.declared.rows.trees.Vectors.{Vectors}
use Rattle.om_recover.specs.declared.rows.trees.Base.{Base}
use Rattle.om_recover.specs.declared.rows.trees.Trees.{Trees}
use Rattle.om_recover.specs.declared.row.Row.{Row}
use Rattle.om_recover.specs.declared.row.RowKind.TheVariants.{Log}
use Rattle.om_recover.proofs.PlaceLemmas.{one_nearest}
use Rattle.om_recover.proofs.RunLemmas.{after_error}
use Rattle.om_recover.proofs.AddingLemmas.{hold_with_log, hold_with_log_reached, hold_same, same_bases, free_log, of_kind}
use Rattle.om_recover.proofs.rows.adding.add_log.Goals as goal

pub returns-then-is_next-clause-ok : goal.returns-then-is_next-clause-ok
returns-then-is_next-clause-ok c =
    let row = c.args.row.now in
    let vectors : Vectors = record { vec = row.vec; got = row.got } in
    let middle : Trees = record { logs = c.lay.new.logs; bases = c.args.trees.now.bases } in
    let after : Trees = record { logs = c.lay.new.logs; bases = c.set_last.new.bases } in
    let is = of_kind row Log c.requires.kind in
    let in_range : row.interval < 2 ^ 32 = omega arith in
    subst (λ (r : Row). Hold after (set.insert (held c.args.trees.now) r)) (sym is)
    (hold_with_log_reached c.requires.lawful.0 c.args.trees.now middle after row.pid row.interval c.in-Some.x c.last_of_run-last.result vectors c.in-Some.base.now
    c.requires.lawful.1 in_range c.requires.indexed (subst (IsFree (held c.args.trees.now)) is c.requires.free)
    (rw c.of-vectors.ensures at c.in_ok-lay.ensures.ok) refl c.in-Some.ensures (c.if-is_next.ensures.0 refl)
    c.last_of_run-last.ensures (c.set_last.ensures c.in-Some.base.now c.in-Some.ensures.there) refl)

pub returns-else-is_next-clause-ok : goal.returns-else-is_next-clause-ok
returns-else-is_next-clause-ok c =
    let row = c.args.row.now in
    let vectors : Vectors = record { vec = row.vec; got = row.got } in
    let after : Trees = record { logs = c.lay.new.logs; bases = c.args.trees.now.bases } in
    let is = of_kind row Log c.requires.kind in
    subst (λ (r : Row). Hold after (set.insert (held c.args.trees.now) r)) (sym is)
    (hold_with_log c.args.trees.now after row.pid row.interval vectors c.requires.indexed (subst (IsFree (held c.args.trees.now)) is c.requires.free)
    (rw c.of-vectors.ensures at c.in_ok-lay.ensures.ok) refl
    (λ y b near next.
    let same = one_nearest _ _ _ _ _ b c.in-Some.base.now near c.in-Some.ensures in
    true≢false (sym (c.if-is_next.ensures.1 (subst (λ (b : Base). b.last + 1 ≡ row.interval) same next)))))

pub returns-in_default-clause-ok : goal.returns-in_default-clause-ok
returns-in_default-clause-ok c =
    let row = c.args.row.now in
    let vectors : Vectors = record { vec = row.vec; got = row.got } in
    let after : Trees = record { logs = c.lay.new.logs; bases = c.args.trees.now.bases } in
    let is = of_kind row Log c.requires.kind in
    subst (λ (r : Row). Hold after (set.insert (held c.args.trees.now) r)) (sym is)
    (hold_with_log c.args.trees.now after row.pid row.interval vectors c.requires.indexed (subst (IsFree (held c.args.trees.now)) is c.requires.free)
    (rw c.of-vectors.ensures at c.in_ok-lay.ensures.ok) refl
    (λ y b near _. c.in_default.ensures y (ap is_some near.there) near.within))

pub lay-requires-clause-logs : goal.lay-requires-clause-logs
lay-requires-clause-logs c = c.requires.indexed.sorted.logs

pub lay-requires-clause-free : goal.lay-requires-clause-free
lay-requires-clause-free c = free_log c.args.trees.now c.args.row.now c.requires.kind c.requires.free

pub returns-in_err-lay-clause-err : goal.returns-in_err-lay-clause-err
returns-in_err-lay-clause-err c =
    let after : Trees = record { logs = c.lay.new.logs; bases = c.args.trees.now.bases } in
    after_error c.from_residual.result _ (hold_same c.args.trees.now after c.requires.indexed c.in_err-lay.ensures.err (same_bases c.args.trees.now.bases c.requires.indexed.sorted.bases))

pub set_last-requires-clause-bases : goal.set_last-requires-clause-bases
set_last-requires-clause-bases c = c.requires.indexed.sorted.bases
