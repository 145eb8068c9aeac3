use Rattle.std.proofs.Common.{refl, sym, subst}
use Rattle.std.specs.FinSet as set
use Rattle.om_recover.specs.steps.Held.{held, Hold, IsFree, Reaches}
use Rattle.om_recover.specs.declared.rows.trees.Base.{Base}
use Rattle.om_recover.specs.declared.rows.trees.Trees.{Trees}
use Rattle.om_recover.specs.declared.row.Row.{Row}
use Rattle.om_recover.specs.declared.row.RowKind.TheVariants.{Checkpoint}
use Rattle.om_recover.proofs.RunLemmas.{after_error}
use Rattle.om_recover.proofs.AddingLemmas.{hold_with_base, hold_same, free_base, logs_stay, of_kind}
use Rattle.om_recover.proofs.rows.adding.add_checkpoint.Goals as goal

pub returns-clause-ok : goal.returns-clause-ok
returns-clause-ok c =
    let row = c.args.row.now in
    let base : Base = record { vectors = record { vec = row.vec; got = row.got }; last = c.reach_of-last.result } in
    let after : Trees = record { logs = c.args.trees.now.logs; bases = c.store.new.bases } in
    let is = of_kind row Checkpoint c.requires.kind in
    subst (λ (r : Row). Hold after (set.insert (held c.args.trees.now) r)) (sym is)
    (hold_with_base c.args.trees.now after row.pid row.interval base c.requires.indexed (subst (IsFree (held c.args.trees.now)) is c.requires.free)
    c.in_ok-store.ensures.ok refl
    (subst (λ (r : Row). Reaches (set.insert (held c.args.trees.now) r) r.pid r.interval c.reach_of-last.result) is c.reach_of-last.ensures))

pub store-requires-clause-bases : goal.store-requires-clause-bases
store-requires-clause-bases c = c.requires.indexed.sorted.bases

pub store-requires-clause-free : goal.store-requires-clause-free
store-requires-clause-free c = free_base c.args.trees.now c.args.row.now c.requires.kind c.requires.free

pub returns-in_err-store-clause-err : goal.returns-in_err-store-clause-err
returns-in_err-store-clause-err c =
    let after : Trees = record { logs = c.args.trees.now.logs; bases = c.store.new.bases } in
    after_error c.from_residual.result _ (hold_same c.args.trees.now after c.requires.indexed (logs_stay c.args.trees.now.logs c.requires.indexed.sorted.logs) c.in_err-store.ensures.err)
