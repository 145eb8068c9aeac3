use Rattle.std.proofs.Common.{arith, refl}
use Rattle.om_recover.specs.declared.rows.trees.Run.{Run}
use Rattle.om_recover.proofs.RunPartLemmas.{pruned_run, items_left}
use Rattle.om_recover.proofs.rows.cutting.prune_run.Goals as goal

pub drop_front-requires : goal.drop_front-requires
drop_front-requires c = omega (arith, c.min-gone.ensures, c.len.ensures)

pub returns : goal.returns
returns c =
    let before = c.in-Some.ensures in
    let after : Run = record { first = c.args.from; logs = c.drop_front.new.self } in
    pruned_run c.args.run.now after c.args.from c.in-Some.before (omega (arith, before.0, before.1)) refl
    (items_left c.args.run.now.logs _ c.in-Some.before c.min-gone.result (omega (arith, c.min-gone.ensures, c.len.ensures)) c.drop_front.ensures)
