use Rattle.std.proofs.Common.{◌≡◌, ◌+◌, ◌<◌, ◌⊎◌, inl, inr, refl, arith}
use Rattle.om_recover.specs.declared.rows.trees.Run.{Run}
use Rattle.om_recover.proofs.RunPartLemmas.{cut_to_interval}
use Rattle.om_recover.proofs.rows.cutting.cut_run.Goals as goal
use Rattle.om_recover.proofs.rows.cutting.cut_run.Goals.{in-None, in-Some}

pub returns : goal.returns
returns c =
    let after : Run = record { first = c.args.run.now.first; logs = c.truncate.new.self } in
    let far : ((c.args.to < c.args.run.now.first) × (c.match-checked_sub.kept ≡ 0)) ⊎ (c.args.to + 1 ≡ c.args.run.now.first + c.match-checked_sub.kept) = elim c.match-checked_sub.branch [
      | in-None w ↦ inl (omega (arith, w.in-None.ensures), omega (arith, w.kept-is))
      | in-Some w ↦ inr (omega (arith, w.in-Some.ensures.0, w.in-Some.ensures.1, w.kept-is))
    ] in
    cut_to_interval c.args.run.now after c.args.to c.match-checked_sub.kept far refl c.truncate.ensures
