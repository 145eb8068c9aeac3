use Rattle.std.proofs.Common.{◌≡◌, ◌+◌, refl, sym, subst, arith, true≢false}
use Rattle.om_recover.specs.Rows.{Has}
use Rattle.om_recover.specs.steps.Held.{held}
use Rattle.om_recover.specs.declared.row.RowKind.TheVariants.{Checkpoint, Log}
use Rattle.om_recover.proofs.HeldLemmas.{has_log, has_base, some_log}
use Rattle.om_recover.proofs.rows.adding.next_of_run.Goals as goal
use Rattle.om_recover.proofs.rows.adding.next_of_run.Goals.{else-is_log-via-then-is_log+else-not-is_base, else-is_log-via-else-is_log}

pub returns-then-not-is_base : goal.returns-then-not-is_base
returns-then-not-is_base c = record { behind = omega (arith, c.in_ok-y.ensures); log = has_log c.args.trees.now _ _ (c.if-is_log.ensures.0 refl) }

pub returns-else-is_log : goal.returns-else-is_log
returns-else-is_log c = λ log _.
    let next : c.in_ok-y.y ≡ c.args.last + 1 = omega (arith, c.in_ok-y.ensures) in
    elim c.else-is_log.branch [
      | else-is_log-via-then-is_log+else-not-is_base w ↦ subst (Has (held c.args.trees.now) Checkpoint c.args.pid) next (has_base c.args.trees.now _ _ (w.is_base.ensures.0 w.if-not-is_base.false))
      | else-is_log-via-else-is_log w ↦ absurd (true≢false (sym (w.if-is_log.ensures.1 (some_log _ _ _ c.requires (subst (Has (held c.args.trees.now) Log c.args.pid) (sym next) log)))))
    ]
