use Rattle.std.proofs.Common.{List, ℕ, length, ◌<◌, ◌≤◌, refl, subst, arith}
use Rattle.om_debug_command.specs.Symbols.{IsRun}
use Rattle.om_debug_command.proofs.Knowing.{known_all, known_more, unknown_at}
use Rattle.om_debug_command.proofs.symbols.check_known.Goals as goal

pub returns-then-not-is_run-clause-refused : goal.returns-then-not-is_run-clause-refused
returns-then-not-is_run-clause-refused c =
    let less : c.loop-one.one-index < length c.args.symbols.now = omega arith in (
      refl,
      unknown_at c.args.programs.now c.args.symbols.now c.loop-one.one-index c.one-item.result less c.one-item.is
          (subst (λ (p : List ℕ). IsRun c.args.programs.now p → ⊥) c.deref.ensures c.if-not-is_run.ensures),
    )

pub loop-one-preserved : goal.loop-one-preserved
loop-one-preserved c =
    let less : c.loop-one.one-index < length c.args.symbols.now = omega arith in
    known_more c.args.programs.now c.args.symbols.now c.loop-one.one-index c.one-item.result c.loop-one.invariant less c.one-item.is
    (subst (IsRun c.args.programs.now) c.deref.ensures c.if-not-is_run.ensures)

pub returns-clause-known : goal.returns-clause-known
returns-clause-known c =
    let all : length c.args.symbols.now ≤ c.loop-one.one-index = omega arith in
    known_all c.args.programs.now c.args.symbols.now c.loop-one.one-index all c.loop-one.invariant
