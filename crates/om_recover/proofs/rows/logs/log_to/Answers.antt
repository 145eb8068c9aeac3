use Rattle.std.proofs.Common.{arith}
use Rattle.om_recover.proofs.RunLemmas.{either_way, none_to, other_to, run_to}
use Rattle.om_recover.proofs.rows.logs.log_to.Goals as goal

pub returns-in_default : goal.returns-in_default
returns-in_default c =
    let no_run = rw c.deref.ensures.value at c.in_default.ensures in
    either_way c.other_to.result (λ none. none_to c.args.logs.now c.args.pid c.args.to no_run none)
    (λ found near. other_to c.args.logs.now _ _ _ _ c.requires (λ y other among within. absurd (no_run y other among within)) near) c.other_to.ensures

pub returns-in_default-other_to : goal.returns-in_default-other_to
returns-in_default-other_to c =
    let ran = rw c.deref.ensures.value at c.in-Some.ensures in
    run_to c.args.logs.now _ _ _ _ (λ y some within. absurd (c.in_default-other_to.ensures y some within)) ran

pub returns-then-ran-other : goal.returns-then-ran-other
returns-then-ran-other c =
    let ran = rw c.deref.ensures.value at c.in-Some.ensures in
    other_to c.args.logs.now _ _ _ _ c.requires (λ y other among within. omega (arith, ran.nearest y other among within, c.if-ran-other.true)) c.in-Some-other_to.ensures

pub returns-else-ran-other : goal.returns-else-ran-other
returns-else-ran-other c =
    let ran = rw c.deref.ensures.value at c.in-Some.ensures in
    run_to c.args.logs.now _ _ _ _ (λ y some within. omega (arith, c.in-Some-other_to.ensures.nearest y some within, c.if-ran-other.false)) ran

pub returns-then-ran-to : goal.returns-then-ran-to
returns-then-ran-to c =
    let ran = rw c.deref.ensures.value at c.in-Some.ensures in
    run_to c.args.logs.now _ _ _ _ (λ y some within. omega (arith, within, c.if-ran-to.true)) ran
