use Rattle.std.proofs.Common.{arith}
use Rattle.om_recover.proofs.RunLemmas.{either_way, none_from, other_from, run_from}
use Rattle.om_recover.proofs.rows.logs.log_from.Goals as goal

pub returns-in_default : goal.returns-in_default
returns-in_default c =
    let no_run = rw c.deref.ensures.value at c.in_default.ensures in
    either_way c.other_from.result (λ none. none_from c.args.logs.now c.args.pid c.args.from no_run none)
    (λ found near. other_from c.args.logs.now _ _ _ _ c.requires (λ y other among within. absurd (no_run y other among within)) near) c.other_from.ensures

pub returns-in_default-other_from : goal.returns-in_default-other_from
returns-in_default-other_from c =
    let ran = rw c.deref.ensures.value at c.in-Some.ensures in
    run_from c.args.logs.now _ _ _ _ (λ y some within. absurd (c.in_default-other_from.ensures y some within)) ran

pub returns-then-other-ran : goal.returns-then-other-ran
returns-then-other-ran c =
    let ran = rw c.deref.ensures.value at c.in-Some.ensures in
    other_from c.args.logs.now _ _ _ _ c.requires (λ y other among within. omega (arith, ran.nearest y other among within, c.if-other-ran.true)) c.in-Some-other_from.ensures

pub returns-else-other-ran : goal.returns-else-other-ran
returns-else-other-ran c =
    let ran = rw c.deref.ensures.value at c.in-Some.ensures in
    run_from c.args.logs.now _ _ _ _ (λ y some within. omega (arith, c.in-Some-other_from.ensures.nearest y some within, c.if-other-ran.false)) ran
