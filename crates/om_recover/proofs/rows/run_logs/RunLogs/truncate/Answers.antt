use Rattle.std.proofs.Common.{◌∙◌, ◌≤◌, List, ap, sym, arith, drop, take, take_all, length}
use Rattle.om_recover.specs.declared.rows.trees.Vectors.{Vectors}
use Rattle.om_recover.proofs.FlatLemmas.{length-vectors, starts_within, truncated_flat}
use Rattle.om_recover.proofs.rows.run_logs.RunLogs.truncate.Goals as goal

pub returns-then-self-kept : goal.returns-then-self-kept
returns-then-self-kept c =
    let inside = c.self.inside in
    let few : length c.args.self.now ≤ c.args.kept = omega (arith, c.if-self-kept.true, length-vectors inside.n inside.count (drop inside.gone inside.numbers.items), ap length c.self.view_is) in
    sym (take_all c.args.kept c.args.self.now few)

pub overflow_add-self-inside : goal.overflow_add-self-inside
overflow_add-self-inside c = omega (arith, c.self.invariant.within)

pub overflow_mul-kept : goal.overflow_mul-kept
overflow_mul-kept c =
    let inside = c.self.inside in
    omega (arith, starts_within inside.n inside.count inside.gone c.args.kept inside.numbers.items c.self.invariant (omega (arith, c.if-self-kept.false)), inside.numbers.ok.0, inside.numbers.ok.1, inside.numbers.small)

pub overflow_add-self-inside-2 : goal.overflow_add-self-inside-2
overflow_add-self-inside-2 c =
    let inside = c.self.inside in
    omega (arith, starts_within inside.n inside.count inside.gone c.args.kept inside.numbers.items c.self.invariant (omega (arith, c.if-self-kept.false)), inside.numbers.ok.0, inside.numbers.ok.1, inside.numbers.small)

pub invariant_of-self : goal.invariant_of-self
invariant_of-self c =
    let inside = c.self.inside in
    (truncated_flat inside.n inside.count inside.gone c.args.kept inside.numbers.items c.truncate.new.self.items c.self.invariant (omega (arith, c.if-self-kept.false)) c.truncate.ensures.items).0

pub returns : goal.returns
returns c =
    let inside = c.self.inside in
    (truncated_flat inside.n inside.count inside.gone c.args.kept inside.numbers.items c.truncate.new.self.items c.self.invariant (omega (arith, c.if-self-kept.false)) c.truncate.ensures.items).1
    ∙ ap (λ (logs : List Vectors). take c.args.kept logs) c.self.view_is
