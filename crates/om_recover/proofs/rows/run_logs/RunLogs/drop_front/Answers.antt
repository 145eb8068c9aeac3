use Rattle.std.proofs.Common.{◌≡◌, ◌∙◌, ◌+◌, ◌-◌, ◌≤◌, List, ap, arith, drop, length}
use Rattle.om_recover.specs.declared.rows.trees.Vectors.{Vectors}
use Rattle.om_recover.proofs.FlatLemmas.{length-vectors, starts_within, dropped_flat}
use Rattle.om_recover.proofs.rows.run_logs.RunLogs.drop_front.Goals as goal

pub overflow_add-gone : goal.overflow_add-gone
overflow_add-gone c = omega (arith, c.self.invariant.within)

pub overflow_mul-gone : goal.overflow_mul-gone
overflow_mul-gone c =
    let inside = c.self.inside in
    let fewer : c.args.dropped ≤ inside.count = omega (arith, c.requires, length-vectors inside.n inside.count (drop inside.gone inside.numbers.items), ap length c.self.view_is) in
    omega (arith, starts_within inside.n inside.count inside.gone c.args.dropped inside.numbers.items c.self.invariant fewer, inside.numbers.ok.0, inside.numbers.ok.1, inside.numbers.small)

pub overflow_add-gone-2 : goal.overflow_add-gone-2
overflow_add-gone-2 c =
    let inside = c.self.inside in
    let fewer : c.args.dropped ≤ inside.count = omega (arith, c.requires, length-vectors inside.n inside.count (drop inside.gone inside.numbers.items), ap length c.self.view_is) in
    omega (arith, starts_within inside.n inside.count inside.gone c.args.dropped inside.numbers.items c.self.invariant fewer, inside.numbers.ok.0, inside.numbers.ok.1, inside.numbers.small)

pub settle-self-inside-requires : goal.settle-self-inside-requires
settle-self-inside-requires c =
    let inside = c.self.inside in
    let fewer : c.args.dropped ≤ inside.count = omega (arith, c.requires, length-vectors inside.n inside.count (drop inside.gone inside.numbers.items), ap length c.self.view_is) in
    starts_within inside.n inside.count inside.gone c.args.dropped inside.numbers.items c.self.invariant fewer

pub overflow_sub-self : goal.overflow_sub-self
overflow_sub-self c =
    let inside = c.self.inside in
    omega (arith, c.requires, length-vectors inside.n inside.count (drop inside.gone inside.numbers.items), ap length c.self.view_is)

pub invariant_of-self : goal.invariant_of-self
invariant_of-self c =
    let inside = c.self.inside in
    let fewer : c.args.dropped ≤ inside.count = omega (arith, c.requires, length-vectors inside.n inside.count (drop inside.gone inside.numbers.items), ap length c.self.view_is) in
    let parts : inside.count ≡ c.args.dropped + (inside.count - c.args.dropped) = omega (arith, fewer) in
    (dropped_flat inside.n inside.count inside.gone c.args.dropped (inside.count - c.args.dropped) c.settle-self-inside.result inside.numbers.items c.settle-self-inside.new.numbers.items c.self.invariant parts c.settle-self-inside.ensures.left c.settle-self-inside.ensures.within).0

pub returns : goal.returns
returns c =
    let inside = c.self.inside in
    let fewer : c.args.dropped ≤ inside.count = omega (arith, c.requires, length-vectors inside.n inside.count (drop inside.gone inside.numbers.items), ap length c.self.view_is) in
    let parts : inside.count ≡ c.args.dropped + (inside.count - c.args.dropped) = omega (arith, fewer) in
    (dropped_flat inside.n inside.count inside.gone c.args.dropped (inside.count - c.args.dropped) c.settle-self-inside.result inside.numbers.items c.settle-self-inside.new.numbers.items c.self.invariant parts c.settle-self-inside.ensures.left c.settle-self-inside.ensures.within).1
    ∙ ap (λ (logs : List Vectors). drop c.args.dropped logs) c.self.view_is
