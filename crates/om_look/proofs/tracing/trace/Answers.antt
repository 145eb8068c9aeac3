use Rattle.std.proofs.Common.{◌≡◌, ◌<◌, ◌≤◌, ◌+◌, ◌++◌, true, false, ◌∙◌, ap, sym, subst, arith, rules, append_assoc}
use Rattle.om_process.specs.Core.{CoreState, cluster_size, with_now}
use Rattle.om_process.specs.Turns.{Turns}
use Rattle.om_look.proofs.TurnLemmas.{core_traced, core_turns, traced_turns}
use Rattle.om_look.proofs.tracing.trace.Goals as goal

pub returns-in_err-turn-clause-at_most : goal.returns-in_err-turn-clause-at_most
returns-in_err-turn-clause-at_most c =
    let start = c.args.core.now in
    let mid = c.loop-steps.core in
    let inv = c.loop-steps.invariant in
    let k = c.loop-steps.steps in
    let more = c.turn.ensures.at_most in
    let few : more.0 ≤ 1 = more.1 in
    let room : k < c.args.fuel = c.loop-steps-test.true in (
      k + more.0,
      omega arith,
      core_turns start mid k more.0 c.turn.new.core.now inv.rest inv.size (traced_turns start.own (cluster_size start.now) k start.now mid.now inv.traced.0 inv.traced.1) more.2,
    )

pub returns-then-not-branch-clause-turns : goal.returns-then-not-branch-clause-turns
returns-then-not-branch-clause-turns c =
    let start = c.args.core.now in
    let inv = c.loop-steps.invariant in
    let stood : c.in_ok-turn.field-0 ≡ false = search rules in
    let same : c.turn.new.core.now ≡ c.loop-steps.core.now = (c.in_ok-turn.ensures.stands stood).1 in
    subst (Turns start.own (cluster_size start.now) c.loop-steps.steps start.now) (sym same) (traced_turns start.own (cluster_size start.now) c.loop-steps.steps start.now c.loop-steps.core.now inv.traced.0 inv.traced.1)

pub returns-then-not-branch-clause-at_most : goal.returns-then-not-branch-clause-at_most
returns-then-not-branch-clause-at_most c = (c.loop-steps.steps, c.loop-steps.invariant.within, returns-then-not-branch-clause-turns c)

pub loop-steps-preserved : goal.loop-steps-preserved
loop-steps-preserved c =
    let start = c.args.core.now in
    let mid = c.loop-steps.core in
    let after = c.turn.new.core in
    let inv = c.loop-steps.invariant in
    let k = c.loop-steps.steps in
    let went : c.in_ok-turn.field-0 ≡ true = search rules in
    let one = c.in_ok-turn.ensures.turn went in
    record {
      within = omega (arith, c.loop-steps-test.true);
      traced = (
        inv.traced.0 ++ one.0,
        core_traced start mid k after.now inv.traced.0 one.0 inv.rest inv.size inv.traced.1 one.1,
        one.2 ∙ ap (λ t. t ++ one.0) inv.traced.2 ∙ append_assoc c.args.text.now.items inv.traced.0 one.0,
      );
      rest = c.turn.ensures.rest ∙ ap (λ (m : CoreState). with_now m after.now) inv.rest;
      size = c.turn.ensures.size ∙ inv.size;
    }

pub returns-clause-turns : goal.returns-clause-turns
returns-clause-turns c =
    let start = c.args.core.now in
    let inv = c.loop-steps.invariant in
    traced_turns start.own (cluster_size start.now) c.loop-steps.steps start.now c.loop-steps.core.now inv.traced.0 inv.traced.1

pub returns-clause-at_most : goal.returns-clause-at_most
returns-clause-at_most c = (c.loop-steps.steps, c.loop-steps.invariant.within, returns-clause-turns c)
