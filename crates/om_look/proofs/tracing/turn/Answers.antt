use Rattle.std.proofs.Common.{◌≡◌, ◌++◌, ◌∙◌, ap, refl, subst, arith}
use Rattle.om_machine.specs.State.{State}
use Rattle.om_process.specs.Core.{cluster_size}
use Rattle.om_process.specs.Turns.{Turns}
use Rattle.om_look.specs.steps.Emitted.{made_text, place_of}
use Rattle.om_look.specs.steps.Writes.{line_text}
use Rattle.om_look.specs.steps.Before.{IsBefore}
use Rattle.om_look.proofs.TurnLemmas.{no_turn, traced_once}
use Rattle.om_look.proofs.tracing.turn.Goals as goal

pub returns-in_default-clause-stands : goal.returns-in_default-clause-stands
returns-in_default-clause-stands c same =
    let core = c.args.core.now in
    let trap = rw c.machine.ensures at c.in_default.ensures.none in
    (no_turn core.own (cluster_size core.now) core.now trap.0 trap.1, refl, refl)

pub returns-clause-turn : goal.returns-clause-turn
returns-clause-turn c same =
    let core = c.args.core.now in
    let after = c.run.new.self in
    let n = cluster_size core.now in
    let b = c.in-Some.before in
    let once : c.in_ok-ran.ran.steps ≡ 1 = omega (arith, c.in_ok-ran.ensures.within, c.if-ran-eq0.false) in
    let turns : Turns core.own n 1 core.now after.now = subst (λ k. Turns core.own n k core.now after.now) once c.in_ok-ran.ensures.turns in
    let is : IsBefore core.now.machine b = subst (λ (m : State). IsBefore m b) c.machine.ensures c.in-Some.ensures.before in
    let first : c.push_line.new.text.items ≡ c.args.text.now.items ++ line_text b.count b.pc b.word b.inst b.address b.event after.now.machine =
    c.in_ok-push_line.ensures ∙ ap (λ (m : State). c.args.text.now.items ++ line_text b.count b.pc b.word b.inst b.address b.event m) c.machine-2.ensures in
    let second : c.push_made.new.text.items ≡ c.push_line.new.text.items ++ made_text b.event (place_of n b.event) c.kept_of-kept.result after.now.queues =
    c.in_ok-push_made.ensures ∙ ap (λ k. c.push_line.new.text.items ++ made_text b.event (place_of k b.event) c.kept_of-kept.result after.now.queues) c.run.ensures.size in
    traced_once core.own n core.now after.now b c.args.text.now.items c.push_line.new.text.items c.push_made.new.text.items c.kept_of-kept.result turns is c.kept_of-kept.ensures first second
