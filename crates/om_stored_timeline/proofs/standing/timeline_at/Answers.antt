use Rattle.std.proofs.Common.{ℕ, ◌≡◌, ◌∙◌, Ok, Some, None, ap, refl, sym, subst}
use Rattle.std.specs.Prelude.{IsErrOf}
use Rattle.std.proofs.lemmas.Result.{IfOk-weaker}
use Rattle.om_format.specs.CheckpointViews.{checkpoint_record}
use Rattle.om_machine.specs.State.{State}
use Rattle.om_process.specs.declared.replay.ReplayFault.TheVariants.{Fault}
use Rattle.om_stable.specs.Calls.{IsCleanCall}
use Rattle.om_stable.specs.Content.{Content}
use Rattle.om_stored_timeline.specs.Following.{IsToldFrom}
use Rattle.om_stored_timeline.proofs.Placing.{at_begin, at_replay, uses_more}
use Rattle.om_stored_timeline.proofs.standing.timeline_at.Goals as goal

pub returns-in-Some-clause-stands : goal.returns-in-Some-clause-stands
returns-in-Some-clause-stands g c = λ known begins replay.
    let held : Content = g.S.Stable.content c.args.store.now in
    let own : ℕ = c.args.checkpoint.now.head.pid in
    let found : c.standing_at.result ≡ Ok (Some c.in-Some.timeline) = c.in_ok-timeline-2.was ∙ ap Ok c.in-Some.is in
    at_begin held c.args.x own c.n.result c.args.checkpoint.now.head.interval c.event_of.result (checkpoint_record c.args.checkpoint.now) c.args.there.now c.in_ok-first.first c.in_ok-timeline.timeline
    c.in-Some.timeline begins replay refl refl c.n.ensures.places refl c.in_ok-first.ensures c.event_of.ensures (c.in_ok-timeline.ensures.told known) (c.standing_at.ensures.at c.in-Some.timeline found)
    (c.standing_at.ensures.here c.in-Some.timeline found ∙ c.machine.ensures)

pub returns-in_ok-first-in-None-clause-stands : goal.returns-in_ok-first-in-None-clause-stands
returns-in_ok-first-in-None-clause-stands g c = λ known begins replay.
    let held : Content = g.S.Stable.content c.args.store.now in
    let own : ℕ = c.args.checkpoint.now.head.pid in
    let none : c.standing_at.result ≡ Ok None = c.in_ok-timeline-2.was ∙ ap Ok c.in-None.is in
    let first = c.in_ok-timeline.ensures.used in
    let second = c.told_from-in-None.ensures.used in
    let known_first : IsCleanCall g.S.Stable.is_clean g.S.Stable.IsSound c.args.store.now c.told_from.new.store = (second.clean known.0, known.1) in
    let known_second : IsCleanCall g.S.Stable.is_clean g.S.Stable.IsSound c.told_from.new.store c.told_from-in-None.new.store = (known.0, first.sound (second.clean known.0) known.1) in
    let same : g.S.Stable.content c.told_from.new.store ≡ held = c.in_ok-timeline.ensures.same known_first in
    let machine : c.in_ok-first-in-None.first ≡ c.args.there.now.now.machine = c.in_ok-first-in-None.ensures ∙ c.machine-in-None.ensures in
    IfOk-weaker c.told_from-in-None.result _ _ (λ t told.
    at_replay held c.args.x own c.n.result c.args.checkpoint.now.head.interval c.event_of.result (checkpoint_record c.args.checkpoint.now) c.args.there.now c.in_ok-first.first c.in_ok-timeline.timeline c.in_ok-timeline.timeline t
    begins replay refl refl c.n.ensures.places refl c.in_ok-first.ensures c.event_of.ensures (c.in_ok-timeline.ensures.told known_first)
    (λ far here. c.standing_at.ensures.elsewhere none far (here ∙ sym c.machine.ensures))
    (subst (λ (m : State). IsToldFrom held.receipts own c.n.result c.args.x m t) machine (subst (λ (k : Content). IsToldFrom k.receipts own c.n.result c.args.x c.in_ok-first-in-None.first t) same told)))
    (c.told_from-in-None.ensures.told known_second)

pub returns-in_ok-first-in-None-clause-used : goal.returns-in_ok-first-in-None-clause-used
returns-in_ok-first-in-None-clause-used g c =
    uses_more g.S.Stable.failed g.S.Stable.is_clean g.S.Stable.IsSound c.args.store.now c.told_from.new.store c.told_from-in-None.new.store _ (IsErrOf c.told_from-in-None.result Fault) c.in_ok-timeline.ensures.used c.told_from-in-None.ensures.used
