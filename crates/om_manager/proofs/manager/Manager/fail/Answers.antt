use Rattle.std.proofs.Common.{◌≢◌, ◌∙◌, ap, rules, slice_set, subst}
use Rattle.om_manager.specs.Gatherings.{presence_of, presences_of}
use Rattle.om_manager.specs.Notes.{IsCurrent}
use Rattle.om_manager.specs.Rounds.{Gathers, Fails}
use Rattle.om_manager.specs.steps.Presences.{with_failed}
use Rattle.om_manager.specs.declared.presence.Presence.TheVariants.{Failed}
use Rattle.om_manager.specs.Sound.{IsManager}
use Rattle.om_manager.proofs.ManagerLemmas.{whole}
use Rattle.om_manager.proofs.manager.Manager.fail.Goals as goal

pub returns-then-index-n-clause-sound : goal.returns-then-index-n-clause-sound
returns-then-index-n-clause-sound c = subst IsManager c.self.view_is (whole _ _ _ _ _ _ _ _ c.self.invariant)

pub returns-then-round-self-clause-sound : goal.returns-then-round-self-clause-sound
returns-then-round-self-clause-sound c = subst IsManager c.self.view_is (whole _ _ _ _ _ _ _ _ c.self.invariant)

pub returns-in_err-presences-clause-sound : goal.returns-in_err-presences-clause-sound
returns-in_err-presences-clause-sound c = subst IsManager c.self.view_is (whole _ _ _ _ _ _ _ _ c.self.invariant)

pub returns-then-eq-clause-sound : goal.returns-then-eq-clause-sound
returns-then-eq-clause-sound c = subst IsManager c.self.view_is (whole _ _ _ _ _ _ _ _ c.self.invariant)

pub returns-in-Ok-clause-answer : goal.returns-in-Ok-clause-answer
returns-in-Ok-clause-answer c =
    let current : IsCurrent c.args.self.now c.args.pid c.args.round = search rules in
    let unspent = c.in_ok-presences.ensures.unspent in
    let before = c.in_ok-presences.ensures.presences in
    let first : presence_of (presences_of c.args.self.now.gathering) c.args.pid ≢ Failed = search rules in
    let gathers : Gathers (with_failed c.args.self.now c.args.pid) c.args.self.now c.in-Ok.gathered c.gather.new.self =
    subst (λ all. Gathers all c.args.self.now c.in-Ok.gathered c.gather.new.self)
    (ap (λ all. slice_set all c.index-3.result Failed) before ∙ ap (λ p. slice_set (presences_of c.args.self.now.gathering) p Failed) c.index-3.ensures.place)
    (c.gather.ensures.gathered c.in-Ok.gathered c.in-Ok.is) in
    (current, unspent, Fails.first first gathers)
