use Rattle.std.proofs.Common.{◌≡◌, ◌∙◌, ap, refl}
use Rattle.om_process.specs.Core.{CoreState}
use Rattle.om_process.specs.Flights.{landed}
use Rattle.om_node.proofs.HoldLemmas.{held_here, held_landed, held_refused}
use Rattle.om_node.proofs.node.Node.land.Goals as goal

pub invariant_of-self : goal.invariant_of-self
invariant_of-self g c =
    let same : c.landing.inside.ticket ≡ c.in-Away.stub = c.is_of.ensures c.if-not-is_of.false in
    held_here _ _ _ _ _ (held_refused _ _ _ _ _ _ _ _ _ _ _ c.self.invariant c.in-Away.is c.landing.invariant same c.in_err-told.was refl)

pub invariant_of-self-in_err-land : goal.invariant_of-self-in_err-land
invariant_of-self-in_err-land g c =
    let same : c.landing.inside.ticket ≡ c.in-Away.stub = c.is_of.ensures c.if-not-is_of.false in
    let stays : c.land.new.self ≡ c.self.inside.core.value = c.in_err-land.ensures.refused ∙ c.deref_mut.ensures.value in
    held_here _ _ _ _ _
    (held_landed _ _ _ _ _ _ _ _ _ _ _ c.self.invariant c.in-Away.is c.landing.invariant same c.in_ok-told.was
    (ap (λ (d : CoreState). d.own) stays) (ap (λ (d : CoreState). d.now) stays))

pub invariant_of-self-2 : goal.invariant_of-self-2
invariant_of-self-2 g c =
    let same : c.landing.inside.ticket ≡ c.in-Away.stub = c.is_of.ensures c.if-not-is_of.false in
    let flight = c.landing.inside.transaction.flight in
    let went : c.land.new.self ≡ landed flight c.self.inside.core.value = c.in_ok-land.ensures.landed ∙ ap (landed flight) c.deref_mut.ensures.value in
    held_here _ _ _ _ _
    (held_landed _ _ _ _ _ _ _ _ _ _ _ c.self.invariant c.in-Away.is c.landing.invariant same c.in_ok-told.was
    (ap (λ (d : CoreState). d.own) went) (ap (λ (d : CoreState). d.now) went))
