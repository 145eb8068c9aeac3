use Rattle.std.proofs.Common.{◌≡◌, ◌∙◌, ◌<◌, ap, arith, refl, subst}
use Rattle.om_process.specs.Core.{AreLast, CoreState}
use Rattle.om_process.specs.Flights.{Carries, landed}
use Rattle.om_node.specs.Nodes.{NodeState}
use Rattle.om_node.proofs.FlightLemmas.{flight_fits}
use Rattle.om_node.proofs.HoldLemmas.{held_here, node_here}
use Rattle.om_node.proofs.OnWay.{node_refused, node_stored, node_through}
use Rattle.om_node.proofs.node.Node.store.Goals as goal

pub write-requires : goal.write-requires
write-requires g c =
    let core = c.self.inside.core.value in
    let same : c.interval.result ≡ core.now.interval = c.interval.ensures.interval ∙ ap (λ (d : CoreState). d.now.interval) c.deref.ensures in
    let last : AreLast core.now.interval core.log =
    subst (λ (d : CoreState). AreLast d.now.interval d.log) c.deref.ensures
    (subst (λ x. AreLast x c.deref.result.now.log) c.interval.ensures.interval c.interval.ensures.log) in
    let within : core.now.interval < 4294967296 = omega arith in
    let first : c.in_ok-flight.flight.first < 4294967296 = omega arith in
    flight_fits c.args.k c.args.is_checkpoint_due core c.in_ok-flight.flight
    (subst (λ (d : CoreState). Carries c.args.k c.args.is_checkpoint_due d c.in_ok-flight.flight) c.deref_mut.ensures.value c.in_ok-flight.ensures.carries)
    last within first

pub invariant_of-self-in_err-write : goal.invariant_of-self-in_err-write
invariant_of-self-in_err-write g c =
    let e = c.in_err-write.ensures in
    let held = node_here _ _ _ _ _ c.in-Here.store c.self.invariant c.in-Here.is in
    held_here _ _ _ _ _
    (node_refused _ _ _ _ _ _ _ _ (node_through _ _ _ _ _ _ _ _ refl c.deref_mut-2.ensures.value held)
    (c.in_ok-flight.ensures.same ∙ c.deref_mut.ensures.value) e.used.clean e.used.sound e.refused)

pub invariant_of-self-in_err-land : goal.invariant_of-self-in_err-land
invariant_of-self-in_err-land g c =
    let e = c.in_ok-write.ensures in
    let core = c.self.inside.core.value in
    let flight = c.in_ok-flight.flight in
    let same : c.land.new.self ≡ core = c.in_err-land.ensures.refused ∙ c.deref_mut-3.ensures.value ∙ c.in_ok-flight.ensures.same ∙ c.deref_mut.ensures.value in
    let held = node_here _ _ _ _ _ c.in-Here.store c.self.invariant c.in-Here.is in
    held_here _ _ _ _ _
    (node_stored _ _ _ _ _ _ _ _ c.args.k c.args.is_checkpoint_due flight c.args.prune_to
    (node_through _ _ _ _ _ _ _ _ refl c.deref_mut-2.ensures.value held)
    (subst (λ (d : CoreState). Carries c.args.k c.args.is_checkpoint_due d flight) c.deref_mut.ensures.value c.in_ok-flight.ensures.carries)
    (ap (λ (d : CoreState). d.own) same) (ap (λ (d : CoreState). d.now) same) e.used.clean e.used.sound e.put)

pub invariant_of-self-2 : goal.invariant_of-self-2
invariant_of-self-2 g c =
    let e = c.in_ok-write.ensures in
    let core = c.self.inside.core.value in
    let flight = c.in_ok-flight.flight in
    let same : c.deref_mut-3.result.now ≡ core = c.deref_mut-3.ensures.value ∙ c.in_ok-flight.ensures.same ∙ c.deref_mut.ensures.value in
    let went : c.land.new.self ≡ landed flight core = c.in_ok-land.ensures.landed ∙ ap (landed flight) same in
    let held = node_here _ _ _ _ _ c.in-Here.store c.self.invariant c.in-Here.is in
    held_here _ _ _ _ _
    (node_stored _ _ _ _ _ _ _ _ c.args.k c.args.is_checkpoint_due flight c.args.prune_to
    (node_through _ _ _ _ _ _ _ _ refl c.deref_mut-2.ensures.value held)
    (subst (λ (d : CoreState). Carries c.args.k c.args.is_checkpoint_due d flight) c.deref_mut.ensures.value c.in_ok-flight.ensures.carries)
    (ap (λ (d : CoreState). d.own) went) (ap (λ (d : CoreState). d.now) went) e.used.clean e.used.sound e.put)

pub returns-clause-stored : goal.returns-clause-stored
returns-clause-stored g c =
    let flight = c.in_ok-flight.flight in
    let old : c.self.inside.core.value ≡ c.args.self.now.core = ap (λ (d : NodeState). d.core) c.self.view_is in
    let same : c.deref_mut-3.result.now ≡ c.args.self.now.core = c.deref_mut-3.ensures.value ∙ c.in_ok-flight.ensures.same ∙ c.deref_mut.ensures.value ∙ old in (
      flight,
      subst (λ (d : CoreState). Carries c.args.k c.args.is_checkpoint_due d flight) (c.deref_mut.ensures.value ∙ old) c.in_ok-flight.ensures.carries,
      c.in_ok-land.ensures.landed ∙ ap (landed flight) same,
    )
