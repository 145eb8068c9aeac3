use Rattle.std.proofs.Common.{◌≡◌, ◌∙◌, ◌<◌, ap, arith, subst}
use Rattle.om_process.specs.Core.{AreLast, CoreState}
use Rattle.om_process.specs.Flights.{Carries}
use Rattle.om_node.proofs.FlightLemmas.{flight_fits}
use Rattle.om_node.proofs.node.Node.pack.Goals as goal

pub invariant_of-transaction : goal.invariant_of-transaction
invariant_of-transaction g c =
    let core = c.self.inside.core.value in
    let same : c.interval.result ≡ core.now.interval = c.interval.ensures.interval ∙ ap (λ (d : CoreState). d.now.interval) c.deref.ensures in
    let last : AreLast core.now.interval core.log =
    subst (λ (d : CoreState). AreLast d.now.interval d.log) c.deref.ensures
    (subst (λ x. AreLast x c.deref.result.now.log) c.interval.ensures.interval c.interval.ensures.log) in
    let within : core.now.interval < 4294967296 = omega arith in
    let first : c.in_ok-flight.flight.first < 4294967296 = omega arith in
    record {
      fits = flight_fits c.args.k c.args.is_checkpoint_due core c.in_ok-flight.flight
          (subst (λ (d : CoreState). Carries c.args.k c.args.is_checkpoint_due d c.in_ok-flight.flight) c.deref_mut.ensures.value c.in_ok-flight.ensures.carries)
          last within first;
    }
