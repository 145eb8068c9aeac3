use Rattle.std.proofs.Common.{◌<◌, ◌∙◌, ap, arith, length, map, subst, sym}
use Rattle.om_manager.specs.Outputs.{AreNumbered, held_of}
use Rattle.om_manager.specs.State.{released_by}
use Rattle.om_world.specs.World.{WorldState}
use Rattle.om_world.proofs.Lists.{lent_at}
use Rattle.om_world.proofs.stopped.Stopped.released.Goals as goal

pub index-outputs-requires : goal.index-outputs-requires
index-outputs-requires g c =
    let lt = subst (λ (w : WorldState). c.args.pid < length w.programs) (sym c.self.view_is) c.requires in
    let many = c.self.invariant.many in let is = c.index-p.ensures.place in
    subst (λ n. c.index-p.result < n) (sym c.self.inside.released.ok.0) (omega arith)

pub returns-clause-outputs : goal.returns-clause-outputs
returns-clause-outputs g c =
    let lt = subst (λ (w : WorldState). c.args.pid < length w.programs) (sym c.self.view_is) c.requires in
    let many = c.self.invariant.many in let is = c.index-p.ensures.place in
    let at = lent_at _ c.index-p.result _ (omega arith) c.index-outputs.ensures in
    let log = c.self.invariant.released c.index-p.result _ at in
    ap (map held_of) c.as_slice.ensures.value ∙ log.0 ∙ ap (released_by c.self.inside.manager.value) is ∙ ap (λ (w : WorldState). released_by w.manager c.args.pid) c.self.view_is

pub returns-clause-numbered : goal.returns-clause-numbered
returns-clause-numbered g c =
    let lt = subst (λ (w : WorldState). c.args.pid < length w.programs) (sym c.self.view_is) c.requires in
    let many = c.self.invariant.many in let is = c.index-p.ensures.place in
    let at = lent_at _ c.index-p.result _ (omega arith) c.index-outputs.ensures in
    let log = c.self.invariant.released c.index-p.result _ at in
    subst AreNumbered (sym c.as_slice.ensures.value) log.1
