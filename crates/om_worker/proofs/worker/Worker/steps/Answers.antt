use Rattle.std.proofs.Common.{ap}
use Rattle.om_worker_parts.proofs.ActLemmas.{still_process}
use Rattle.om_links.specs.Links.{EndsState}
use Rattle.om_worker.proofs.worker.Worker.steps.Goals as goal

pub step-requires : goal.step-requires
step-requires g c =
    let is = c.loop-turns.invariant in
    still_process _ _ _ _ c.args.self.now.links.ends.own c.loop-turns.self.links.ends.own c.args.node.now.member c.loop-turns.node.member is.member (ap (λ (l : EndsState). l.own) is.same) c.requires

pub step-requires-2 : goal.step-requires-2
step-requires-2 g c =
    let is = c.loop-turns.invariant in
    still_process _ _ _ _ c.args.self.now.links.ends.own c.loop-turns.self.links.ends.own c.args.node.now.member c.loop-turns.node.member is.member (ap (λ (l : EndsState). l.own) is.same) c.requires
