use Rattle.std.proofs.Common.{ap, refl}
use Rattle.om_worker_parts.proofs.ActLemmas.{still_process}
use Rattle.om_links.specs.Links.{EndsState}
use Rattle.om_worker.proofs.worker.Worker.go_on.Goals as goal

pub steps-requires : goal.steps-requires
steps-requires g c =
    let m = c.args.node.member in
    still_process _ _ _ _ c.args.self.now.links.ends.own c.waits_for_others.new.self.links.ends.own m m refl (ap (λ (l : EndsState). l.own) c.waits_for_others.ensures) c.requires
