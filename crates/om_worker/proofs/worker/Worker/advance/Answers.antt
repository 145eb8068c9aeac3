use Rattle.std.proofs.Common.{ap}
use Rattle.om_worker_parts.proofs.ActLemmas.{still_process}
use Rattle.om_links.specs.Links.{EndsState}
use Rattle.om_worker.proofs.worker.Worker.advance.Goals as goal

pub report-requires : goal.report-requires
report-requires g c =
    let ran = c.in_ok-status.ensures in
    still_process _ _ _ _ c.args.self.now.links.ends.own c.run.new.self.links.ends.own c.args.node.now.member c.run.new.node.member ran.member (ap (λ (l : EndsState). l.own) ran.same) c.requires
