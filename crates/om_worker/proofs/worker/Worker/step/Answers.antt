use Rattle.std.proofs.Common.{refl}
use Rattle.om_worker_parts.proofs.ActLemmas.{still_process}
use Rattle.om_worker.proofs.worker.Worker.step.Goals as goal

pub advance-requires : goal.advance-requires
advance-requires g c =
    let own = c.args.self.now.links.ends.own in
    still_process _ _ _ _ own own c.args.node.now.member c.look.new.node.member c.in_ok-look.ensures.member refl c.requires
