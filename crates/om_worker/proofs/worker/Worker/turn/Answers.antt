use Rattle.std.proofs.Common.{ap, refl, sym}
use Rattle.om_worker_parts.proofs.ActLemmas.{still_process}
use Rattle.om_worker_parts.specs.Places.{member_of}
use Rattle.om_worker.proofs.worker.Worker.turn.Goals as goal

pub go_on-requires : goal.go_on-requires
go_on-requires g c =
    let own = c.args.self.now.links.ends.own in
    still_process _ _ _ _ own own (member_of c.args.state) c.in-Up.node.member (sym (ap member_of c.in-Up.is)) refl c.requires.process

pub join-requires-clause-process : goal.join-requires-clause-process
join-requires-clause-process g c =
    let own = c.args.self.now.links.ends.own in
    still_process _ _ _ _ own own (member_of c.args.state) c.in-MustJoin.node.member (sym (ap member_of c.in-MustJoin.is)) refl c.requires.process
