use Rattle.std.proofs.Common.{ap, ◌∙◌}
use Rattle.om_worker_parts.proofs.ActLemmas.{still_process}
use Rattle.om_links.specs.Links.{EndsState}
use Rattle.om_worker_parts.specs.Places.{member_of}
use Rattle.om_worker.proofs.turns.turns_until_over.Goals as goal

pub take_turn-requires-clause-process : goal.take_turn-requires-clause-process
take_turn-requires-clause-process g c =
    let same = c.loop-left.invariant in
    still_process _ _ _ _ c.args.worker.now.links.ends.own c.allow.new.self.links.ends.own (member_of c.args.state) (member_of c.loop-left.state) same.1 (ap (λ (l : EndsState). l.own) (c.allow.ensures ∙ same.0)) c.requires.process
