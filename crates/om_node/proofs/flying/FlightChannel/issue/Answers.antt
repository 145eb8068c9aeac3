use Rattle.om_node.proofs.HoldLemmas.{request_issued}
use Rattle.om_node.proofs.flying.FlightChannel.issue.Goals as goal

pub returns-clause-ticket : goal.returns-clause-ticket
returns-clause-ticket g c =
    request_issued c.issue.result c.args.store.now c.args.transaction.now _ c.of-sent.result c.of-sent.ensures.store c.of-sent.ensures.transaction c.issue.ensures.ticket
