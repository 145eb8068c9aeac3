use Rattle.std.proofs.Common.{◌≡◌, sym, ap, ◌∙◌}
use Rattle.crossbeam_channel.specs.Claims.{view as knows}
use Rattle.om_board.specs.Inboxes.{Line, Traffic}
use Rattle.om_board.proofs.OrderLemmas.{sends, full}
use Rattle.om_board.proofs.inbox.Inbox.put.Goals as goal

pub try_send_as-sent-requires-clause-rule : goal.try_send_as-sent-requires-clause-rule
try_send_as-sent-requires-clause-rule g c =
    let v = knows c.pass.inside.ticket in
    let from : v.from ≡ c.args.self.now.from = ap (λ (t : Traffic). t.line.from) c.pass.view_is ∙ ap (λ (l : Line). l.from) c.requires.own in
    let to : v.to ≡ c.args.self.now.to = ap (λ (t : Traffic). t.line.to) c.pass.view_is ∙ ap (λ (l : Line). l.to) c.requires.own in
    (sends _ _ v c.args.message c.pass.invariant.1 (c.requires.pair.from ∙ sym from, c.requires.pair.to ∙ sym to), full _ v c.pass.invariant.1)
