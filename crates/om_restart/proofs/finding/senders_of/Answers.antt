use Rattle.std.proofs.Common.{rules, ◌≡◌, ◌<◌, ◌++◌, length, get_or}
use Rattle.om_restart.proofs.SenderLemmas.{senders_more}
use Rattle.om_restart.proofs.finding.senders_of.Goals as goal

pub loop-first-preserved : goal.loop-first-preserved
loop-first-preserved c =
    let rows = c.args.rows.now in let item = c.loop-first-item.result in let senders = c.loop-first.senders.items in
    let within : c.loop-first.first-index < length rows = search rules in
    let here : item ≡ get_or rows c.loop-first.first-index item = search rules in
    let next : item.0 ≡ length senders = search rules in
    let more : c.extend_from_slice.new.self.items ≡ senders ++ item.1.items = search rules in
    rw more (senders_more rows c.loop-first.first-index item senders within here c.loop-first.invariant next)
