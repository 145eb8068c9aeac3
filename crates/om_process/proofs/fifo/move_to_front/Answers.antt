use Rattle.std.proofs.Common.{arith, ap, length, ◌∙◌, ◌+◌, ◌-◌}
use Rattle.std.proofs.lemmas.List.Edits.{length-swap}
use Rattle.om_process.proofs.Fifos.{moved_none, moved_more, moved_all}
use Rattle.om_process.proofs.fifo.move_to_front.Goals as goal

pub loop-k-init : goal.loop-k-init
loop-k-init g c = moved_none c.args.items.now.items c.args.from

pub loop-k-preserved : goal.loop-k-preserved
loop-k-preserved g c = moved_more c.args.items.now.items c.loop-k.items.items c.swap.new.self.items c.args.from c.loop-k.k c.loop-k.invariant c.swap.ensures.by_index
    (ap length c.swap.ensures.items ∙ length-swap c.loop-k.items.items c.loop-k.k (c.args.from + c.loop-k.k))

pub returns : goal.returns
returns g c =
    c.truncate.ensures.items
    ∙ moved_all c.args.items.now.items c.loop-k.items.items c.args.from (c.len.result - c.args.from) c.loop-k.k (omega (arith, c.len.ensures)) c.requires.within (omega arith) c.loop-k.invariant
