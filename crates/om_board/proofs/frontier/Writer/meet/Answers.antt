use Rattle.std.proofs.Common.{sym, ap, ◌∙◌}
use Rattle.om_board.specs.declared.cell.View.{View}
use Rattle.om_board.proofs.frontier.Writer.meet.Goals as goal

pub copy_of-copy-requires-clause-own : goal.copy_of-copy-requires-clause-own
copy_of-copy-requires-clause-own g c = c.pass.invariant.own ∙ sym c.args.frontier.now.named

pub copy_of-copy-requires-clause-reads : goal.copy_of-copy-requires-clause-reads
copy_of-copy-requires-clause-reads g c = c.pass.invariant.reads

pub show-requires-clause-own : goal.show-requires-clause-own
show-requires-clause-own g c = c.self.invariant.own ∙ sym c.args.frontier.now.named

pub show-requires-clause-other_own : goal.show-requires-clause-other_own
show-requires-clause-other_own g c = c.copy_of-copy.ensures.copy_own ∙ c.pass.invariant.own ∙ sym c.self.invariant.own

pub compare-requires-clause-own : goal.compare-requires-clause-own
compare-requires-clause-own g c = c.show.ensures.own ∙ c.self.invariant.own ∙ sym c.args.frontier.now.named

pub compare-requires-clause-writes : goal.compare-requires-clause-writes
compare-requires-clause-writes g c = ap (λ (v : View). v.writes) c.show.ensures.view ∙ ap (λ (v : View). v.writes) c.self.invariant.writes
