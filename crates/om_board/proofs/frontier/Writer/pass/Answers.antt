use Rattle.std.proofs.Common.{sym, ◌∙◌}
use Rattle.om_board.proofs.frontier.Writer.pass.Goals as goal

pub reader_of-ticket-requires : goal.reader_of-ticket-requires
reader_of-ticket-requires g c = record { own = c.self.invariant.own ∙ sym c.args.frontier.now.named }
