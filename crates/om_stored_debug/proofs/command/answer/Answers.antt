use Rattle.om_stored_debug.proofs.Showing.{served_of}
use Rattle.om_stored_debug.proofs.command.answer.Goals as goal

pub returns-in-Ok-clause-served : goal.returns-in-Ok-clause-served
returns-in-Ok-clause-served g c =
    served_of c.args.debugger (g.P.Read.remaining c.args.packets.now) (g.P.Read.remaining c.serve.new.reader) (g.W.Write.contents c.args.writer.now) (g.W.Write.contents c.serve.new.writer)
    c.in-Ok.ensures.served
