use Rattle.om_debug_command.proofs.Opening.{served_of_all}
use Rattle.om_debug_command.proofs.all.debug_all.Goals as goal

pub returns-in-Ok-clause-served : goal.returns-in-Ok-clause-served
returns-in-Ok-clause-served g c =
    served_of_all (g.R.Read.remaining c.args.input.now) (g.P.Read.remaining c.args.packets.now) (g.P.Read.remaining c.serve.new.reader)
    (g.W.Write.contents c.args.writer.now) (g.W.Write.contents c.serve.new.writer) c.args.symbols.now c.in_ok-inferiors.inferiors
    c.in_ok-inferiors.ensures.opened c.in-Ok.ensures.served
