use Rattle.std.specs.Prelude.{IsTrue}
use Rattle.std.specs.Io.KnownBytes.{Keeps}
use Rattle.om_run_commands.proofs.ModeLemmas.{partly_of_context}
use Rattle.om_run_commands.proofs.request.run_script.Goals as goal

pub returns-in-Err-clause-partly : goal.returns-in-Err-clause-partly
returns-in-Err-clause-partly g c follows =
    partly_of_context c.args.mode c.args.form ((store : g.row.O-Store.Denot) → IsTrue (g.O.Store.Stable.is_clean store)) c.args.script.now c.programs-2.result.now
    c.in-Err.error (g.W.Write.contents c.args.writer) (Keeps (g.W.Write.contents c.args.writer) (g.W.Write.contents c.args.writer))
    c.in-Err.ensures c.programs-2.ensures follows c.if-lacks.ensures.1
