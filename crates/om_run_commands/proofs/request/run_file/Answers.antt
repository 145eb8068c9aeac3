use Rattle.std.specs.Prelude.{IsTrue}
use Rattle.std.specs.Io.KnownBytes.{Keeps}
use Rattle.om_run_commands.proofs.ModeLemmas.{error_of_answer, partly_of_answer, text_of_answer}
use Rattle.om_run_commands.proofs.request.run_file.Goals as goal

pub returns-in-Ok-clause-text : goal.returns-in-Ok-clause-text
returns-in-Ok-clause-text g c =
    let told = c.run_read in
    text_of_answer c.args.mode c.args.form ((store : g.row.O-Store.Denot) → IsTrue (g.O.Store.Stable.is_clean store)) (g.I.Read.remaining c.args.reader.now)
    c.new.result c.in-Ok.script told.result.0 (g.W.Write.contents c.args.writer) (g.W.Write.contents told.result.1) c.new.ensures
    c.in-Ok.ensures.script told.ensures.text

pub returns-in-Ok-clause-error : goal.returns-in-Ok-clause-error
returns-in-Ok-clause-error g c =
    let told = c.run_read in
    error_of_answer c.args.mode (g.I.Read.remaining c.args.reader.now) c.new.result c.in-Ok.script told.result.0 c.new.ensures
    c.in-Ok.ensures.script told.ensures.error

pub returns-in-Ok-clause-partly : goal.returns-in-Ok-clause-partly
returns-in-Ok-clause-partly g c follows =
    let told = c.run_read in
    partly_of_answer c.args.mode c.args.form ((store : g.row.O-Store.Denot) → IsTrue (g.O.Store.Stable.is_clean store)) (g.I.Read.remaining c.args.reader.now)
    c.new.result c.in-Ok.script told.result.0 (g.W.Write.contents c.args.writer) (g.W.Write.contents told.result.1)
    (Keeps (g.W.Write.contents c.args.writer) (g.W.Write.contents told.result.1)) c.new.ensures c.in-Ok.ensures.script (told.ensures.partly follows)
