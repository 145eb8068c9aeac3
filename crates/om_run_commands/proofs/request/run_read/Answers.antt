use Rattle.std.specs.Prelude.{IsTrue}
use Rattle.std.specs.Io.KnownBytes.{Keeps}
use Rattle.om_run_commands.proofs.ModeLemmas.{error_with_others, partly_with_others, text_with_others}
use Rattle.om_run_commands.proofs.request.run_read.Goals as goal

pub returns-clause-text : goal.returns-clause-text
returns-clause-text g c =
    let told = c.run_script-told in
    text_with_others c.args.mode c.args.form ((store : g.row.O-Store.Denot) → IsTrue (g.O.Store.Stable.is_clean store)) c.args.script c.draw_kills.new.script
    told.result.0 (g.W.Write.contents c.args.writer) (g.W.Write.contents told.result.1) c.draw_kills.ensures told.ensures.text

pub returns-clause-error : goal.returns-clause-error
returns-clause-error g c =
    let told = c.run_script-told in
    error_with_others c.args.mode c.args.script c.draw_kills.new.script told.result.0 c.draw_kills.ensures told.ensures.error

pub returns-clause-partly : goal.returns-clause-partly
returns-clause-partly g c follows =
    let told = c.run_script-told in
    partly_with_others c.args.mode c.args.form ((store : g.row.O-Store.Denot) → IsTrue (g.O.Store.Stable.is_clean store)) c.args.script c.draw_kills.new.script told.result.0
    (g.W.Write.contents c.args.writer) (g.W.Write.contents told.result.1) (Keeps (g.W.Write.contents c.args.writer) (g.W.Write.contents told.result.1))
    c.draw_kills.ensures (told.ensures.partly follows)
