use Rattle.std.proofs.Common.{◌≡◌}
use Rattle.std.specs.Prelude.{IsTrue}
use Rattle.std.specs.Io.KnownBytes.{Keeps}
use Rattle.om_run_commands.proofs.RawLemmas.{bytes_of_report, part_of_bytes}
use Rattle.om_run_commands.proofs.followed_raw.run_followed_bytes.Goals as goal

pub returns-in-Ok-ended-clause-text : goal.returns-in-Ok-ended-clause-text
returns-in-Ok-ended-clause-text g c =
    let run = c.run_and_follow-ended in
    bytes_of_report c.args.pid ((store : g.row.O-Store.Denot) → IsTrue (g.O.Store.Stable.is_clean store)) c.args.script.now c.in-Ok.config.images.items
    run.result.0 c.in-Ok-ended.report (g.W.Write.contents c.args.writer) (g.W.Write.contents run.result.1.writer) (run.result.1.pid ≡ c.args.pid)
    c.in-Ok-ended.is c.in-Ok.ensures.programs
    run.ensures.told

pub returns-clause-partly : goal.returns-clause-partly
returns-clause-partly g c =
    let run = c.run_and_follow-ended in
    part_of_bytes c.args.pid ((store : g.row.O-Store.Denot) → IsTrue (g.O.Store.Stable.is_clean store)) c.args.script.now c.in-Ok.config.images.items
    run.result.0 c.in-Err.fault c.error_of.result (run.result.1.pid ≡ c.args.pid)
    (g.W.Write.contents c.args.writer) (g.W.Write.contents run.result.1.writer)
    (Keeps (g.W.Write.contents c.args.writer) (g.W.Write.contents run.result.1.writer))
    c.in-Err.is c.in-Ok.ensures.programs c.error_of.ensures.unwanted c.error_of.ensures.run run.ensures.partly
