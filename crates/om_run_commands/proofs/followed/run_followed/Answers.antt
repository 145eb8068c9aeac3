use Rattle.std.proofs.Common.{◌≡◌}
use Rattle.std.specs.Prelude.{IsTrue}
use Rattle.std.specs.Io.KnownBytes.{Keeps}
use Rattle.om_run_commands.proofs.FollowLemmas.{part_of_run, text_of_report}
use Rattle.om_run_commands.proofs.followed.run_followed.Goals as goal

pub returns-in-Ok-write_ends-clause-text : goal.returns-in-Ok-write_ends-clause-text
returns-in-Ok-write_ends-clause-text g c =
    let run = c.run_and_follow-ended in
    text_of_report c.args.form ((store : g.row.O-Store.Denot) → IsTrue (g.O.Store.Stable.is_clean store)) c.args.script.now c.programs-programs.result.now
    c.in-Ok.config.images.items run.result.0 c.in-Ok-ended.report c.deref.result.now
    (g.W.Write.contents c.args.writer) (g.W.Write.contents run.result.1.writer) (g.W.Write.contents c.write_ends.new.writer)
    ((run.result.1.programs.now ≡ c.programs-programs.result.now) × (run.result.1.form ≡ c.args.form))
    c.in-Ok-ended.is c.programs-programs.ensures c.in-Ok.ensures.programs
    run.ensures.told
    c.deref.ensures.value c.in-Ok-write_ends.ensures.text

pub returns-in-Err-clause-partly : goal.returns-in-Err-clause-partly
returns-in-Err-clause-partly g c =
    let run = c.run_and_follow-ended in
    part_of_run c.args.form ((store : g.row.O-Store.Denot) → IsTrue (g.O.Store.Stable.is_clean store)) c.args.script.now c.programs-programs.result.now
    c.in-Ok.config.images.items run.result.0 c.in-Err.fault c.error_of.result
    ((run.result.1.programs.now ≡ c.programs-programs.result.now) × (run.result.1.form ≡ c.args.form))
    (g.W.Write.contents c.args.writer) (g.W.Write.contents run.result.1.writer)
    (Keeps (g.W.Write.contents c.args.writer) (g.W.Write.contents run.result.1.writer))
    c.in-Err.is c.programs-programs.ensures c.in-Ok.ensures.programs c.error_of.ensures.unwanted c.error_of.ensures.run run.ensures.partly
