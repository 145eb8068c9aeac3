use Rattle.std.proofs.Common.{◌≡◌, Err, IsTrue, rules}
use Rattle.sqlite.specs.Files.{file_state}
use Rattle.om_tables.specs.Store.{IsFormed, content_in, is_sure}
use Rattle.om_commands.specs.Replay.{IsReplayError, IsReplayText}
use Rattle.om_look_commands.proofs.LookLemmas.{text_in, error_in}
use Rattle.om_look_commands.proofs.replaying.replayed_of_two.Goals as goal

pub returns-clause-text : goal.returns-clause-text
returns-clause-text c = λ formed.
    text_in c.replay_over-told.result.0 tt c.new-text.result.items c.replay_over-told.new.writer.items (λ text. IsReplayText (content_in (file_state c.args.conn).now) c.args.interval text)
    c.in_ok-known.ensures.told c.new-text.ensures.items (c.replay_over-told.ensures.text c.in_ok-known.ensures.sure formed)

pub returns-in_err-known-clause-error : goal.returns-in_err-known-clause-error
returns-in_err-known-clause-error c =
    let same : c.from_residual.result ≡ Err c.in_err-known.field-0.0 = search rules in
    error_in c.from_residual.result c.replay_over-told.result.0 c.in_err-known.field-0.0 (IsFormed (file_state c.args.conn)) (IsTrue (is_sure (file_state c.replay_over-told.result.1)))
    (λ e. IsReplayError (content_in (file_state c.args.conn).now) c.args.interval e) same c.in_err-known.ensures.error c.replay_over-told.ensures.error
