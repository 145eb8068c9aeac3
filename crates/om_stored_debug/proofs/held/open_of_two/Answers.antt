use Rattle.std.proofs.Common.{Err, IsTrue, Ok, refl}
use Rattle.sqlite.specs.Files.{file_state}
use Rattle.om_commands.specs.declared.error.CommandError.{CommandError}
use Rattle.om_debug.specs.Stops.{DebugState}
use Rattle.om_tables.specs.Store.{IsFormed, content_in, is_sure}
use Rattle.om_stored_debug.specs.Shown.{IsErrorOfStore, IsShown}
use Rattle.om_stored_debug.proofs.Holding.{made_if, refused_if, refused_known}
use Rattle.om_stored_debug.proofs.held.open_of_two.Goals as goal

pub returns-in-Ok-clause-opened : goal.returns-in-Ok-clause-opened
returns-in-Ok-clause-opened c =
    made_if c.open_over-shown.result.0 (IsFormed (file_state c.args.conn)) (λ (d : DebugState). IsShown (content_in (file_state c.args.conn).now) c.args.interval d)
    (c.open_over-shown.ensures.opened c.in-Ok.ensures.sure)

pub returns-in-Ok-clause-error : goal.returns-in-Ok-clause-error
returns-in-Ok-clause-error c =
    refused_if c.open_over-shown.result.0 (IsFormed (file_state c.args.conn)) (λ (e : CommandError). IsErrorOfStore (content_in (file_state c.args.conn).now) c.args.interval e)
    (c.open_over-shown.ensures.error c.in-Ok.ensures.sure)

pub returns-in-Err-clause-error : goal.returns-in-Err-clause-error
returns-in-Err-clause-error c =
    refused_known {X = DebugState} (Err c.in-Err.error) (Ok tt) c.in-Err.error (IsFormed (file_state c.args.conn)) (IsTrue (is_sure (file_state c.open_over-shown.result.1)))
    (λ (e : CommandError). IsErrorOfStore (content_in (file_state c.args.conn).now) c.args.interval e) refl refl c.in-Err.ensures.error
