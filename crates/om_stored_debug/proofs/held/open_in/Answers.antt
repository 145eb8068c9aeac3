use Rattle.std.proofs.Common.{◌≡◌, ap}
use Rattle.sqlite.specs.Files.{file_state}
use Rattle.om_debug.specs.Stops.{DebugState}
use Rattle.om_stored_debug.specs.Shown.{IsErrorOfStore, IsShown}
use Rattle.om_stored_debug.proofs.Holding.{error_of_five, error_of_two, held_along, settled_along, shown_of_five, shown_of_two}
use Rattle.om_stored_debug.proofs.held.open_in.Goals as goal

pub returns-in-Ok-clause-opened : goal.returns-in-Ok-clause-opened
returns-in-Ok-clause-opened c =
    shown_of_five c.args.bytes.now.file.items c.args.bytes.now.log.items (file_state c.in_ok-opened.field-0).now c.open_of_five.result (λ (d : DebugState) held. IsShown held c.args.interval d)
    c.in_ok-opened.ensures.held c.in-Ok.ensures.tables

pub returns-in-Err-clause-opened : goal.returns-in-Err-clause-opened
returns-in-Err-clause-opened c =
    let same : c.in-Err.conn ≡ c.in_ok-opened.field-0 = ap (λ e. e.1) c.in-Err.ensures.refused in
    shown_of_two c.args.bytes.now.file.items c.args.bytes.now.log.items (file_state c.in-Err.conn) c.open_of_two.result (λ (d : DebugState) held. IsShown held c.args.interval d)
    (held_along c.args.bytes.now.file.items c.args.bytes.now.log.items c.in_ok-opened.field-0 c.in-Err.conn same c.in_ok-opened.ensures.held)
    (settled_along c.in_ok-opened.field-0 c.in-Err.conn same c.in_ok-opened.ensures.settled) c.open_of_two.ensures.opened

pub returns-in-Ok-clause-error : goal.returns-in-Ok-clause-error
returns-in-Ok-clause-error c =
    error_of_five c.args.bytes.now.file.items c.args.bytes.now.log.items (file_state c.in_ok-opened.field-0).now c.open_of_five.result (λ held e. IsErrorOfStore held c.args.interval e)
    c.in_ok-opened.ensures.held c.in-Ok.ensures.tables

pub returns-in-Err-clause-error : goal.returns-in-Err-clause-error
returns-in-Err-clause-error c =
    let same : c.in-Err.conn ≡ c.in_ok-opened.field-0 = ap (λ e. e.1) c.in-Err.ensures.refused in
    error_of_two c.args.bytes.now.file.items c.args.bytes.now.log.items (file_state c.in-Err.conn) c.open_of_two.result (λ held e. IsErrorOfStore held c.args.interval e)
    (held_along c.args.bytes.now.file.items c.args.bytes.now.log.items c.in_ok-opened.field-0 c.in-Err.conn same c.in_ok-opened.ensures.held)
    (settled_along c.in_ok-opened.field-0 c.in-Err.conn same c.in_ok-opened.ensures.settled) c.open_of_two.ensures.error
