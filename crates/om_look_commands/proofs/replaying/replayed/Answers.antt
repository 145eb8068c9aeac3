use Rattle.std.specs.Prelude.{ℕ, Vec}
use Rattle.std.specs.declared.alloc.Global.{Global}
use Rattle.std.proofs.Common.{◌≡◌, ap}
use Rattle.sqlite.specs.Files.{file_state}
use Rattle.om_commands.specs.Replay.{IsReplayError, IsReplayText}
use Rattle.om_look_commands.proofs.LookLemmas.{error_of_five, error_of_two, held_along, settled_along, text_of_five, text_of_two}
use Rattle.om_look_commands.proofs.replaying.replayed.Goals as goal

pub returns-in-Ok-clause-text : goal.returns-in-Ok-clause-text
returns-in-Ok-clause-text c =
    text_of_five c.args.bytes.now.file.items c.args.bytes.now.log.items (file_state c.in_ok-opened.field-0).now c.replayed_of_five.result (λ (text : Vec ℕ Global) held. IsReplayText held c.args.interval text.items)
    c.in_ok-opened.ensures.held c.in-Ok.ensures.tables

pub returns-in-Err-clause-text : goal.returns-in-Err-clause-text
returns-in-Err-clause-text c =
    let same : c.in-Err.conn ≡ c.in_ok-opened.field-0 = ap (λ e. e.1) c.in-Err.ensures.refused in
    text_of_two c.args.bytes.now.file.items c.args.bytes.now.log.items (file_state c.in-Err.conn) c.replayed_of_two.result (λ (text : Vec ℕ Global) held. IsReplayText held c.args.interval text.items)
    (held_along c.args.bytes.now.file.items c.args.bytes.now.log.items c.in_ok-opened.field-0 c.in-Err.conn same c.in_ok-opened.ensures.held)
    (settled_along c.in_ok-opened.field-0 c.in-Err.conn same c.in_ok-opened.ensures.settled) c.replayed_of_two.ensures.text

pub returns-in-Ok-clause-error : goal.returns-in-Ok-clause-error
returns-in-Ok-clause-error c =
    error_of_five c.args.bytes.now.file.items c.args.bytes.now.log.items (file_state c.in_ok-opened.field-0).now c.replayed_of_five.result (λ held e. IsReplayError held c.args.interval e)
    c.in_ok-opened.ensures.held c.in-Ok.ensures.tables

pub returns-in-Err-clause-error : goal.returns-in-Err-clause-error
returns-in-Err-clause-error c =
    let same : c.in-Err.conn ≡ c.in_ok-opened.field-0 = ap (λ e. e.1) c.in-Err.ensures.refused in
    error_of_two c.args.bytes.now.file.items c.args.bytes.now.log.items (file_state c.in-Err.conn) c.replayed_of_two.result (λ held e. IsReplayError held c.args.interval e)
    (held_along c.args.bytes.now.file.items c.args.bytes.now.log.items c.in_ok-opened.field-0 c.in-Err.conn same c.in_ok-opened.ensures.held)
    (settled_along c.in_ok-opened.field-0 c.in-Err.conn same c.in_ok-opened.ensures.settled) c.replayed_of_two.ensures.error
