use Rattle.std.specs.Prelude.{ℕ, Vec}
use Rattle.std.specs.declared.alloc.Global.{Global}
use Rattle.std.proofs.Common.{◌≡◌, ap}
use Rattle.sqlite.specs.Files.{file_state}
use Rattle.om_look_commands.specs.Looks.{IsShownWithBodies}
use Rattle.om_look_commands.proofs.LookLemmas.{held_along, settled_along, text_of_five, text_of_two}
use Rattle.om_look_commands.proofs.bodies.shown.Goals as goal

pub returns-in-Ok-clause-text : goal.returns-in-Ok-clause-text
returns-in-Ok-clause-text c =
    text_of_five c.args.bytes.now.file.items c.args.bytes.now.log.items (file_state c.in_ok-opened.field-0).now c.shown_of_five.result (λ (text : Vec ℕ Global) held. IsShownWithBodies c.args.form held text.items)
    c.in_ok-opened.ensures.held c.in-Ok.ensures.tables

pub returns-in-Err-clause-text : goal.returns-in-Err-clause-text
returns-in-Err-clause-text c =
    let same : c.in-Err.conn ≡ c.in_ok-opened.field-0 = ap (λ e. e.1) c.in-Err.ensures.refused in
    text_of_two c.args.bytes.now.file.items c.args.bytes.now.log.items (file_state c.in-Err.conn) c.shown_of_two.result (λ (text : Vec ℕ Global) held. IsShownWithBodies c.args.form held text.items)
    (held_along c.args.bytes.now.file.items c.args.bytes.now.log.items c.in_ok-opened.field-0 c.in-Err.conn same c.in_ok-opened.ensures.held)
    (settled_along c.in_ok-opened.field-0 c.in-Err.conn same c.in_ok-opened.ensures.settled) c.shown_of_two.ensures.text
