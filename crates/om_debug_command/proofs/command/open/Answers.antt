use Rattle.om_debug_command.proofs.Opening.{error_of_opening, opened_of}
use Rattle.om_debug_command.proofs.command.open.Goals as goal

pub returns-clause-opened : goal.returns-clause-opened
returns-clause-opened g c =
    opened_of (g.R.Read.remaining c.args.input.now) c.new.result c.in_ok-script.script c.args.process.now c.begin.result c.new.ensures
    c.in_ok-script.ensures.script c.begin.ensures.opened

pub returns-clause-error : goal.returns-clause-error
returns-clause-error g c =
    error_of_opening (g.R.Read.remaining c.args.input.now) c.new.result c.in_ok-script.script c.args.process.now c.begin.result c.new.ensures
    c.in_ok-script.ensures.script c.begin.ensures.error
