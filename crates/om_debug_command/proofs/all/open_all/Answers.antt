use Rattle.om_debug_command.proofs.Opening.{all_opened, error_of_all}
use Rattle.om_debug_command.proofs.all.open_all.Goals as goal

pub returns-clause-opened : goal.returns-clause-opened
returns-clause-opened g c =
    all_opened (g.R.Read.remaining c.args.input.now) c.new.result c.in_ok-script.script c.args.symbols.now c.begin_all.result c.new.ensures
    c.in_ok-script.ensures.script c.begin_all.ensures.opened

pub returns-clause-error : goal.returns-clause-error
returns-clause-error g c =
    error_of_all (g.R.Read.remaining c.args.input.now) c.new.result c.in_ok-script.script c.args.symbols.now c.begin_all.result c.new.ensures
    c.in_ok-script.ensures.script c.begin_all.ensures.error
