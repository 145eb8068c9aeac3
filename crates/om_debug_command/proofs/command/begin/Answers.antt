use Rattle.om_debug_command.proofs.Opening.{begun_at}
use Rattle.om_debug_command.proofs.command.begin.Goals as goal

pub returns-clause-opened : goal.returns-clause-opened
returns-clause-opened c =
    begun_at c.args.script.now c.programs-programs.result.now c.args.process.now c.place.result c.in-Some.place c.in_ok-stand.field-0
    c.programs-programs.ensures c.place.ensures.place c.in-Some.is c.in_ok-stand.ensures
