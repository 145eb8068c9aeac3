use Rattle.om_tables.specs.Store.{is_sure}
use Rattle.sqlite.specs.Files.{file_state}
use Rattle.std.specs.Prelude.{IsTrue}
use Rattle.om_look_commands.proofs.LookLemmas.{memory_is_sure, sure_if_answered, with_sure}
use Rattle.om_look_commands.proofs.opening.known.Goals as goal

pub returns-in-Ok-clause-sure : goal.returns-in-Ok-clause-sure
returns-in-Ok-clause-sure c = sure_if_answered c.still_answers.result c.in_memory.result c.args.conn c.in-Ok.field-0 c.in-Ok.is c.still_answers.ensures

pub returns-in-Ok-clause-error : goal.returns-in-Ok-clause-error
returns-in-Ok-clause-error c = with_sure c.in_memory.result c.args.told (IsTrue (is_sure (file_state c.args.conn))) (memory_is_sure c.args.conn c.in-Ok.ensures) c.in_memory.ensures.error
