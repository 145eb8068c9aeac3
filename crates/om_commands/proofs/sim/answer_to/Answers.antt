use Rattle.std.proofs.Common.{string_bytes}
use Rattle.om_commands.proofs.SimLemmas.{error_of_answer, text_of_answer}
use Rattle.om_commands.proofs.sim.answer_to.Goals as goal

pub returns-clause-text : goal.returns-clause-text
returns-clause-text g c =
    text_of_answer c.args.form string_bytes (g.R.Read.remaining c.args.reader.now) c.new.result c.in_ok-script.script c.answer.result c.new.ensures
    c.in_ok-script.ensures.script c.answer.ensures.text

pub returns-clause-error : goal.returns-clause-error
returns-clause-error g c =
    error_of_answer (g.R.Read.remaining c.args.reader.now) c.new.result c.in_ok-script.script c.answer.result c.new.ensures
    c.in_ok-script.ensures.script c.answer.ensures.error
