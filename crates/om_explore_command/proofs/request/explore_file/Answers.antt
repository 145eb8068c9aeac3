use Rattle.om_explore_command.proofs.RequestLemmas.{error_of_answer, text_of_answer}
use Rattle.om_explore_command.proofs.request.explore_file.Goals as goal

pub returns-in-Ok-clause-text : goal.returns-in-Ok-clause-text
returns-in-Ok-clause-text g c =
    text_of_answer c.args.options.now.form c.args.options.now.is_all (g.I.Read.remaining c.args.reader.now) c.new-script.result c.in-Ok.script c.write_explored.result
    (g.W.Write.contents c.args.writer.now) (g.W.Write.contents c.write_explored.new.writer) c.new-script.ensures c.in-Ok.ensures.script
    c.write_explored.ensures.text

pub returns-in-Ok-clause-error : goal.returns-in-Ok-clause-error
returns-in-Ok-clause-error g c =
    error_of_answer (g.I.Read.remaining c.args.reader.now) c.new-script.result c.in-Ok.script c.write_explored.result c.new-script.ensures
    c.in-Ok.ensures.script c.write_explored.ensures.error
