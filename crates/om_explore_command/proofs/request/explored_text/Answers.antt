use Rattle.std.proofs.Common.{string_bytes}
use Rattle.om_explore_command.proofs.RequestLemmas.{explore_answer, reports_of}
use Rattle.om_explore_command.proofs.request.explored_text.Goals as goal

pub exploration_text-requires : goal.exploration_text-requires
exploration_text-requires g c =
    let programs = c.programs-programs.result.now in
    reports_of c.args.script.now.cluster programs programs c.in_ok-exploration.exploration c.programs-programs.ensures c.programs-programs.ensures
    c.in_ok-exploration.ensures.found

pub returns-clause-text : goal.returns-clause-text
returns-clause-text g c =
    let programs = c.programs-programs.result.now in
    explore_answer c.args.options.now.form c.args.options.now.is_all c.args.script.now programs programs c.in_ok-exploration.exploration
    (string_bytes c.in_ok-exploration_text.field-0) c.programs-programs.ensures c.programs-programs.ensures c.in_ok-exploration.ensures.found
    c.in_ok-exploration_text.ensures
