use Rattle.std.proofs.Common.{◌≡◌, ◌++◌, take, string_bytes}
use Rattle.om_commands.specs.steps.Lines.{answers_text}
use Rattle.om_commands.proofs.sim_text.push_answers.Given as goal

abbrev pub invariant-loop-answer : goal.invariant-loop-answer
invariant-loop-answer l = string_bytes l.text ≡ string_bytes l.initial.text ++ answers_text l.state (take l.answer-index l.answers)
