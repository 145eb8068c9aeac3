use Rattle.std.specs.Prelude.{[]}
use Rattle.om_runner_tests.proofs.threads.meet_then_read.Given as goal

abbrev pub ghosts-met_and_read : goal.ghosts-met_and_read
ghosts-met_and_read g a = record { cell = a.blank; programs = []; OverClean = ⊥ }
