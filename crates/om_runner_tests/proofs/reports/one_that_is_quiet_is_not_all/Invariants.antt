use Rattle.std.specs.Prelude.{[]}
use Rattle.om_runner_tests.proofs.reports.one_that_is_quiet_is_not_all.Given as goal

abbrev pub ghosts-one_is_quiet : goal.ghosts-one_is_quiet
ghosts-one_is_quiet g a = record { cell = a.blank; programs = []; OverClean = ⊥ }
