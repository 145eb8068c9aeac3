use Rattle.std.specs.Prelude.{[]}
use Rattle.om_runner_tests.proofs.reports.no_failure_is_declared_at_the_start.Given as goal

abbrev pub ghosts-declared : goal.ghosts-declared
ghosts-declared g a = record { cell = a.blank; programs = []; OverClean = ⊥ }
