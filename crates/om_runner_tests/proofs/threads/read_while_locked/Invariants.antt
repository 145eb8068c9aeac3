use Rattle.std.specs.Prelude.{[]}
use Rattle.om_runner_tests.proofs.threads.read_while_locked.Given as goal

abbrev pub ghosts-read_beside_the_lock : goal.ghosts-read_beside_the_lock
ghosts-read_beside_the_lock g a = record { cell = a.blank; programs = []; OverClean = ⊥ }
