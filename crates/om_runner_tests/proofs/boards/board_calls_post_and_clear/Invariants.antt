use Rattle.std.specs.Prelude.{[]}
use Rattle.om_runner_tests.proofs.boards.board_calls_post_and_clear.Given as goal

abbrev pub ghosts-rows_of_a_board : goal.ghosts-rows_of_a_board
ghosts-rows_of_a_board g a = record { cell = a.blank; programs = []; OverClean = ⊥ }
