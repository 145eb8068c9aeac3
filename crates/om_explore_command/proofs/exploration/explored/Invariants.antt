use Rattle.om_explore_command.proofs.exploration.explored.Given as goal

abbrev pub ghosts-explored_of : goal.ghosts-explored_of
ghosts-explored_of g a = record { cluster = a.programs.now }
