use Rattle.om_board.proofs.inbox.Inbox.new.Given as goal

abbrev pub ghosts-roles : goal.ghosts-roles
ghosts-roles a = record { from = a.from; to = a.to }
