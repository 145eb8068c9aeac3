use Rattle.om_tickets.proofs.tests.a_ticket_is_known_by_its_stub.Given as goal

-- the book that was just opened
abbrev pub ghosts-known : goal.ghosts-known
ghosts-known g a = record { book = a.opened.seen.book }
