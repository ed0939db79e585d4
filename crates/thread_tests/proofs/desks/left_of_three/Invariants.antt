use Rattle.rank_mail.specs.Mailboxes.{places_of}
use Rattle.thread_tests.proofs.desks.left_of_three.Given as goal

-- the mailboxes that were just made
abbrev pub ghosts-cleared : goal.ghosts-cleared
ghosts-cleared a = record { places = places_of a.inboxes.items }
