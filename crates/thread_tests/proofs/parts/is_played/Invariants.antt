use Rattle.rank_mail.specs.Mailboxes.{places_of}
use Rattle.thread_tests.proofs.parts.is_played.Given as goal

-- the mailboxes that were just made
abbrev pub ghosts-is_played_over : goal.ghosts-is_played_over
ghosts-is_played_over g a = record { places = places_of a.mail.inboxes.items }
