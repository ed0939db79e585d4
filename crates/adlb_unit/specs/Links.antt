-- Actors, and letters on their links.
use Rattle.std.specs.Prelude.{ℕ, ◌+◌, nat_lt, Bool, max}
use Rattle.adlb_unit.specs.declared.actors.Actor.{Actor}
use Rattle.adlb_unit.specs.declared.actors.Actor.TheVariants as by
use Rattle.adlb_unit.specs.declared.configs.Config.{Config}
use Rattle.adlb_unit.specs.declared.letters.Letter.{Letter}
use Rattle.adlb_unit.specs.declared.letters.Sending.{Sending}
use Rattle.adlb_unit.specs.declared.messages.Message.{Message}

-- the actor is one of this run
abbrev pub is_within : Config → Actor → Bool
is_within config (by.Rank rank) = nat_lt rank.0 config.ranks
is_within config (by.Server server) = nat_lt server.0 config.servers

-- the number of an actor among all: the ranks before the servers
abbrev pub place_of : Config → Actor → ℕ
place_of config (by.Rank rank) = rank.0
place_of config (by.Server server) = config.ranks + server.0

-- what is said to an actor, with its stamp and its place among the letters on the link
abbrev pub sending : ℕ → ℕ → Actor → Message → Sending
sending stamp place to message = record { to = to; letter = record { stamp = stamp; place = place; message = message } }

-- the stamp of the event that handles a letter, after an event with this stamp: one more than the greater of the two
abbrev pub stamp_after : ℕ → Letter → ℕ
stamp_after clock letter = max clock letter.stamp + 1
