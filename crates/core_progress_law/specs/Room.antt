-- How many letters are under way to one actor.
use Rattle.std.specs.Prelude.{ℕ, zero, suc, ◌+◌, ◌-◌, ◌*◌, ◌==◌, Bool, true, false, ◌&&◌, if◌then◌else◌}
use Rattle.adlb_unit.specs.Targets.{home_of}
use Rattle.adlb_unit.specs.declared.actors.Actor.{Actor}
use Rattle.adlb_unit.specs.declared.actors.Actor.TheVariants as by
use Rattle.adlb_unit.specs.declared.configs.Config.{Config}
use Rattle.adlb_unit.specs.declared.messages.Message.{Message}
use Rattle.adlb_unit.specs.declared.messages.Message.TheVariants as tells
use Rattle.adlb_unit.specs.declared.names.Rank.{Rank}
use Rattle.adlb_unit.specs.declared.names.Server.{Server}
use Rattle.core_run.specs.World.{World, rank_named}
use Rattle.core_law.specs.Letters.{one}
use Rattle.core_law.specs.Measures.{links_weight}
use Rattle.core_law.specs.Pushed.{letters_of}

-- To a rank.

-- 1 for a letter to the rank
abbrev pub rank_letter : Rank → Actor → Actor → Message → ℕ
rank_letter r (by.Server from) (by.Rank to) m = one (to.0 == r.0)
rank_letter r _ to m = 0

-- how many letters are on their way to the rank
abbrev pub to_rank : World → Rank → ℕ
to_rank w r = links_weight w.config (letters_of (rank_letter r)) w.links

-- To a server.

-- 1 for a letter to the server
abbrev pub server_letter : Server → Actor → Actor → Message → ℕ
server_letter t from (by.Server to) m = one (to.0 == t.0)
server_letter t from (by.Rank to) m = 0

-- how many letters are on their way to the server
abbrev pub to_server : World → Server → ℕ
to_server w t = links_weight w.config (letters_of (server_letter t)) w.links

-- Of them those of one kind.

-- 1 for a letter of this kind to the server
abbrev pub kind_letter : (Message → Bool) → Server → Actor → Actor → Message → ℕ
kind_letter is t from (by.Server to) m = one (is m && (to.0 == t.0))
kind_letter is t from (by.Rank to) m = 0

-- the word that a unit is free for a rank that waits
abbrev pub is_hint : Message → Bool
is_hint (tells.Hint rank request) = true
is_hint _ = false

-- the word that a server has become quiet
abbrev pub is_notice : Message → Bool
is_notice tells.Notice = true
is_notice _ = false

-- how many hints are on their way to the server
abbrev pub hints_to : World → Server → ℕ
hints_to w t = links_weight w.config (letters_of (kind_letter is_hint t)) w.links

-- how many notices are on their way to the server
abbrev pub notices_to : World → Server → ℕ
notices_to w t = links_weight w.config (letters_of (kind_letter is_notice t)) w.links

-- The most that there are.

-- what the numbers below the first come to
abbrev pub sum_to : ℕ → (ℕ → ℕ) → ℕ
sum_to zero f = 0
sum_to (suc n) f = f n + sum_to n f

-- two from each other server, of each rank with its home at the server
abbrev pub most_hints : Config → Server → ℕ
most_hints config t =
    sum_to config.ranks (λ n. if home_of config.servers (rank_named n) == t.0 then 2 * (config.servers - 1) else 0)

-- of each rank one more, of each push one, of a check one, and two of the ends that were found
abbrev pub most_letters : Config → Server → ℕ
most_letters config t = config.ranks + most_hints config t + config.servers + 3
