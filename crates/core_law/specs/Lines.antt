-- Letters on a link stand in line: by their places, and by their stamps.
use Rattle.std.specs.Prelude.{ℕ, ◌+◌, ◌≡◌, ◌<◌, ◌≤◌, List, [], ◌∷◌, slice_index_or}
use Rattle.adlb_unit.specs.Links.{place_of}
use Rattle.adlb_unit.specs.declared.actors.Actor.{Actor}
use Rattle.adlb_unit.specs.declared.actors.Actor.TheVariants as by
use Rattle.adlb_unit.specs.declared.configs.Config.{Config}
use Rattle.adlb_unit.specs.declared.letters.Letter.{Letter}
use Rattle.rank_client.specs.State.{ClientModel}
use Rattle.server_law.specs.State.{ServerModel}
use Rattle.core_run.specs.World.{World, client_of, link, pool_of}

-- their places follow one another, from the first to before the next
abbrev pub AreConsecutive : ℕ → List Letter → ℕ → Type 0
AreConsecutive first [] next = first ≡ next
AreConsecutive first (l ∷ letters) next = (l.place ≡ first) × AreConsecutive (first + 1) letters next

-- their stamps are above 0, do not fall below this one or along the line, and are not past the last
abbrev pub AreStamped : ℕ → List Letter → ℕ → Type 0
AreStamped low [] last = low ≤ last
AreStamped low (l ∷ letters) last = (0 < l.stamp) × (low ≤ l.stamp) × AreStamped l.stamp letters last

-- how many letters the rank, and the server, sent to the actor
abbrev pub rank_sent : ClientModel → Actor → ℕ
rank_sent s (by.Server to) = slice_index_or s.sent to.0 0
rank_sent s (by.Rank to) = 0

-- how many letters the server has sent to the actor
abbrev pub server_sent : Config → ServerModel → Actor → ℕ
server_sent config s to = slice_index_or s.sent (place_of config to) 0

-- how many letters went from the one actor to the other
abbrev pub sent_by : World → Actor → Actor → ℕ
sent_by w (by.Rank from) to = rank_sent (client_of w from) to
sent_by w (by.Server from) to = server_sent w.config (pool_of w from) to

-- the stamp of the actor's last event
abbrev pub clock_of : World → Actor → ℕ
clock_of w (by.Rank rank) = (client_of w rank).clock
clock_of w (by.Server server) = (pool_of w server).clock

-- the letters from the one actor to the other are the last that were sent, in order
pub record IsInLine (w : World) (from to : Actor) : Type 0 where
  pub first : ℕ
  pub places : AreConsecutive first (link w.links (place_of w.config from) (place_of w.config to)) (sent_by w from to)
  pub stamps : AreStamped 0 (link w.links (place_of w.config from) (place_of w.config to)) (clock_of w from)
