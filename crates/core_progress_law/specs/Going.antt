-- What keeps a run of several servers going: news, a check that is wanted, and a check that goes round and finds all as it was.
use Rattle.std.specs.Prelude.{◌≡◌, ◌<◌, ◌⊎◌, ℕ, true}
use Rattle.adlb_unit.specs.declared.actors.Actor.{Actor}
use Rattle.adlb_unit.specs.declared.actors.Actor.TheVariants as by
use Rattle.adlb_unit.specs.declared.messages.Message.{Message}
use Rattle.adlb_unit.specs.declared.messages.Message.TheVariants as tells
use Rattle.adlb_unit.specs.declared.names.Server.{Server}
use Rattle.server_law.specs.Acts.{zeroth}
use Rattle.core_law.specs.Letters.{no_rank, no_server}
use Rattle.core_law.specs.Measures.{Weights, links_weight, measure}
use Rattle.core_run.specs.World.{World, pool_of}
use Rattle.core_check_law.specs.OnWay.{IsUnchanged, last_check}
use Rattle.core_wish_law.specs.News.{news}

-- 1 for the news that a test failed
abbrev pub is_failed : Message → ℕ
is_failed (tells.Failed t why) = 1
is_failed _ = 0

-- such news between servers
abbrev pub failed_letter : Actor → Actor → Message → ℕ
failed_letter (by.Server from) (by.Server to) m = is_failed m
failed_letter (by.Server from) (by.Rank to) m = 0
failed_letter (by.Rank from) to m = 0

-- letters that a test failed
abbrev pub failures : Weights
failures = record { letter = failed_letter; server = no_server; rank = no_rank; server_due = no_server; rank_due = no_rank }

-- there is news, the end was found, or a check is wanted
abbrev pub IsLive : World → Type 0
IsLive w = (0 < measure news w) ⊎ ((pool_of w zeroth).kept.shut ≡ true) ⊎ ((pool_of w zeroth).kept.ring.wanted ≡ true)

-- a check goes round, no test of it has failed, and no server that has its mark has changed since
pub record IsTurning (w : World) : Type 0 where
  pub runs : (pool_of w zeroth).kept.ring.runs ≡ true
  pub none : links_weight w.config failures w.links ≡ 0
  pub same : (t : Server) → t.0 < w.config.servers → (pool_of w t).kept.ring.number ≡ last_check w → IsUnchanged (pool_of w t)

-- there is news or a check that is wanted, or one goes round
abbrev pub Goes : World → Type 0
Goes w = IsLive w ⊎ IsTurning w
