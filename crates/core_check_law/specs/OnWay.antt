-- What a token under way says of the servers: which have taken their mark of its check, and who waited there then.
use Rattle.std.specs.Prelude.{◌≡◌, ◌≢◌, ◌<◌, ◌≤◌, ◌⊎◌, ℕ, ◌==◌, Bool, true, filter, if◌then◌else◌}
use Rattle.adlb_unit.specs.Targets.{home}
use Rattle.adlb_unit.specs.declared.actors.Actor.{Actor}
use Rattle.adlb_unit.specs.declared.actors.Actor.TheVariants as by
use Rattle.adlb_unit.specs.declared.configs.Config.{Config}
use Rattle.adlb_unit.specs.declared.messages.Message.{Message}
use Rattle.adlb_unit.specs.declared.messages.Message.TheVariants as tells
use Rattle.adlb_unit.specs.declared.names.Server.{Server}
use Rattle.adlb_unit.specs.declared.tokens.Token.{Token}
use Rattle.exhaust_ring.specs.Ring.{Asker}
use Rattle.server_law.specs.Acts.{askers, zeroth}
use Rattle.server_law.specs.Endings.{is_quiet}
use Rattle.server_law.specs.State.{ServerModel, is_home}
use Rattle.core_run.specs.World.{World, pool_of}
use Rattle.core_law.specs.Measures.{IsBalanced}
use Rattle.core_law.specs.OnLinks.{Each, OnLinks}
use Rattle.core_check_law.specs.Tokens.{tokens}

-- Of each token, by where it goes.

-- what is said of a token, of a letter
abbrev pub OfToken : (Token → Type 0) → Message → Type 0
OfToken P (tells.Token t) = P t
OfToken P _ = Unit {0}

-- what is said of a token to a server, of a letter on a link
abbrev pub OnToken : (Server → Token → Type 0) → Actor → Actor → Message → Type 0
OnToken P (by.Server from) (by.Server to) m = OfToken (P to) m
OnToken P (by.Server from) (by.Rank to) m = Unit {0}
OnToken P (by.Rank from) to m = Unit {0}

-- and of each that is told to have failed
abbrev pub OfFailed : (Token → Type 0) → Message → Type 0
OfFailed P (tells.Failed t why) = P t
OfFailed P _ = Unit {0}

-- what is said of a token of which a test failed, of a letter on a link
abbrev pub OnFailed : (Token → Type 0) → Actor → Actor → Message → Type 0
OnFailed P (by.Server from) (by.Server to) m = OfFailed P m
OnFailed P (by.Server from) (by.Rank to) m = Unit {0}
OnFailed P (by.Rank from) to m = Unit {0}

-- a token on its way to this server has come so far in its wave: server 0 is the last
abbrev pub reach : Config → Server → ℕ
reach config to = if to.0 == 0 then config.servers else to.0

-- the rank of the list has its home here
abbrev pub of_home : Config → Server → Asker → Bool
of_home config me a = is_home config me a.0

-- the number of the last check
abbrev pub last_check : World → ℕ
last_check w = (pool_of w zeroth).kept.ring.check

-- the server has changed nothing since its mark
abbrev pub IsUnchanged : ServerModel → Type 0
IsUnchanged s = s.activity ≡ s.kept.ring.mark

-- the token is of the last check. In wave 1 the servers so far have their mark of it, the others do not, and the list is of ranks
-- with their homes so far. In wave 2 all servers have their mark. A server that has changed nothing since its mark is quiet, and its
-- ranks of the list are those that wait there.
pub record IsOnWay (w : World) (to : Server) (t : Token) : Type 0 where
  pub number : t.check ≡ last_check w
  pub homes : t.wave ≡ 1 → Each (λ (a : Asker). (home w.config a.0).0 < reach w.config to) t.asked
  pub marked : (s : Server) → s.0 < w.config.servers → (t.wave ≡ 2) ⊎ (s.0 < reach w.config to) → (pool_of w s).kept.ring.number ≡ t.check
  pub fresh : t.wave ≡ 1 → (s : Server) → s.0 < w.config.servers → reach w.config to ≤ s.0 → (pool_of w s).kept.ring.number ≢ t.check
  pub bridge : (s : Server) → s.0 < w.config.servers → (pool_of w s).kept.ring.number ≡ t.check → IsUnchanged (pool_of w s)
      → (is_quiet (pool_of w s) ≡ true) × (filter (of_home w.config s) t.asked ≡ askers (pool_of w s).kept)

-- no server has a mark of a later check than the last
pub record AreNumbered (w : World) : Type 0 where
  pub numbers : (s : Server) → s.0 < w.config.servers → (pool_of w s).kept.ring.number ≤ last_check w

-- tokens are numbered, balanced and right on their way
pub record IsRinged (w : World) : Type 0 where
  pub numbered : AreNumbered w
  pub tokens : IsBalanced tokens w
  pub on : OnLinks (λ from to l. OnToken (IsOnWay w) from to l.message) w.config w.links
