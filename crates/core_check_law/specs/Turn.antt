-- What each token and each failed test under way is to the server to which it goes: expected.
use Rattle.std.specs.Prelude.{◌≡◌, ◌≢◌, ◌<◌, ◌≤◌, ◌⊎◌, true, false, Some, List, [], ◌∷◌}
use Rattle.adlb_unit.specs.Limits.{stamp_limit}
use Rattle.adlb_unit.specs.Links.{is_within, place_of}
use Rattle.adlb_unit.specs.declared.actors.Actor.{Actor}
use Rattle.adlb_unit.specs.declared.letters.Letter.{Letter}
use Rattle.adlb_unit.specs.declared.names.Server.{Server}
use Rattle.adlb_unit.specs.declared.tokens.Token.{Token}
use Rattle.exhaust_ring.specs.Ring.{Asker}
use Rattle.server_law.specs.Acts.{zeroth}
use Rattle.core_run.specs.declared.events.Event.TheVariants as occurs
use Rattle.core_run.specs.Runs.{is_over}
use Rattle.core_run.specs.World.{World, happens, link, pool_of}
use Rattle.core_law.specs.OnLinks.{Each, OnLinks}
use Rattle.core_check_law.specs.OnWay.{OnFailed, OnToken, last_check, reach}

-- no rank is named again
abbrev pub AreApart : List Asker → Type 0
AreApart [] = Unit {0}
AreApart (a ∷ asked) = Each (λ (b : Asker). a.0.0 ≢ b.0.0) asked × AreApart asked

-- The token is in one of its two waves, and its list is of ranks of the run, each named once. The servers that it has passed in wave 1,
-- and those that it still has to visit in wave 2, have not made the tests of its check. In wave 2 server 0 has.
pub record IsOnTurn (w : World) (to : Server) (t : Token) : Type 0 where
  pub wave : (t.wave ≡ 1) ⊎ (t.wave ≡ 2)
  pub inside : Each (λ (a : Asker). a.0.0 < w.config.ranks) t.asked
  pub once : AreApart t.asked
  pub untested : (s : Server) → s.0 < w.config.servers
      → ((t.wave ≡ 1) × (s.0 < reach w.config to)) ⊎ ((t.wave ≡ 2) × (reach w.config to ≤ s.0)) → (pool_of w s).kept.ring.tested ≡ false
  pub tested : t.wave ≡ 2 → (pool_of w zeroth).kept.ring.tested ≡ true

-- a test that failed is of the last check
pub record AreOnTurn (w : World) : Type 0 where
  pub tokens : OnLinks (λ from to l. OnToken (IsOnTurn w) from to l.message) w.config w.links
  pub failed : OnLinks (λ from to l. OnFailed (λ t. t.check ≡ last_check w) from to l.message) w.config w.links

-- the front letter of each list can be handled, where its receiver has not ended and its stamp is one that is given
abbrev pub NoneIsEverStuck : World → Type 0
NoneIsEverStuck w =
    (from to : Actor) (letter : Letter) (rest : List Letter) → is_within w.config from ≡ true → is_within w.config to ≡ true
    → link w.links (place_of w.config from) (place_of w.config to) ≡ letter ∷ rest → is_over w to ≡ false
    → letter.stamp < stamp_limit → (next : World) × (happens w (occurs.Deliver from to) ≡ Some next)
