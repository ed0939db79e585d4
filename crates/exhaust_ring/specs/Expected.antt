-- Which tokens a server expects, and which ranks a list can name.
use Rattle.std.specs.Prelude.{◌≡◌, ◌≢◌, ◌<◌, ◌⊎◌, ℕ, ◌==◌, nat_lt, Bool, true, false, ◌&&◌, ◌||◌, not, All, AllPairs, List, [], ◌∷◌}
use Rattle.std.specs.List.{list_all, list_any}
use Rattle.adlb_unit.specs.Ring.{behind}
use Rattle.adlb_unit.specs.Targets.{home_of}
use Rattle.adlb_unit.specs.declared.configs.Config.{Config}
use Rattle.adlb_unit.specs.declared.names.Rank.{Rank}
use Rattle.adlb_unit.specs.declared.names.Server.{Server}
use Rattle.adlb_unit.specs.declared.tokens.Token.{Token}
use Rattle.exhaust_ring.specs.Ring.{Asker, RingModel}

-- the ranks are of the run, and each is named once
pub record AreNamed (config : Config) (asked : List Asker) : Type 0 where
  pub inside : All (λ (a : Asker). a.0.0 < config.ranks) asked
  pub once : AllPairs (λ (a b : Asker). a.0.0 ≢ b.0.0) asked

-- their home is this server; or it is another one
abbrev pub AreHome : Config → Server → List Asker → Type 0
AreHome config me asked = All (λ (a : Asker). home_of config.servers a.0 ≡ me.0) asked

-- no rank of the list is at home here
abbrev pub AreAway : Config → Server → List Asker → Type 0
AreAway config me asked = All (λ (a : Asker). home_of config.servers a.0 ≢ me.0) asked

-- the ranks that wait at a server
pub record AreParked (config : Config) (me : Server) (parked : List Asker) : Type 0 where
  pub named : AreNamed config parked
  pub home : AreHome config me parked

-- The rows of expected tokens, by wave and server.

-- wave 1 at another server: no mark of this check is here, and no rank of the list has its home here
pub record IsToMark (m : RingModel) (t : Token) : Type 0 where
  pub other : m.me.0 ≢ 0
  pub wave : t.wave ≡ 1
  pub named : AreNamed m.config t.asked
  pub fresh : m.ring.number ≢ t.check
  pub away : AreAway m.config m.me t.asked

-- the token is of the check that runs
pub record IsRunning (m : RingModel) (t : Token) : Type 0 where
  pub zeroth : m.me.0 ≡ 0
  pub runs : m.ring.runs ≡ true
  pub check : t.check ≡ m.ring.check

-- wave 1 has come back to server 0
pub record HasComeBack (m : RingModel) (t : Token) : Type 0 where
  pub running : IsRunning m t
  pub wave : t.wave ≡ 1
  pub named : AreNamed m.config t.asked

-- wave 2 at another server: the mark of this check is here, and its tests were not made
pub record IsToTest (m : RingModel) (t : Token) : Type 0 where
  pub other : m.me.0 ≢ 0
  pub wave : t.wave ≡ 2
  pub marked : m.ring.number ≡ t.check
  pub untested : m.ring.tested ≡ false

-- wave 2 has come back to server 0, whose own tests were passed
pub record IsToJudge (m : RingModel) (t : Token) : Type 0 where
  pub running : IsRunning m t
  pub wave : t.wave ≡ 2
  pub tested : m.ring.tested ≡ true

-- from a server of the run, the one before this one in ring order
abbrev pub IsBefore : RingModel → Server → Type 0
IsBefore m from = (from.0 < m.config.servers) × (behind m.config from 1 ≡ m.me)

-- the token comes from the server before this one, and to be marked, judged or tested
abbrev pub Expects : RingModel → Server → Token → Type 0
Expects m from t = IsBefore m from × (IsToMark m t ⊎ HasComeBack m t ⊎ IsToTest m t ⊎ IsToJudge m t)

-- The rows as tests.

-- the rank is among them
abbrev pub is_named : Rank → List Asker → Bool
is_named rank asked = list_any (λ a. a.0.0 == rank.0) asked

-- no rank is named again
abbrev pub is_each_once : List Asker → Bool
is_each_once [] = true
is_each_once (a ∷ asked) = not (is_named a.0 asked) && is_each_once asked

-- as a test, each rank of the list is in the run
abbrev pub are_inside : Config → List Asker → Bool
are_inside config asked = list_all (λ a. nat_lt a.0.0 config.ranks) asked

-- each is in the run, and there once
abbrev pub are_named : Config → List Asker → Bool
are_named config asked = are_inside config asked && is_each_once asked

-- no rank of the list is at home here, as a test
abbrev pub are_away : Config → Server → List Asker → Bool
are_away config me asked = list_all (λ a. not (home_of config.servers a.0 == me.0)) asked

-- it is the token of the check that runs here
abbrev pub is_running : RingModel → Token → Bool
is_running m t = (m.me.0 == 0) && (m.ring.runs && (t.check == m.ring.check))

-- as a test, the token comes for the mark
abbrev pub is_to_mark : RingModel → Token → Bool
is_to_mark m t = not (m.me.0 == 0)
    && ((t.wave == 1) && (are_named m.config t.asked && (not (m.ring.number == t.check) && are_away m.config m.me t.asked)))

-- the token has come back from wave 1
abbrev pub has_come_back : RingModel → Token → Bool
has_come_back m t = is_running m t && ((t.wave == 1) && are_named m.config t.asked)

-- the token comes for the test in wave 2
abbrev pub is_to_test : RingModel → Token → Bool
is_to_test m t = not (m.me.0 == 0) && ((t.wave == 2) && ((m.ring.number == t.check) && not m.ring.tested))

-- the token comes for the verdict
abbrev pub is_to_judge : RingModel → Token → Bool
is_to_judge m t = is_running m t && ((t.wave == 2) && m.ring.tested)

-- the sender is the server before this one
abbrev pub is_before : RingModel → Server → Bool
is_before m from = nat_lt from.0 m.config.servers && ((behind m.config from 1).0 == m.me.0)

-- what `Expects` says, as a test
abbrev pub expects : RingModel → Server → Token → Bool
expects m from t = is_before m from && (is_to_mark m t || (has_come_back m t || (is_to_test m t || is_to_judge m t)))
