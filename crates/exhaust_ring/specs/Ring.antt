-- What a server keeps of the checks that go round the ring.
use Rattle.std.specs.Prelude.{◌≡◌, ◌<◌, ℕ, ◌+◌, ◌==◌, Bool, true, false, ◌&&◌, not, List, Option}
use Rattle.adlb_unit.specs.declared.configs.Config.{Config}
use Rattle.adlb_unit.specs.declared.names.Rank.{Rank}
use Rattle.adlb_unit.specs.declared.names.Server.{Server}
use Rattle.adlb_unit.specs.declared.names.WorkType.{WorkType}
use Rattle.adlb_unit.specs.declared.tokens.Token.{Token}

-- a rank that waits, with the types that it wants
abbrev pub Asker : Type 0
Asker = Rank × Option (List WorkType)

-- the token of this check and wave, with these ranks
abbrev pub token : ℕ → ℕ → List Asker → Token
token check wave asked = record { check = check; wave = wave; asked = asked }

-- what a server keeps of checks
pub record Ring : Type 0 where
  -- how many checks were started here, which is the number of the last; and whether that one has not ended. Server 0 alone starts any
  pub check : ℕ
  pub runs : Bool
  -- a check is wanted
  pub wanted : Bool
  -- the last mark: the number of the check that took it, and the activity at that moment
  pub number : ℕ
  pub mark : ℕ
  -- the tests of that check were made here
  pub tested : Bool

-- at this server of a run
pub record RingModel : Type 0 where
  pub config : Config
  pub me : Server
  pub ring : Ring
  -- what was found here: all work is used up; no rank waits or runs any more
  pub exhausted : Bool
  pub shut : Bool

-- no check was started, and none is wanted
abbrev pub no_check : Ring
no_check = record { check = 0; runs = false; wanted = false; number = 0; mark = 0; tested = false }

-- the ring of a server at the start
abbrev pub new_ring : Config → Server → RingModel
new_ring config me = record { config = config; me = me; ring = no_check; exhausted = false; shut = false }

-- the model with this ring
abbrev pub with_ring : RingModel → Ring → RingModel
with_ring m ring = record m { ring = ring }

-- they are of one server of one run
abbrev pub AreOfOne : RingModel → RingModel → Type 0
AreOfOne m n = (n.me ≡ m.me) × (n.config ≡ m.config)

-- what is so of each
pub record IsRing (m : RingModel) : Type 0 where
  pub there : m.me.0 < m.config.servers
  -- server 0 takes its mark as it starts a check
  pub own : m.me.0 ≡ 0 → m.ring.number ≡ m.ring.check

-- What calls make of it.

-- a check is wanted
abbrev pub wanting : Ring → Ring
wanting r = record r { wanted = true }

-- one more check begins, and none is wanted; the server takes its mark, which is this activity
abbrev pub begun : Ring → ℕ → Ring
begun r activity =
    record { check = r.check + 1; runs = true; wanted = false; number = r.check + 1; mark = activity; tested = false }

-- the check of this number comes, and the server takes its mark
abbrev pub with_mark : Ring → ℕ → ℕ → Ring
with_mark r number activity = record r { number = number; mark = activity; tested = false }

-- the tests were made
abbrev pub with_tests : Ring → Ring
with_tests r = record r { tested = true }

-- the check has ended
abbrev pub ended : Ring → Ring
ended r = record r { runs = false }

-- it has ended: all work is used up; or no rank waits or runs any more
abbrev pub with_exhausted : RingModel → RingModel
with_exhausted m = record m { ring = ended m.ring; exhausted = true }

-- the server knows that the servers end
abbrev pub with_shut : RingModel → RingModel
with_shut m = record m { ring = ended m.ring; shut = true }

-- When a check begins.

-- at server 0, if one is wanted and none runs, the server is quiet, and the end of the run was not found
abbrev pub may_start : RingModel → Bool → Bool
may_start m quiet = (m.me.0 == 0) && (m.ring.wanted && (not m.ring.runs && (quiet && not m.shut)))

-- a check may start: here, wanted, none runs, and the server is quiet and not shut
pub record MayStart (m : RingModel) (quiet : Bool) : Type 0 where
  pub zeroth : m.me.0 ≡ 0
  pub wanted : m.ring.wanted ≡ true
  pub alone : m.ring.runs ≡ false
  pub rests : quiet ≡ true
  pub going : m.shut ≡ false
