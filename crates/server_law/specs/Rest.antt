-- Where the bag rests: with one server, what it and the server are when all work is found used up.
use Rattle.std.specs.Prelude.{◌≡◌, ◌⊎◌, false, List, [], Some, All, Any, IsTrue}
use Rattle.std.specs.List.{list_any}
use Rattle.adlb_unit.specs.declared.configs.Config.{Config}
use Rattle.adlb_unit.specs.declared.names.Rank.{Rank}
use Rattle.adlb_unit.specs.declared.names.Server.{Server}
use Rattle.bag_ledger.specs.Bag.{Bag, rank_at, settled, start as empty_bag}
use Rattle.bag_ledger.specs.Runs.{IsRun}
use Rattle.bag_ledger.specs.declared.entries.Entry.{Entry}
use Rattle.bag_ledger.specs.declared.states.Placed.{Placed}
use Rattle.bag_ledger.specs.declared.states.Promise.{Promise}
use Rattle.bag_ledger.specs.declared.states.RankState.{RankState}
use Rattle.bag_ledger.specs.declared.states.Status.TheVariants as is_at
use Rattle.bag_ledger.specs.declared.states.UnitPlace.{UnitPlace}
use Rattle.bag_ledger.specs.declared.states.UnitPlace.TheVariants.{Free, Pinned, Spent, Travelling}
use Rattle.server_components.specs.declared.waits.Waiting.{Waiting}
use Rattle.server_components.specs.declared.wishes.Wish.{Wish}
use Rattle.server_law.specs.Agreement.{ServerAgrees}
use Rattle.server_law.specs.Endings.{fits}
use Rattle.server_law.specs.Legal.{AsksFor}
use Rattle.server_law.specs.State.{ServerModel}

-- the place is at the server, or the unit is spent
abbrev pub IsHereOrSpent : Server → UnitPlace → Type 0
IsHereOrSpent me (Free at) = at ≡ me
IsHereOrSpent me (Pinned at rank) = at ≡ me
IsHereOrSpent me (Travelling to) = ⊥
IsHereOrSpent me Spent = Unit {0}

-- the unit is here or spent
abbrev pub IsKeptAt : Server → Placed → Type 0
IsKeptAt me u = IsHereOrSpent me u.place

-- each unit of the bag is at the server or spent, and each promise is the server's
pub record IsAllAt (lodged : List Placed) (rooms : List Promise) (me : Server) : Type 0 where
  pub units : All (IsKeptAt me) lodged
  pub promises : All (λ (p : Promise). p.server ≡ me) rooms

-- the server has all units and promises of the bag
abbrev pub HasAll : Bag → Server → Type 0
HasAll b me = IsAllAt b.units b.promises me

-- the law: in a run of one server the bag is all at that server
abbrev pub OneHasAll : Type 0
OneHasAll =
    (config : Config) (ledger : List Entry) (b : Bag) (me : Server) → config.servers ≡ 1 → me.0 ≡ 0 → IsRun (empty_bag config) ledger b
    → HasAll b me

-- the law: so nothing is promised where the server promised nothing
abbrev pub NoneIsPromised : Type 0
NoneIsPromised = (b : Bag) (s : ServerModel) → ServerAgrees b s → HasAll b s.me → s.kept.queue.promises ≡ [] → b.promises ≡ []

-- the rank waits for what it asks
abbrev pub WaitsFor : List Waiting → Rank → RankState → Type 0
WaitsFor waiting rank r = Any (λ (e : Waiting). (e.wish.rank ≡ rank) × (r.status ≡ is_at.Asking e.wish.request e.wish.types)) waiting

-- the bag agrees with the server, is all there, and nothing is promised. Each rank has finished, or waits there for what it asks. Some
-- rank asks. No free unit is permitted to a rank that waits
pub record RestsAt (b : Bag) (s : ServerModel) : Type 0 where
  pub agrees : ServerAgrees b s
  pub all : HasAll b s.me
  pub unpromised : b.promises ≡ []
  pub ranks : (rank : Rank) (r : RankState) → rank_at b rank ≡ Some r → (r.status ≡ is_at.Finished) ⊎ WaitsFor s.kept.parked.waiting rank r
  pub asks : (wish : Wish) × AsksFor b wish
  pub unfit : list_any (fits s.kept) s.kept.parked.waiting ≡ false

-- the law: then the bag is settled
abbrev pub RestIsSettled : Type 0
RestIsSettled = (b : Bag) (s : ServerModel) → RestsAt b s → IsTrue (settled b)
