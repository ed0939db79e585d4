-- What a token of wave 2 says of the bag. If the servers that it still has to visit are as at their marks, all is settled but for what fits
-- at these.
use Rattle.std.specs.Prelude.{◌≡◌, ◌<◌, ◌≤◌, ◌⊎◌, ℕ, false, List, [], filter, Some, None, IsFalse, map, ◌∷◌}
use Rattle.std.specs.List.{list_any}
use Rattle.adlb_unit.specs.Targets.{home}
use Rattle.adlb_unit.specs.declared.names.Rank.{Rank}
use Rattle.adlb_unit.specs.declared.names.Server.{Server}
use Rattle.adlb_unit.specs.declared.tokens.Token.{Token}
use Rattle.bag_ledger.specs.Bag.{Bag, is_travelling, rank_at}
use Rattle.bag_ledger.specs.declared.states.RankState.{RankState}
use Rattle.bag_ledger.specs.declared.states.Status.TheVariants as is_at
use Rattle.exhaust_ring.specs.Ring.{Asker}
use Rattle.work_queue.specs.Best.{offered}
use Rattle.work_queue.specs.declared.placing.Placed.{Placed}
use Rattle.server_components.specs.declared.waits.Waiting.{Waiting}
use Rattle.server_components.specs.declared.wishes.Wish.{Wish}
use Rattle.server_law.specs.Acts.{askers}
use Rattle.server_law.specs.State.{Kept}
use Rattle.core_run.specs.World.{World, pool_of}
use Rattle.core_law.specs.OnLinks.{Each, OnLinks}
use Rattle.core_check_law.specs.OnWay.{IsUnchanged, OnToken, of_home, reach}

-- the list has the element
abbrev pub Has : {X : Type 0} → List X → X → Type 0
Has [] x = ⊥
Has (y ∷ ys) x = (y ≡ x) ⊎ Has ys x

-- what the ranks that wait here wish
abbrev pub wish_of : Waiting → Wish
wish_of e = e.wish

-- the wishes of the ranks that wait at a server
abbrev pub wished : Kept → List Wish
wished k = map wish_of k.parked.waiting

-- as a token names it
abbrev pub asker : Wish → Asker
asker wish = (wish.rank, wish.types)

-- no free unit here is permitted to the rank
abbrev pub NoFit : List Placed → Asker → Type 0
NoFit units a = Each (λ (p : Placed). offered a.0 a.1 p ≡ false) units

-- in the bag the rank asks for what it wishes at its home
abbrev pub AsksAs : World → Rank → RankState → Type 0
AsksAs w r state =
    (wish : Wish) × Has (wished (pool_of w (home w.config r)).kept) wish × (wish.rank ≡ r)
    × (state.status ≡ is_at.Asking wish.request wish.types)

-- it has finished, or does
pub record IsResting (w : World) (b : Bag) (r : Rank) : Type 0 where
  pub state : RankState
  pub here : rank_at b r ≡ Some state
  pub rests : (state.status ≡ is_at.Finished) ⊎ AsksAs w r state

-- nothing is promised, travels or is pushed, and each rank is at rest
pub record IsRest (w : World) (b : Bag) : Type 0 where
  pub promises : b.promises ≡ []
  pub travels : IsFalse (list_any (λ u. is_travelling u.place) b.units)
  pub pushes : (t : Server) → t.0 < w.config.servers → (pool_of w t).kept.pushing.push ≡ None
  pub ranks : (r : Rank) → r.0 < w.config.ranks → IsResting w b r

-- all rests, the ranks that wait are those of the list, and nothing fits them at the first servers
pub record IsSettling (w : World) (b : Bag) (p : ℕ) (asked : List Asker) : Type 0 where
  pub rest : IsRest w b
  pub listed : (t : Server) → t.0 < w.config.servers → filter (of_home w.config t) asked ≡ askers (pool_of w t).kept
  pub going : (t : Server) → t.0 < w.config.servers → (wish : Wish) → Has (wished (pool_of w t).kept) wish → (pool_of w t).kept.done ≡ false
  pub none : (t : Server) → t.0 < w.config.servers → t.0 < p → Each (NoFit (pool_of w t).kept.queue.units) asked

-- the servers that are still to be visited are as they were at their marks
abbrev pub AreUnchanged : World → ℕ → Type 0
AreUnchanged w p = (t : Server) → p ≤ t.0 → t.0 < w.config.servers → IsUnchanged (pool_of w t)

-- nobody is on the list, or exhaustion was not found before
abbrev pub IsOpen : Bag → List Asker → Type 0
IsOpen b asked = (asked ≡ []) ⊎ (b.exhausted ≡ false)

-- what a token says of the bag
abbrev pub IsSettledBehind : World → Bag → Server → Token → Type 0
IsSettledBehind w b to t =
    t.wave ≡ 2 → AreUnchanged w (reach w.config to) → IsOpen b t.asked → IsSettling w b (reach w.config to) t.asked

-- what each token under way says of the bag is so
abbrev pub Settles : World → Bag → Type 0
Settles w b = OnLinks (λ from to l. OnToken (IsSettledBehind w b) from to l.message) w.config w.links
