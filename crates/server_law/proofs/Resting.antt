-- A bag that rests is settled.
use Rattle.std.proofs.Common.{◌≡◌, ◌⊎◌, inl, inr, ℕ, ◌≤◌, ◌*◌, Bool, true, false, ◌&&◌, List, length, slice_get, Option, Some, is_some}
use Rattle.std.proofs.Common.{refl, ap, ◌∙◌, subst, All, sum_by, arith}
use Rattle.std.specs.List.{list_any}
use Rattle.std.proofs.lemmas.Bool.{false_from_ne_true}
use Rattle.std.proofs.lemmas.List.Elements.{All-weaker}
use Rattle.std.proofs.lemmas.List.Folds.{list_any_at, list_any_none}
use Rattle.std.proofs.lemmas.List.Sums.{sum_by-le}
use Rattle.std.proofs.lemmas.Option.{get_or_from_slice_get, slice_get_within}
use Rattle.adlb_unit.specs.declared.names.Rank.{Rank}
use Rattle.adlb_unit.specs.declared.names.Server.{Server}
use Rattle.adlb_unit.specs.declared.names.WorkType.{WorkType}
use Rattle.adlb_unit.specs.declared.units.Unit.{Unit}
use Rattle.adlb_unit.specs.Permit.{permitted}
use Rattle.bag_ledger.specs.Bag.{Bag, has_fit, is_asking_or_finished, is_free, is_travelling}
use Rattle.bag_ledger.specs.declared.states.Placed.{Placed}
use Rattle.bag_ledger.specs.declared.states.RankState.{RankState}
use Rattle.bag_ledger.specs.declared.states.Status.TheVariants as is_at
use Rattle.bag_ledger.specs.declared.states.UnitPlace.{UnitPlace}
use Rattle.bag_ledger.specs.declared.states.UnitPlace.TheVariants.{Free, Travelling, Pinned, Spent}
use Rattle.bag_ledger.proofs.Settled.{is_settled}
use Rattle.bag_ledger.proofs.Tests.{same_number}
use Rattle.bag_law.specs.Counts.{one}
use Rattle.bag_law.proofs.Turn.{none_found, sum_same}
use Rattle.work_queue.proofs.Searched.{find_none}
use Rattle.work_queue.specs.Best.{offered}
use Rattle.server_law.specs.Agreement.{HoldsUnits, UnitWeight, weight_at, weight_in}
use Rattle.server_law.specs.Endings.{fits}
use Rattle.server_law.specs.Finding.{best_for}
use Rattle.server_law.specs.Rest.{IsHereOrSpent, IsKeptAt, RestIsSettled, RestsAt, WaitsFor}
use Rattle.server_components.specs.declared.wishes.Wish.{Wish}
use Rattle.server_law.specs.State.{Kept, ServerModel}
use Rattle.server_law.proofs.BestFits.{nothing_fits}

all_at : {X : Type 0} (P : X → Type 0) (xs : List X) (k : ℕ) (x : X) → All P xs → slice_get xs k ≡ Some x → P x
all_at P xs k x all at = subst P (get_or_from_slice_get xs k x x at) (all k x (slice_get_within xs k x at))

none_travels : (me : Server) (place : UnitPlace) → IsHereOrSpent me place → is_travelling place ≡ false
none_travels me (Free at) here = refl
none_travels me (Pinned at rank) here = refl
none_travels me (Travelling to) here = absurd here
none_travels me Spent here = refl

-- the units that fit are counted alike by the bag and by the server
abbrev pub fit : Rank → Option (List WorkType) → UnitWeight
fit rank types unit free = one (free && permitted rank types unit.kind unit.target)

abbrev fits_rank : Rank → Option (List WorkType) → Placed → Bool
fits_rank rank types u = is_free u.place && permitted rank types u.unit.kind u.unit.target

counted_here : (me : Server) (rank : Rank) (types : Option (List WorkType)) (unit : Unit) (place : UnitPlace) → IsHereOrSpent me place
    → one (fits_rank rank types (record { unit = unit; place = place }))
    ≡ weight_at me (fit rank types) (record { unit = unit; place = place })
counted_here me rank types unit (Free at) here = rw (here, same_number me.0) refl
counted_here me rank types unit (Pinned at to) here = rw (here, same_number me.0) refl
counted_here me rank types unit (Travelling to) here = absurd here
counted_here me rank types unit Spent here = refl

-- no unit passes a test by which as many are counted as fit
pub none_counted : (all : List Placed) (me : Server) (k : Kept) (wish : Wish) (test : Placed → Bool) → HoldsUnits all me k.queue.units
    → ((i : ℕ) (u : Placed) → slice_get all i ≡ Some u → one (test u) ≡ weight_at me (fit wish.rank wish.types) u)
    → is_some (best_for k wish) ≡ false → list_any test all ≡ false
none_counted all me k wish test holds alike none =
    let f = fit wish.rank wish.types in
    let units = k.queue.units in
    let counted : sum_by (λ u. one (test u)) all ≡ sum_by (weight_at me f) all = sum_same (λ u. one (test u)) (weight_at me f) all alike in
    let zero : sum_by (weight_in f) units ≤ length units * 0 =
    sum_by-le (weight_in f) 0 units
    (All-weaker (λ p. offered wish.rank wish.types p ≡ false) (λ p. weight_in f p ≤ 0) (λ p no. rw no (omega arith)) units
    (nothing_fits k wish none)) in
    let same = holds.weighs f in
    list_any_none test all (find_none test all (none_found test all (omega arith)))

none_fits_rank : (all : List Placed) (me : Server) (k : Kept) (wish : Wish) → HoldsUnits all me k.queue.units
    → All (IsKeptAt me) all → is_some (best_for k wish) ≡ false → list_any (fits_rank wish.rank wish.types) all ≡ false
none_fits_rank all me k wish holds here none =
    none_counted all me k wish (fits_rank wish.rank wish.types) holds
    (λ i u at. counted_here me wish.rank wish.types u.unit u.place (all_at (IsKeptAt me) all i u here at)) none

-- no unit fits a rank that waits
none_fits_waiting : (b : Bag) (s : ServerModel) → RestsAt b s → (rank : Rank) (r : RankState) → WaitsFor s.kept.parked.waiting rank r
    → has_fit b.units rank r.status ≡ false
none_fits_waiting b s rests rank r waits =
    let e = waits.1 in
    let unfit : fits s.kept e ≡ false =
    false_from_ne_true (fits s.kept e) (λ fit.
    let some = list_any_at (fits s.kept) s.kept.parked.waiting waits.0 e waits.2 (ap (fits s.kept) waits.3 ∙ fit) in
    let none = rests.unfit in
    absurd (cc)) in
    rw (waits.4.1, ← waits.4.0) (none_fits_rank b.units s.me s.kept e.wish rests.agrees.units rests.all.units unfit)

-- so the bag is settled
pub rest_is_settled : RestIsSettled
rest_is_settled b s rests = is_settled b (
  λ rank r at. asks rank r (rests.ranks rank r at),
  (rests.asks.0.rank, rests.asks.1.0, rests.asks.1.1, rw rests.asks.1.2 refl),
  rests.unpromised,
  list_any_none (λ (u : Placed). is_travelling u.place) b.units
      (All-weaker (IsKeptAt s.me) (λ (u : Placed). is_travelling u.place ≡ false) (λ u here. none_travels s.me u.place here) b.units
      rests.all.units),
  λ rank r at. unfit rank r (rests.ranks rank r at),
)
  where
    asks : (rank : Rank) (r : RankState) → (r.status ≡ is_at.Finished) ⊎ WaitsFor s.kept.parked.waiting rank r
        → is_asking_or_finished r.status ≡ true
    asks rank r (inl finished) = rw finished refl
    asks rank r (inr waits) = rw waits.4.1 refl

    unfit : (rank : Rank) (r : RankState) → (r.status ≡ is_at.Finished) ⊎ WaitsFor s.kept.parked.waiting rank r
        → has_fit b.units rank r.status ≡ false
    unfit rank r (inl finished) = rw finished refl
    unfit rank r (inr waits) = none_fits_waiting b s rests rank r waits
