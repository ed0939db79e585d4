-- The verdict: where exhaustion is found the bag is settled.
use Rattle.std.proofs.Common.{◌≡◌, ◌<◌, ◌⊎◌, inl, inr, ℕ, Bool, true, false, cond, ◌&&◌, List, [], ◌∷◌, map, filter, refl, sym, ap, ◌∙◌}
use Rattle.std.proofs.Common.{subst, arith, sum_by}
use Rattle.std.specs.Prelude.{IsFalse, IsTrue}
use Rattle.std.specs.List.{list_any}
use Rattle.std.proofs.lemmas.Bool.{eq-eqb}
use Rattle.std.proofs.lemmas.List.{length-replicate}
use Rattle.std.proofs.lemmas.List.Sums.{sum_by-cons}
use Rattle.std.proofs.lemmas.Option.{slice_get_within}
use Rattle.adlb_unit.specs.Permit.{permitted}
use Rattle.adlb_unit.specs.Targets.{home}
use Rattle.adlb_unit.specs.declared.names.Rank.{Rank}
use Rattle.adlb_unit.specs.declared.names.Server.{Server}
use Rattle.adlb_unit.specs.declared.units.Unit.{Unit}
use Rattle.bag_ledger.specs.Bag.{Bag, fresh, has_fit, is_asking, is_asking_or_finished, is_free, settled, start as empty_bag}
use Rattle.bag_ledger.specs.Runs.{IsRun}
use Rattle.bag_ledger.specs.Steps.{Is}
use Rattle.bag_ledger.specs.declared.states.Placed.{Placed as Lodged}
use Rattle.bag_ledger.specs.declared.states.RankState.{RankState}
use Rattle.bag_ledger.specs.declared.states.Status.TheVariants as is_at
use Rattle.bag_ledger.specs.declared.states.UnitPlace.{UnitPlace}
use Rattle.bag_ledger.specs.declared.states.UnitPlace.TheVariants.{Free, Pinned, Spent, Travelling}
use Rattle.bag_ledger.proofs.Settled.{is_settled}
use Rattle.bag_ledger.proofs.Tests.{some_is}
use Rattle.exhaust_ring.specs.Ring.{Asker}
use Rattle.work_queue.specs.declared.placing.Placed.{Placed}
use Rattle.rank_client.specs.declared.pendings.Pending.TheVariants as waits_for
use Rattle.server_components.specs.declared.waits.Waiting.{Waiting}
use Rattle.server_components.specs.declared.wishes.Wish.{Wish}
use Rattle.server_law.specs.Agreement.{UnitWeight, weight_at, weight_in}
use Rattle.core_run.specs.World.{World, client_of, pool_of}
use Rattle.core_law.specs.Lawful.{IsLawful, IsWaiting}
use Rattle.core_law.specs.Letters.{one}
use Rattle.core_law.specs.Own.{IsEntry}
use Rattle.core_law.specs.Well.{IsWell}
use Rattle.core_law.proofs.Resting.{ranks_stay}
use Rattle.core_check_law.specs.OnWay.{of_home}
use Rattle.core_check_law.specs.Settling.{AsksAs, Has, IsResting, IsSettling, NoFit, asker, wished}
use Rattle.core_check_law.proofs.Homes.{each_of_all}
use Rattle.core_check_law.proofs.Inside.{AreIn, IsFreeIn, free_in}
use Rattle.core_check_law.proofs.Lists.{each_has, has_filter, has_map, home_below, wished_entry}
use Rattle.core_check_law.proofs.Ranks.{client_ends}
use Rattle.core_check_law.proofs.RestKept.{asked_of}

-- A weight of the units that are free and permitted.

abbrev fitting : Asker → UnitWeight
fitting a unit free = one (free && permitted a.0 a.1 unit.kind unit.target)

none_in : (a : Asker) (units : List Placed) → NoFit units a → sum_by (weight_in (fitting a)) units ≡ 0
none_in a [] all = refl
none_in a (p ∷ units) all =
    let later = none_in a units all.1 in
    let here : weight_in (fitting a) p ≡ 0 = ap one all.0 in
    rw (sum_by-cons (weight_in (fitting a)) p units) (omega arith)

not_one : (t : Bool) → one t ≡ 0 → t ≡ false
not_one true e = absurd (omega arith)
not_one false e = refl

abbrev fits_as : Asker → Lodged → Bool
fits_as a u = is_free u.place && permitted a.0 a.1 u.unit.kind u.unit.target

unit_fits_not : (a : Asker) (servers : ℕ) (unit : Unit) (place : UnitPlace) → IsFreeIn servers place
    → ((t : Server) → t.0 < servers → weight_at t (fitting a) (record { unit = unit; place = place }) ≡ 0)
    → is_free place && permitted a.0 a.1 unit.kind unit.target ≡ false
unit_fits_not a servers unit (Free t) inside zeros =
    let z = zeros t inside in
    let here : weight_at t (fitting a) (record { unit = unit; place = Free t }) ≡ one (permitted a.0 a.1 unit.kind unit.target) =
    rw (eq-eqb t.0 t.0 refl) refl in
    not_one (permitted a.0 a.1 unit.kind unit.target) (omega arith)
unit_fits_not a servers unit (Pinned t rank) inside zeros = refl
unit_fits_not a servers unit (Travelling t) inside zeros = refl
unit_fits_not a servers unit Spent inside zeros = refl

none_of_all : (a : Asker) (servers : ℕ) (units : List Lodged) → AreIn servers units
    → ((t : Server) → t.0 < servers → sum_by (weight_at t (fitting a)) units ≡ 0) → list_any (fits_as a) units ≡ false
none_of_all a servers [] inside zeros = refl
none_of_all a servers (u ∷ units) inside zeros =
    let here = unit_fits_not a servers u.unit u.place inside.0
    (λ t there. let z = zeros t there in let e = sum_by-cons (weight_at t (fitting a)) u units in omega arith) in
    let later = none_of_all a servers units inside.1
    (λ t there. let z = zeros t there in let e = sum_by-cons (weight_at t (fitting a)) u units in omega arith) in
    rw (here, later) refl

has_kept : (p : Asker → Bool) (a : Asker) (xs : List Asker) → p a ≡ true → Has xs a → Has (filter p xs) a
has_kept p a [] is has = absurd has
has_kept p a (x ∷ xs) is (inl same) = by_test (p x) (ap p same ∙ is)
  where
    by_test : (c : Bool) → c ≡ true → Has (cond c (x ∷ filter p xs) (filter p xs)) a
    by_test true e = inl same
    by_test false e = absurd (cc)
has_kept p a (x ∷ xs) is (inr later) = by_test (p x) (has_kept p a xs is later)
  where
    by_test : (c : Bool) → Has (filter p xs) a → Has (cond c (x ∷ filter p xs) (filter p xs)) a
    by_test true h = inr h
    by_test false h = h

of_map : (a : Asker) (ws : List Wish) → Has (map asker ws) a → (wish : Wish) × Has ws wish × (asker wish ≡ a)
of_map a [] has = absurd has
of_map a (x ∷ ws) (inl same) = (x, inl refl, same)
of_map a (x ∷ ws) (inr later) = let z = of_map a ws later in (z.0, inr z.1, z.2)

module _ (w : World) (b : Bag) (well : IsWell w) (l : IsLawful w b) (legal : IsRun (empty_bag w.config) w.ledger b) (asked : List Asker)
    (settles : IsSettling w b w.config.servers asked) where
  within : (rank : Rank) (r : RankState) → Is b rank r → rank.0 < w.config.ranks
  within rank r is =
      let long = ranks_stay settled (empty_bag w.config) b w.ledger legal in
      let all = length-replicate w.config.ranks fresh in
      let low = slice_get_within b.ranks rank.0 r is in
      omega arith

  resting : (rank : Rank) → rank.0 < w.config.ranks → IsResting w b rank
  resting rank low = (settles.rest).ranks rank low

  same_state : (rank : Rank) (r : RankState) → Is b rank r → (x : IsResting w b rank) → x.state ≡ r
  same_state rank r is x = some_is (sym x.here ∙ is)

  asks_or_ended : (rank : Rank) (r : RankState) → Is b rank r → IsTrue (is_asking_or_finished r.status)
  asks_or_ended rank r is = by_rests (resting rank (within rank r is))
    where
      by_case : (x : IsResting w b rank) → (x.state.status ≡ is_at.Finished) ⊎ AsksAs w rank x.state
          → IsTrue (is_asking_or_finished x.state.status)
      by_case x (inl e) = rw e refl
      by_case x (inr asks) = rw asks.3 refl

      by_rests : IsResting w b rank → IsTrue (is_asking_or_finished r.status)
      by_rests x =
          subst (λ (z : RankState). IsTrue (is_asking_or_finished z.status)) (same_state rank r is x) (by_case x x.rests)

  no_fit_for : (a : Asker) → Has asked a → list_any (fits_as a) b.units ≡ false
  no_fit_for a on = none_of_all a w.config.servers b.units (free_in w.config w.ledger b legal) (λ t there.
      let m = l.pools t there in
      let held = (m.units).weighs (fitting a) in
      let zero_sum = none_in a (pool_of w t).kept.queue.units
      (each_has (NoFit (pool_of w t).kept.queue.units) asked a (settles.none t there there) on) in
      subst (λ (c : Server). sum_by (weight_at c (fitting a)) b.units ≡ 0) (well.own.servers t there).me (held ∙ zero_sum))

  on_list : (t : Server) (wish : Wish) → t.0 < w.config.servers → Has (wished (pool_of w t).kept) wish → Has asked (asker wish)
  on_list t wish there has =
      let waiting = (pool_of w t).kept.parked.waiting in
      has_filter (of_home w.config t) asked (asker wish)
      (subst (λ (xs : List Asker). Has xs (asker wish)) (sym (settles.listed t there ∙ asked_of waiting))
      (has_map asker (wished (pool_of w t).kept) wish has))

  has_no_fit : (rank : Rank) (r : RankState) → Is b rank r → IsFalse (has_fit b.units rank r.status)
  has_no_fit rank r is = by_rests (resting rank (within rank r is))
    where
      by_case : (x : IsResting w b rank) → (x.state.status ≡ is_at.Finished) ⊎ AsksAs w rank x.state
          → IsFalse (has_fit b.units rank x.state.status)
      by_case x (inl e) = rw e refl
      by_case x (inr asks) =
          let on = on_list (home w.config rank) asks.0 (home_below w.config rank) asks.1 in
          let none = no_fit_for (asker asks.0) on in
          rw asks.3
          (subst (λ (z : Rank). list_any (λ u. is_free u.place && permitted z (asks.0).types u.unit.kind u.unit.target) b.units ≡ false)
          asks.2 none)

      by_rests : IsResting w b rank → IsFalse (has_fit b.units rank r.status)
      by_rests x = subst (λ (z : RankState). IsFalse (has_fit b.units rank z.status)) (same_state rank r is x) (by_case x x.rests)

  -- one on the list asks
  asker_asks : (a : Asker) → Has asked a → (rank : Rank) × (r : RankState) × Is b rank r × IsTrue (is_asking r.status)
  asker_asks a on = by_wish (of_map a (wished (pool_of w t).kept) listed)
    where
      t : Server
      t = home w.config a.0

      there : t.0 < w.config.servers
      there = home_below w.config a.0

      waiting : List Waiting
      waiting = (pool_of w t).kept.parked.waiting

      listed : Has (map asker (wished (pool_of w t).kept)) a
      listed =
          subst (λ (xs : List Asker). Has xs a) (settles.listed t there ∙ asked_of waiting)
          (has_kept (of_home w.config t) a asked (eq-eqb t.0 t.0 refl) on)

      by_wish : (wish : Wish) × Has (wished (pool_of w t).kept) wish × (asker wish ≡ a)
          → (rank : Rank) × (r : RankState) × Is b rank r × IsTrue (is_asking r.status)
      by_wish (wish, has, same) = let x = resting wish.rank entry.within in (wish.rank, x.state, x.here, by_case x x.rests)
        where
          e : (e : Waiting) × Has waiting e × (e.wish ≡ wish)
          e = wished_entry waiting wish has

          entry : IsEntry w.config t (record e.0 { wish = wish })
          entry =
              subst (λ (y : Wish). IsEntry w.config t (record e.0 { wish = y })) e.2
              (each_has (IsEntry w.config t) waiting e.0 (each_of_all (IsEntry w.config t) waiting (well.own.servers t there).waiting) e.1)

          by_case : (x : IsResting w b wish.rank) → (x.state.status ≡ is_at.Finished) ⊎ AsksAs w wish.rank x.state
              → IsTrue (is_asking x.state.status)
          by_case x (inr asks) = rw asks.3 refl
          by_case x (inl ended) =
              let its = l.seats wish.rank entry.within in
              let who : (e.0).wish.rank ≡ (client_of w wish.rank).me = ap (λ (y : Wish). y.rank) e.2 ∙ sym (its.1).named in
              let waits = each_has (IsWaiting (client_of w wish.rank) its.0) waiting e.0 ((its.1).waits t there) e.1 who in
              let idle = client_ends w b wish.rank its.0 well entry.within its.1 x.state x.here ended in
              let no_call : waits_for.Nothing ≡ waits_for.Reserve (e.0).wish.request (e.0).wish.types = sym idle ∙ waits.0 in
              absurd (cc)

  -- where some rank asks and the token settles all servers, the bag is settled
  pub bag_is_settled : (first : Asker) (more : List Asker) → asked ≡ first ∷ more → settled b ≡ true
  bag_is_settled first more is =
      is_settled b (
        asks_or_ended,
        asker_asks first (subst (λ (xs : List Asker). Has xs first) (sym is) (inl refl)),
        (settles.rest).promises,
        (settles.rest).travels,
        has_no_fit,
      )
