-- Where all servers are quiet all rests: nothing is promised and nothing travels, and each rank asks for what it wishes at its home or
-- has finished.
use Rattle.std.proofs.Common.{◌≡◌, ◌<◌, ◌⊎◌, inl, inr, ℕ, zero, suc, ◌+◌, ◌&&◌, Bool, true, false, List, [], ◌∷◌, get_or, length, Option}
use Rattle.std.proofs.Common.{None, refl, sym, ap, ◌∙◌, arith}
use Rattle.std.specs.List.{list_any}
use Rattle.std.proofs.lemmas.Bool.{eqb-true}
use Rattle.std.proofs.lemmas.List.Sums.{sum_by-cons}
use Rattle.adlb_unit.specs.Ids.{same_unit}
use Rattle.adlb_unit.specs.Links.{place_of}
use Rattle.adlb_unit.specs.Targets.{home}
use Rattle.adlb_unit.specs.declared.actors.Actor.{Actor}
use Rattle.adlb_unit.specs.declared.actors.Actor.TheVariants as by
use Rattle.adlb_unit.specs.declared.letters.Letter.{Letter}
use Rattle.adlb_unit.specs.declared.messages.Message.{Message}
use Rattle.adlb_unit.specs.declared.messages.Message.TheVariants as tells
use Rattle.adlb_unit.specs.declared.names.Rank.{Rank}
use Rattle.adlb_unit.specs.declared.names.Server.{Server}
use Rattle.adlb_unit.specs.declared.names.UnitId.{UnitId}
use Rattle.adlb_unit.proofs.Same.{same_unit_from}
use Rattle.bag_ledger.specs.Bag.{Bag, is_travelling, rank_at}
use Rattle.bag_ledger.specs.declared.states.Placed.{Placed}
use Rattle.bag_ledger.specs.declared.states.Status.TheVariants as is_at
use Rattle.rank_client.specs.Agreement.{rank_of}
use Rattle.rank_client.specs.declared.pendings.Pending.TheVariants as waits_for
use Rattle.server_components.specs.declared.waits.Waiting.{Waiting}
use Rattle.server_components.specs.declared.wishes.Wish.{Wish}
use Rattle.server_law.specs.Endings.{is_quiet}
use Rattle.server_law.specs.Expected.{IsQuiet, WaitsIdle}
use Rattle.server_law.specs.State.{is_finished, start as new_pool}
use Rattle.server_law.proofs.Tests.{quiet_is_tested}
use Rattle.core_run.specs.World.{World, client_of, link, pool_of, server_named}
use Rattle.core_law.specs.Lawful.{IsLawful, IsSeat, IsWaiting}
use Rattle.core_law.specs.Letters.{one}
use Rattle.core_law.specs.Measures.{due, links_weight, measure, server_weight, weigh_at, weight}
use Rattle.core_law.specs.OnLinks.{OnLinks}
use Rattle.core_law.specs.Own.{IsEntry, IsPool}
use Rattle.core_law.specs.Pushed.{letters_of, on_way}
use Rattle.core_law.specs.Pushes.{promised_letter, push_letter, pushing, travels_letter}
use Rattle.core_law.specs.Well.{IsWell}
use Rattle.core_law.proofs.OneServer.{none_named}
use Rattle.core_law.proofs.Answering.{not_finished}
use Rattle.core_law.proofs.OnLinks.{zero_from}
use Rattle.core_law.proofs.OwedByRanks.{no_sum}
use Rattle.core_law.proofs.Resting.{client_finished}
use Rattle.core_law.proofs.UnderWay.{each_weaker, zero_on}
use Rattle.core_check_law.specs.Settling.{Has, IsRest, IsResting, wish_of, wished}
use Rattle.core_check_law.proofs.Homes.{each_of_all}
use Rattle.core_check_law.proofs.NeverAtRest.{AreUnpushed, itself}
use Rattle.core_check_law.proofs.Lists.{each_all, each_has, has_at, has_map, home_below, wished_entry}

-- no rank is idle at a server that knows that the problem is done
abbrev pub AreTold : World → Type 0
AreTold w =
    (t : Server) → t.0 < w.config.servers → (e : Waiting) → Has (pool_of w t).kept.parked.waiting e → e.asked ≡ None
    → (pool_of w t).kept.done ≡ false

-- each server is quiet
abbrev pub AreQuiet : World → Type 0
AreQuiet w = (t : Server) → t.0 < w.config.servers → is_quiet (pool_of w t) ≡ true

-- Letters of a push.

none_weighs : {X : Type 0} (f : ℕ → X → ℕ) (xs : List X) (d : ℕ → X) → ((i : ℕ) → i < length xs → f i (get_or xs i (d i)) ≡ 0)
    → weigh_at f xs ≡ 0
none_weighs f [] d none = refl
none_weighs f (x ∷ xs) d none =
    let here = none zero (omega arith) in
    let later = none_weighs (λ i. f (suc i)) xs (λ i. d (suc i)) (λ i inside. none (suc i) (omega arith)) in
    omega arith

-- a letter of no push promises no room, and brings no unit
not_promised : (id : UnitId) (from to : Actor) (m : Message) → ((a : Server) → push_letter a from to m ≡ 0)
    → promised_letter id from to m ≡ 0
not_promised id (by.Rank from) to m none = refl
not_promised id (by.Server from) (by.Rank to) m none = refl
not_promised id (by.Server from) (by.Server to) (tells.PushYes of) none = let n = none to in let i = itself to.0 in absurd (omega arith)
not_promised id (by.Server from) (by.Server to) (tells.PushUnit unit) none =
    let n = none from in let i = itself from.0 in absurd (omega arith)
not_promised id (by.Server from) (by.Server to) (tells.PushCancel of) none =
    let n = none from in let i = itself from.0 in absurd (omega arith)
not_promised id (by.Server from) (by.Server to) _ none = refl

not_brought : (id : UnitId) (from to : Actor) (m : Message) → ((a : Server) → push_letter a from to m ≡ 0) → travels_letter id from to m ≡ 0
not_brought id (by.Rank from) to m none = refl
not_brought id (by.Server from) (by.Rank to) m none = refl
not_brought id (by.Server from) (by.Server to) (tells.PushUnit unit) none =
    let n = none from in let i = itself from.0 in absurd (omega arith)
not_brought id (by.Server from) (by.Server to) _ none = refl

none_travels : (us : List Placed) → ((id : UnitId) → on_way id us ≡ 0) → list_any (λ (u : Placed). is_travelling u.place) us ≡ false
none_travels [] none = refl
none_travels (u ∷ us) none = by_place (λ rest. none_travels us rest) (is_travelling u.place) refl
  where
    its : one (is_travelling u.place && same_unit u.unit.id u.unit.id) + on_way u.unit.id us ≡ 0
    its =
        let sum = sum_by-cons (λ (x : Placed). one (is_travelling x.place && same_unit x.unit.id u.unit.id)) u us in
        let n = none u.unit.id in
        omega arith

    rest : (id : UnitId) → on_way id us ≡ 0
    rest id =
        let sum = sum_by-cons (λ (x : Placed). one (is_travelling x.place && same_unit x.unit.id id)) u us in
        let n = none id in
        omega arith

    by_place : (((id : UnitId) → on_way id us ≡ 0) → list_any (λ (x : Placed). is_travelling x.place) us ≡ false) → (t : Bool)
        → is_travelling u.place ≡ t → list_any (λ (x : Placed). is_travelling x.place) (u ∷ us) ≡ false
    by_place later true e =
        let both : one (is_travelling u.place && same_unit u.unit.id u.unit.id) ≡ 1 =
        rw (e, same_unit_from u.unit.id u.unit.id refl) refl in
        let n = its in
        absurd (omega arith)
    by_place later false e = rw e (later rest)

-- Where no server has a push.
module _ (w : World) (b : Bag) (well : IsWell w) (l : IsLawful w b) (free : AreUnpushed w) where
  -- no push goes on, so that no letter of one is under way
  no_push : (a : Server) → links_weight w.config (letters_of (push_letter a)) w.links ≡ 0
  unfolding measure due
  no_push a =
      let stands = none_weighs (server_weight (λ place k. weight ((pushing a).due place) k.pushing.push)) w.servers
      (λ i. new_pool w.config (server_named i))
      (λ i inside. ap (weight ((pushing a).due i)) (free (server_named i) (let e = (well.shape).servers in omega arith))) in
      let none = no_sum w.ranks in
      let same = (well.push a).same in
      omega arith

  none_pushed : OnLinks (λ from to (l : Letter). (a : Server) → push_letter a from to l.message ≡ 0) w.config w.links
  none_pushed = record {
    each = λ from to f t. each_all (λ (a : Server) (l : Letter). push_letter a from to l.message ≡ 0)
        (link w.links (place_of w.config from) (place_of w.config to))
        (λ a. (zero_on (letters_of (push_letter a)) w.config w.links (well.shape).square (no_push a)).each from to f t);
  }

  weighs_none : (f : Actor → Actor → Message → ℕ)
      → ((from to : Actor) (m : Message) → ((a : Server) → push_letter a from to m ≡ 0) → f from to m ≡ 0)
      → links_weight w.config (letters_of f) w.links ≡ 0
  weighs_none f none =
      zero_from (letters_of f) w.config w.links (well.shape).square (record {
        each = λ from to g t. each_weaker (λ (l : Letter). (a : Server) → push_letter a from to l.message ≡ 0)
            (λ (l : Letter). f from to l.message ≡ 0)
            (λ l e. none from to l.message e) (link w.links (place_of w.config from) (place_of w.config to)) (none_pushed.each from to g t);
      })

  -- nothing is promised, and no unit is between servers
  pub unpushed_rests : (b.promises ≡ []) × (list_any (λ (u : Placed). is_travelling u.place) b.units ≡ false)
  unpushed_rests = (
    none_named b.promises (λ id.
        let none = weighs_none (promised_letter id) (not_promised id) in let same = l.pushed.rooms id in omega arith),
    none_travels b.units (λ id.
        let none = weighs_none (travels_letter id) (not_brought id) in let same = l.pushed.travels id in omega arith),
  )

-- Where all servers are quiet.
module _ (w : World) (b : Bag) (well : IsWell w) (l : IsLawful w b) (quiet : AreQuiet w) where
  is_quiet_at : (t : Server) → t.0 < w.config.servers → IsQuiet (pool_of w t)
  is_quiet_at t there = (quiet_is_tested (pool_of w t)).0 (quiet t there)

  unmoved : (b.promises ≡ []) × (list_any (λ (u : Placed). is_travelling u.place) b.units ≡ false)
  unmoved = unpushed_rests w b well l (λ t there. (is_quiet_at t there).unpushed)

  rests_as : (r : Rank) → r.0 < w.config.ranks → (coming : Option Message) → IsSeat w b r coming
      → WaitsIdle (pool_of w (home w.config r)) r ⊎ (is_finished (pool_of w (home w.config r)).kept r ≡ true) → IsResting w b r
  rests_as r within coming seat (inr ended) =
      let c = client_of w r in
      let e = client_finished w (home w.config r) r well within (home_below w.config r) ended in
      record {
        state = rank_of c c.finished coming;
        here = ap (rank_at b) (sym seat.named) ∙ seat.stands.rank;
        rests = inl (ap (λ (f : Bool). (rank_of c f coming).status) e);
      }
  rests_as r within coming seat (inl (i, e, inside, read, (same, idle))) =
      let c = client_of w r in
      let has = has_at waiting i e inside read in
      let waits = each_has (IsWaiting c coming) waiting e (seat.waits (home w.config r) (home_below w.config r)) has
      (same ∙ sym seat.named) in
      let going = not_finished w r (waits_for.Reserve e.wish.request e.wish.types) well within waits.0 refl in
      let status : (rank_of c c.finished coming).status ≡ is_at.Asking e.wish.request e.wish.types =
      rw (going, waits.0, waits.1 idle) refl in
      record {
        state = rank_of c c.finished coming;
        here = ap (rank_at b) (sym seat.named) ∙ seat.stands.rank;
        rests = inr (e.wish, has_map wish_of waiting e has, same, status);
      }
    where
      waiting : List Waiting
      waiting = (pool_of w (home w.config r)).kept.parked.waiting

  -- where all servers are quiet, all rests
  pub quiet_rests : IsRest w b
  quiet_rests = record {
    promises = unmoved.0;
    travels = unmoved.1;
    pushes = λ t there. (is_quiet_at t there).unpushed;
    ranks = λ r within.
        let h = home w.config r in
        let there = home_below w.config r in
        let pool = well.own.servers h there in
        let its = l.seats r within in
        let inside : r.0 < (pool_of w h).config.ranks = rw (pool.config) within in
        rests_as r within its.0 its.1 ((is_quiet_at h there).rest r inside (rw (pool.config, pool.me) refl));
  }

  -- so a server at which a rank waits does not know that the problem is done
  pub quiet_goes : AreTold w → (t : Server) → t.0 < w.config.servers → (wish : Wish) → Has (wished (pool_of w t).kept) wish
      → (pool_of w t).kept.done ≡ false
  quiet_goes told t there wish has =
      by_rest ((is_quiet_at t there).rest (x.0).wish.rank inside (rw (pool.config, pool.me) (eqb-true _ _ entry.here)))
    where
      waiting : List Waiting
      waiting = (pool_of w t).kept.parked.waiting

      pool : IsPool w.config t (pool_of w t)
      pool = well.own.servers t there

      x : (e : Waiting) × Has waiting e × (e.wish ≡ wish)
      x = wished_entry waiting wish has

      entry : IsEntry w.config t x.0
      entry = each_has (IsEntry w.config t) waiting x.0 (each_of_all (IsEntry w.config t) waiting pool.waiting) x.1

      inside : (x.0).wish.rank.0 < (pool_of w t).config.ranks
      inside = rw (pool.config) (entry.within)

      by_rest : WaitsIdle (pool_of w t) (x.0).wish.rank ⊎ (is_finished (pool_of w t).kept (x.0).wish.rank ≡ true)
          → (pool_of w t).kept.done ≡ false
      by_rest (inl (i, e, low, read, (same, idle))) = told t there e (has_at waiting i e low read) idle
      by_rest (inr ended) =
          let r = (x.0).wish.rank in
          let c = client_of w r in
          let its = l.seats r entry.within in
          let waits = each_has (IsWaiting c its.0) waiting x.0 ((its.1).waits t there) x.1 (sym (its.1).named) in
          let over = (well.own.ranks r entry.within).rests (client_finished w t r well entry.within there ended) in
          let no_call : waits_for.Nothing ≡ waits_for.Reserve (x.0).wish.request (x.0).wish.types = sym over ∙ waits.0 in
          absurd (cc)
