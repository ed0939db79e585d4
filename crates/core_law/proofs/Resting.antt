-- Where the only server finds that all work is used up, the bag is settled; and a token comes only where there are several.
use Rattle.std.proofs.Common.{◌≡◌, ◌<◌, ◌≤◌, ◌⊎◌, inl, inr, ℕ, zero, suc, ◌%◌, ◌==◌, Bool, true, false, cond, not, List, [], ◌∷◌, length}
use Rattle.std.proofs.Common.{get_or, Option, None, Some, refl, sym, ap, ◌∙◌, subst, arith}
use Rattle.std.specs.Prelude.{IfSome}
use Rattle.std.proofs.lemmas.Bool.{and_parts, eq-eqb, eqb-true, ltb-true}
use Rattle.std.proofs.lemmas.List.{length-replicate}
use Rattle.std.proofs.lemmas.Option.{slice_get_within}
use Rattle.adlb_unit.specs.declared.configs.Config.{Config}
use Rattle.adlb_unit.specs.declared.names.Rank.{Rank}
use Rattle.adlb_unit.specs.declared.names.Server.{Server}
use Rattle.adlb_unit.specs.declared.tokens.Token.{Token}
use Rattle.bag_ledger.specs.Bag.{Bag, fresh, rank_at, settled, start as empty_bag}
use Rattle.bag_ledger.specs.Runs.{IsRunWhere}
use Rattle.bag_ledger.specs.Steps.{after, change_at}
use Rattle.bag_ledger.proofs.Turns.{IsTurn, turn}
use Rattle.bag_ledger.specs.declared.entries.Entry.{Entry}
use Rattle.bag_ledger.specs.declared.states.RankState.{RankState}
use Rattle.bag_ledger.specs.declared.states.Status.TheVariants as is_at
use Rattle.bag_ledger.proofs.Tests.{some_is}
use Rattle.rank_client.specs.Agreement.{rank_of}
use Rattle.server_law.specs.Acts.{Finds, Finds_alone}
use Rattle.server_law.specs.Expected.{IsHome, WaitsIdle}
use Rattle.server_law.specs.Rest.{RestsAt, WaitsFor}
use Rattle.server_components.specs.Parked.{IsOther}
use Rattle.server_components.specs.declared.waits.Waiting.{Waiting}
use Rattle.server_law.specs.State.{is_finished, start as new_pool}
use Rattle.server_law.proofs.OneServer.{one_has_all}
use Rattle.server_law.proofs.Resting.{rest_is_settled}
use Rattle.server_law.proofs.Tests.{quiet_is_tested}
use Rattle.core_run.specs.World.{World, client_of, pool_of}
use Rattle.core_law.specs.Acting.{IsAct}
use Rattle.core_law.specs.Found.{found_in}
use Rattle.core_law.specs.Lawful.{IsLawful, IsWaiting}
use Rattle.core_law.specs.OnLinks.{Each}
use Rattle.core_law.specs.Letters.{finishes, one}
use Rattle.core_law.specs.Measures.{measure, server_weight, weigh_at}
use Rattle.core_law.specs.Own.{IsEntry}
use Rattle.core_law.specs.Well.{IsWell}
use Rattle.core_law.proofs.OneServer.{alone_unpromised}
use Rattle.core_law.proofs.Answering.{IsReserveHere, waiting_call}
use Rattle.core_law.proofs.Deciding.{asks_now}
use Rattle.core_law.proofs.Fifo.{part_le}
use Rattle.core_law.proofs.OwedByRanks.{finishes_are}
use Rattle.core_law.proofs.RunsWhere.{alone_run}
use Rattle.core_law.proofs.LettersAndActors.{fit_of}

-- a rank whose Finish letter was handled has finished
pub client_finished : (w : World) (k : Server) (rank : Rank) → IsWell w → rank.0 < w.config.ranks → k.0 < w.config.servers
    → is_finished (pool_of w k).kept rank ≡ true → (client_of w rank).finished ≡ true
unfolding measure
client_finished w k rank well within here handled =
    let shape = well.shape in
    let ranks = shape.ranks in
    let servers = shape.servers in
    let m = finishes rank k in
    let all : measure m w ≡ one (client_of w rank).finished = finishes_are w rank k (omega arith) (well.finish rank k here) in
    let part : server_weight m.server k.0 (pool_of w k) ≤ weigh_at (server_weight m.server) w.servers =
    part_le (server_weight m.server) w.servers k.0 (new_pool w.config k) (omega arith) in
    let weighs : server_weight m.server k.0 (pool_of w k) ≡ 1 = rw (eq-eqb k.0 k.0 refl, handled) refl in
    by_flag (client_of w rank).finished refl (omega arith)
  where
    by_flag : (t : Bool) → (client_of w rank).finished ≡ t → 1 ≤ one t → (client_of w rank).finished ≡ true
    by_flag true is some = is
    by_flag false is some = absurd (omega arith)

-- there are as many ranks in the bag as in the run

length-changed : {X : Type 0} (f : X → X) (place : ℕ) (xs : List X) → length (change_at f place xs) ≡ length xs
length-changed f place [] = refl
length-changed f zero (x ∷ xs) = refl
length-changed f (suc place) (x ∷ xs) = ap suc (length-changed f place xs)

-- a run of the bag keeps how many ranks there are
pub ranks_stay : (found : Bag → Bool) (b last : Bag) (es : List Entry) → IsRunWhere found b es last → length last.ranks ≡ length b.ranks
ranks_stay found b last [] run = ap (λ (x : Bag). length x.ranks) (sym run)
ranks_stay found b last (e ∷ es) run =
    ranks_stay found run.0 last es run.2 ∙ ap (λ (x : Bag). length x.ranks) run.1.2 ∙ by_turn (turn found b e run.1.1)
  where
    by_turn : ((after b e).ranks ≡ b.ranks) ⊎ IsTurn b.ranks e (after b e).ranks → length (after b e).ranks ≡ length b.ranks
    by_turn (inl same) = ap length same
    by_turn (inr t) = ap length t.changed ∙ length-changed t.f t.place b.ranks

each_at : {X : Type 0} (P : X → Type 0) (xs : List X) (i : ℕ) (d : X) → Each P xs → i < length xs → P (get_or xs i d)
each_at P [] i d each within = absurd (omega arith)
each_at P (x ∷ xs) zero d each within = each.0
each_at P (x ∷ xs) (suc i) d each within = each_at P xs i d each.1 (omega arith)

-- where there is one server, no other is asked
none_asked : (config : Config) (k : Server) (e : Waiting) → config.servers ≡ 1 → k.0 < config.servers → IsEntry config k e → e.asked ≡ None
none_asked config k e alone here entry = by_asked e.asked refl entry.asked
  where
    by_asked : (o : Option Server) → e.asked ≡ o → IfSome o (IsOther config k) → e.asked ≡ None
    by_asked None is other = is
    by_asked (Some to) is other =
        let within = other.0 in
        let same : to.0 ≡ k.0 = omega arith in
        absurd (other.1 same)

module _ (w : World) (k : Server) (b : Bag) (well : IsWell w) (l : IsLawful w b) (is : IsAct w k Finds_alone) where
  entry_at : (i : ℕ) (e : Waiting) → i < length (pool_of w k).kept.parked.waiting → get_or (pool_of w k).kept.parked.waiting i e ≡ e
      → IsEntry w.config k e
  entry_at i e within read =
      let here = is.here in
      let pool = well.own.servers k here in
      subst (λ (x : Waiting). IsEntry w.config k x) read (pool.waiting i e within)

  -- each rank that waits and is idle is in that call
  waits_at : (i : ℕ) (e : Waiting) → i < length (pool_of w k).kept.parked.waiting → get_or (pool_of w k).kept.parked.waiting i e ≡ e
      → e.asked ≡ None → IsReserveHere w k b e.wish
  waits_at i e within read idle =
      waiting_call w k b e well l (entry_at i e within read) idle (λ coming seat.
      let P : Waiting → Type 0 = IsWaiting (client_of w e.wish.rank) coming in
      subst P read (each_at P (pool_of w k).kept.parked.waiting i e (seat.waits k is.here) within))

  finished_in_bag : (rank : Rank) (r : RankState) → rank.0 < w.config.ranks → rank_at b rank ≡ Some r
      → is_finished (pool_of w k).kept rank ≡ true
      → r.status ≡ is_at.Finished
  finished_in_bag rank r within there handled =
      let c = client_of w rank in
      let its = l.seats rank within in
      let seat = its.1 in
      let stands = seat.stands in
      let done = client_finished w k rank well within is.here handled in
      let at : rank_at b rank ≡ Some (rank_of c true its.0) =
      ap (rank_at b) (sym seat.named) ∙ stands.rank ∙ ap (λ t. Some (rank_of c t its.0)) done in
      ap (λ (x : RankState). x.status) (some_is (sym there ∙ at))

  asking_in_bag : (rank : Rank) (r : RankState) → rank_at b rank ≡ Some r → WaitsIdle (pool_of w k) rank
      → WaitsFor (pool_of w k).kept.parked.waiting rank r
  asking_in_bag rank r there (i, e, within, read, (same, idle)) =
      let h = waits_at i e within read idle in
      let asks = asks_now w k b well l is.here e.wish h.calling in
      let one : asks.0 ≡ r = some_is (sym asks.1 ∙ ap (rank_at b) same ∙ there) in
      (i, e, within, read, (same, ap (λ (x : RankState). x.status) (sym one) ∙ asks.2))

  within_run : (rank : Rank) (r : RankState) → rank_at b rank ≡ Some r → rank.0 < w.config.ranks
  within_run rank r there =
      let long = ranks_stay (found_in w.config) (empty_bag w.config) b w.ledger l.run in
      let all = length-replicate w.config.ranks fresh in
      let low = slice_get_within b.ranks rank.0 r there in
      omega arith

  rests : RestsAt b (pool_of w k)
  rests =
      let sure = is.sure in
      let here = is.here in
      let pool = well.own.servers k here in
      let agrees = l.pools k here in
      let alone : w.config.servers ≡ 1 = ap (λ (c : Config). c.servers) (sym pool.config) ∙ sure.alone in
      let zeroth : (pool_of w k).me.0 ≡ 0 = let n = agrees.within in let a = sure.alone in omega arith in
      let first_waits : get_or (pool_of w k).kept.parked.waiting 0 sure.first ≡ sure.first = rw (sure.waits) refl in
      let some : 0 < length (pool_of w k).kept.parked.waiting = rw (sure.waits) (omega arith) in
      let idle = none_asked w.config k sure.first alone is.here (entry_at 0 sure.first some first_waits) in
      let first_here = waits_at 0 sure.first some first_waits idle in
      record {
        agrees = l.pools k is.here;
        all = one_has_all w.config w.ledger b (pool_of w k).me alone zeroth
            (alone_run w.config (empty_bag w.config) b w.ledger alone l.run);
        unpromised = alone_unpromised w b well alone l.pushed;
        ranks = λ rank r there.
            let within = within_run rank r there in
            let alike : (pool_of w k).config.ranks ≡ w.config.ranks = ap (λ (c : Config). c.ranks) pool.config in
            let home_is : IsHome (pool_of w k) rank = let one : rank.0 % 1 ≡ 0 = omega arith in rw (sure.alone, zeroth) one in
            elim (((quiet_is_tested (pool_of w k)).0 sure.quiet).rest rank (omega arith) home_is) [
              | inl waits ↦ inr (asking_in_bag rank r there waits)
              | inr finished ↦ inl (finished_in_bag rank r within there finished)
            ];
        asks = (sure.first.wish, asks_now w k b well l is.here sure.first.wish first_here.calling);
        unfit = sure.unfit;
      }

  -- where the only server finds exhaustion, the bag is settled
  pub alone_is_found : found_in w.config b ≡ true
  alone_is_found =
      let sure = is.sure in
      let pool = well.own.servers k is.here in
      let alone : w.config.servers ≡ 1 = ap (λ (c : Config). c.servers) (sym pool.config) ∙ sure.alone in
      let one : (w.config.servers == 1) ≡ true = eq-eqb w.config.servers 1 alone in
      ap (λ t. cond t (settled b) true) one ∙ rest_is_settled b (pool_of w k) rests

-- where there are several, nothing is asked; and no token comes where there is one
pub token_is_found : (w : World) (k : Server) (b : Bag) (from : Server) (t : Token) → IsWell w → IsAct w k (Finds from t)
    → found_in w.config b ≡ true
token_is_found w k b from t well is = by_test (w.config.servers == 1) refl
  where
    by_test : (one : Bool) → (w.config.servers == 1) ≡ one → cond one (settled b) true ≡ true
    by_test false several = refl
    by_test true one =
        let fit = fit_of w k (Finds from t) well is in
        let other = (and_parts (not (from.0 == k.0)) _ fit.0.1).0 in
        let there = ltb-true from.0 w.config.servers is.front.2 in
        let here = is.here in
        let alone = eqb-true w.config.servers 1 one in
        let same : (from.0 == k.0) ≡ true = eq-eqb from.0 k.0 (omega arith) in
        let no_one : true ≡ false = sym other ∙ ap not same in
        absurd (cc)
