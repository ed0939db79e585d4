-- What is lawful stays lawful through each act of a server, for all ranks and servers, and so through its event.
use Rattle.std.proofs.Common.{◌≡◌, ◌≢◌, ◌<◌, ℕ, ◌==◌, Bool, true, false, [], List, Option, None, Some, refl, sym, ap, ◌∙◌, subst}
use Rattle.std.proofs.lemmas.Bool.{eqb-true}
use Rattle.adlb_unit.specs.Targets.{home}
use Rattle.adlb_unit.specs.declared.actors.Actor.{Actor}
use Rattle.adlb_unit.specs.declared.letters.Letter.{Letter}
use Rattle.adlb_unit.specs.declared.messages.Message.{Message}
use Rattle.adlb_unit.specs.declared.names.Rank.{Rank}
use Rattle.adlb_unit.specs.declared.names.Server.{Server}
use Rattle.bag_ledger.specs.Bag.{Bag, start as empty_bag}
use Rattle.bag_ledger.specs.Runs.{IsRunWhere}
use Rattle.bag_ledger.proofs.Legal.{joined_where}
use Rattle.bag_ledger.proofs.Tests.{some_is}
use Rattle.bag_law.proofs.Sound.{run_is_sound}
use Rattle.rank_client.specs.Agreement.{holds}
use Rattle.server_law.specs.Acts.{Accepts, Act, Checks_alone, Fails, Finds_alone, Gives_up, Hears_done, Hears_exhaust, Hears_failed}
use Rattle.server_law.specs.Acts.{Hears_shutdown, Marks, Notes_own, Notices, Passes, Shuts_alone, Starts, Wants, Answers, Asks_on, Closes}
use Rattle.server_law.specs.Acts.{Counts, Declines, Drops_hint, Ends_keep, Ends_put, Ends_reserve, Ends_try, Fetches, Fetches_part, Finds}
use Rattle.server_law.specs.Acts.{Gives, Grants, Grants_try, Hints, Is_hinted, Keeps, Looks, Notes_finish, Parks, Passes_on, Refuses}
use Rattle.server_law.specs.Acts.{Refuses_part, Shuts, Tells, Wakes, entries, Queries, Promises, Refuses_push, Sends_unit, Cancels}
use Rattle.server_law.specs.Acts.{Stops_push, Ends_push, Arrives, Acks, Withdraws}
use Rattle.server_law.specs.Agreement.{ServerAgrees}
use Rattle.server_law.specs.Carried.{Served, done}
use Rattle.server_law.specs.Legal.{Needs}
use Rattle.server_law.specs.State.{ServerModel, awaiting}
use Rattle.server_law.specs.Step.{ticked}
use Rattle.server_law.proofs.Elsewhere.{servers_stay}
use Rattle.server_law.proofs.OwnEntries.{acts_are_legal}
use Rattle.core_run.specs.World.{World, client_of, pool_of, rank_named}
use Rattle.core_law.specs.Acting.{IsAct, acted, ticks}
use Rattle.core_law.specs.Found.{found_in}
use Rattle.core_law.specs.Lawful.{IsLawful, IsSeat, IsWaiting}
use Rattle.core_law.specs.OnLinks.{Each}
use Rattle.core_law.specs.Others.{tells_of}
use Rattle.core_law.specs.Well.{IsWell}
use Rattle.core_law.proofs.Actors.{every_pool}
use Rattle.core_law.proofs.ActSeats.{about, asks_stays, declines_stays, finish_stays, hinted_stays, other_stays, parks_stays, passes_stays}
use Rattle.core_law.proofs.ActSeats.{wakes_stays}
use Rattle.core_law.proofs.Answering.{entry_here, home_here}
use Rattle.core_law.proofs.Bags.{not_kept, of_act, run_facts, run_servers}
use Rattle.core_law.proofs.Deciding.{IsDone, Succeeds, accepts_succeeds, answers_succeeds, ends_put_succeeds, ends_reserve_succeeds}
use Rattle.core_law.proofs.Deciding.{fetches_succeeds, gives_succeeds, grants_succeeds, hears_done_succeeds, refuses_succeeds}
use Rattle.core_law.proofs.Deciding.{tells_succeeds, closes_succeeds, counts_succeeds, ends_keep_succeeds, ends_try_succeeds}
use Rattle.core_law.proofs.Deciding.{fetches_part_succeeds, grants_try_succeeds, keeps_succeeds, looks_succeeds, refuses_part_succeeds}
use Rattle.core_law.proofs.Events.{event_keeps}
use Rattle.core_law.proofs.Resting.{alone_is_found, token_is_found}
use Rattle.core_law.proofs.Seats.{IsMade}
use Rattle.core_law.proofs.Steps.{Serves}
use Rattle.core_law.proofs.LettersAndActors.{inside_servers, own_of}
use Rattle.core_law.proofs.PushLawful.{act_pushed, arrives_needs, exhaust_needs, promises_needs, sends_needs, withdraws_needs}

-- An act.

module _ (w : World) (k : Server) (b : Bag) (well : IsWell w) (l : IsLawful w b) where
  -- an act that enters nothing
  unchanged : (a : Act) → entries a (pool_of w k) ≡ [] → Needs (found_in w.config) a b (pool_of w k).me
      → ((r : Rank) (coming : Option Message) → about a ≡ Some r → IsMade w k a b b → IsSeat w b r coming → IsSeat (acted w k a) b r coming)
      → Succeeds w k a b
  unchanged a none needs stays = record {
    needs = needs;
    makes = λ n m.
        let same : b ≡ n = subst (λ es. IsRunWhere (found_in w.config) b es n) none m.step in
        let made = subst (λ (x : Bag). IsMade w k a b x) (sym same) m in
        subst (λ (x : Bag). IsDone w k a x) same (record {
          seat = λ r told within. let its = l.seats r within in (its.0, stays r its.0 told made its.1);
        });
  }

  -- an act that is about no rank
  tells_nobody : (a : Act) → Needs (found_in w.config) a b (pool_of w k).me → about a ≡ None → Succeeds w k a b
  tells_nobody a needs none = record {
    needs = needs;
    makes = λ n m. record { seat = λ r told within. let no_one : None ≡ Some r = sym none ∙ told in absurd (cc) };
  }

  succeeds : (a : Act) → IsAct w k a → Succeeds w k a b
  succeeds (Accepts unit) is = accepts_succeeds w k b well l is.here unit is
  succeeds (Refuses unit) is = refuses_succeeds w k b well l is.here unit is
  succeeds (Ends_put unit end) is = ends_put_succeeds w k b well l is.here unit end is
  succeeds (Grants wish unit) is = grants_succeeds w k b well l is.here wish unit is
  succeeds (Ends_reserve wish end) is = ends_reserve_succeeds w k b well l is.here wish end is
  succeeds (Parks wish) is = unchanged (Parks wish) refl tt (λ r coming told m seat. parks_stays w k wish b r coming m seat)
  succeeds (Grants_try wish unit) is = grants_try_succeeds w k b well l is.here wish unit is
  succeeds (Ends_try wish end) is = ends_try_succeeds w k b well l is.here wish end is
  succeeds (Looks wish) is = looks_succeeds w k b well l is.here wish is
  succeeds (Fetches rank request id unit) is = fetches_succeeds w k b well l is.here rank request id unit is
  succeeds (Counts rank request kind) is = counts_succeeds w k b well l is.here rank request kind is
  succeeds (Notes_finish rank) is = unchanged (Notes_finish rank) refl tt (λ r coming told m seat. finish_stays w k rank b r coming m seat)
  succeeds (Gives at wish rest unit) is = gives_succeeds w k b well l is.here at wish rest unit is
  succeeds (Tells at wish rest end) is = tells_succeeds w k b well l is.here at wish rest end is
  succeeds (Asks_on at wish to rest) is =
      unchanged (Asks_on at wish to rest) refl tt (λ r coming told m seat. asks_stays w k at wish to rest b r coming m seat)
  succeeds (Passes_on at wish from rest note) is =
      let entry = entry_here w k at (awaiting wish from rest) well is.here is.sits in
      let at_home = home_here w k wish.rank well entry.within entry.here in
      unchanged (Passes_on at wish from rest note) refl tt (λ r coming told m seat.
      let its = subst (λ (x : Rank). k ≡ home (client_of w x).config (client_of w x).me) (some_is told) at_home in
      passes_stays w k at wish from rest note b r coming m its seat)
  succeeds (Wakes at wish from rest) is =
      unchanged (Wakes at wish from rest) refl tt (λ r coming told m seat. wakes_stays w k at wish from rest b r coming m seat)
  succeeds (Is_hinted at e from) is =
      unchanged (Is_hinted at e from) refl tt (λ r coming told m seat. hinted_stays w k at e from b r coming m seat)
  succeeds (Drops_hint from rank request) is = tells_nobody (Drops_hint from rank request) tt refl
  succeeds (Answers from wish unit) is = answers_succeeds w k b well l is.here from wish unit is
  succeeds (Declines from wish) is =
      unchanged (Declines from wish) refl tt (λ r coming told m seat. declines_stays w k from wish b r coming m seat)
  succeeds (Hints wish) is = tells_nobody (Hints wish) tt refl
  succeeds (Queries to id size) is = tells_nobody (Queries to id size) tt refl
  succeeds (Promises from id size) is = tells_nobody (Promises from id size) (promises_needs w k b well l from id size is) refl
  succeeds (Refuses_push from id size) is = tells_nobody (Refuses_push from id size) tt refl
  succeeds (Sends_unit to size unit) is = tells_nobody (Sends_unit to size unit) (sends_needs w k b well l to size unit is) refl
  succeeds (Cancels to id size) is = tells_nobody (Cancels to id size) tt refl
  succeeds (Stops_push to id size) is = tells_nobody (Stops_push to id size) tt refl
  succeeds (Ends_push to id size) is = tells_nobody (Ends_push to id size) tt refl
  succeeds (Arrives from unit) is = tells_nobody (Arrives from unit) (arrives_needs w k b well l from unit is) refl
  succeeds (Acks to id) is = tells_nobody (Acks to id) tt refl
  succeeds (Withdraws from id) is = tells_nobody (Withdraws from id) (withdraws_needs w k b well l from id is) refl
  succeeds (Hears_done rank request) is = hears_done_succeeds w k b well l is.here rank request is
  succeeds Notices is = tells_nobody Notices tt refl
  succeeds Notes_own is = tells_nobody Notes_own tt refl
  succeeds (Wants from) is = tells_nobody (Wants from) tt refl
  succeeds Starts is = tells_nobody Starts tt refl
  succeeds (Marks from t) is = tells_nobody (Marks from t) tt refl
  succeeds (Passes from t) is = tells_nobody (Passes from t) tt refl
  succeeds (Fails from t why) is = tells_nobody (Fails from t why) tt refl
  succeeds (Gives_up from t) is = tells_nobody (Gives_up from t) tt refl
  succeeds (Hears_failed from t why) is = tells_nobody (Hears_failed from t why) tt refl
  succeeds (Finds from t) is = tells_nobody (Finds from t) (token_is_found w k b from t well is) refl
  succeeds (Shuts from t) is = tells_nobody (Shuts from t) tt refl
  succeeds (Hears_exhaust from) is = tells_nobody (Hears_exhaust from) (exhaust_needs w k b well l from is) refl
  succeeds (Hears_shutdown from) is = tells_nobody (Hears_shutdown from) tt refl
  succeeds Finds_alone is = tells_nobody Finds_alone (alone_is_found w k b well l is) refl
  succeeds (Keeps rank request common) is = keeps_succeeds w k b well l is.here rank request common is
  succeeds (Refuses_part rank request common) is = refuses_part_succeeds w k b well l is.here rank request common is
  succeeds (Ends_keep rank request common end) is = ends_keep_succeeds w k b well l is.here rank request common end is
  succeeds (Closes request batch accepted part) is = closes_succeeds w k b well l is.here request batch accepted part is
  succeeds (Fetches_part rank request batch part) is = fetches_part_succeeds w k b well l is.here rank request batch part is
  succeeds Shuts_alone is = tells_nobody Shuts_alone tt refl
  succeeds Checks_alone is = tells_nobody Checks_alone tt refl

  -- the seats of all ranks after the act
  seats_next : (a : Act) (n : Bag) → IsMade w k a b n → IsDone w k a n → (r : Rank) → r.0 < w.config.ranks
      → (now : Option Message) × IsSeat (acted w k a) n r now
  seats_next a n m d r within = by_about (about a) refl
    where
      Now : Type 0
      Now = (now : Option Message) × IsSeat (acted w k a) n r now

      other : tells_of r (about a) ≡ false → Now
      other not_told =
          let its = l.seats r within in
          let seat = its.1 in
          let s = pool_of w k in
          let facts = run_facts (found_in w.config) (entries a s) b n (holds (client_of w r) its.0) (of_act a s) m.step seat.facts in
          (its.0, other_stays w k a b n r its.0 m not_told facts its.1)

      by_test : (q : Rank) → about a ≡ Some q → (t : Bool) → (q.0 == r.0) ≡ t → Now
      by_test q told true same =
          let it : q ≡ r = ap rank_named (eqb-true q.0 r.0 same) in
          d.seat r (told ∙ ap (λ (x : Rank). Some x) it) within
      by_test q told false differs = other (ap (tells_of r) told ∙ differs)

      by_about : (o : Option Rank) → about a ≡ o → Now
      by_about None told = other (ap (tells_of r) told)
      by_about (Some q) told = by_test q told (q.0 == r.0) refl

  -- an act of a server keeps the world lawful, over the bag with its entries
  pub act_lawful : (a : Act) → IsAct w k a → (n : Bag) × IsLawful (acted w k a) n
  act_lawful a is =
      let s = pool_of w k in
      let it = succeeds a is in
      let legal = acts_are_legal (found_in w.config) b s a (l.pools k is.here) l.rests is.sits is.sure it.needs in
      let n = legal.0 in
      let m : IsMade w k a b n = record { shape = well.shape; is = is; own = own_of w k a well is; run = l.run; step = legal.1 } in
      let d = it.makes n m in
      let sound = run_is_sound (found_in w.config) w.config w.ledger b l.run in
      let mine = well.own.servers k is.here in
      let agrees = l.pools k is.here in (
        n,
        record {
          run = joined_where (found_in w.config) (empty_bag w.config) b n w.ledger (entries a s) l.run legal.1;
          rests = legal.3;
          seats = seats_next a n m d;
          pools = every_pool (λ t x. ServerAgrees n x) w k (done a s) (inside_servers w k well is.here) legal.2 (λ t there differs.
              let yours = well.own.servers t there in
              let apart : s.me ≢ (pool_of w t).me = λ e. differs (ap (λ (x : Server). x.0) (sym yours.me ∙ sym e ∙ mine.me)) in
              let others = not_kept a s (pool_of w t).me is.sure agrees.within apart in
              run_servers servers_stay (found_in w.config) (entries a s) b n (pool_of w t) others sound legal.1 (l.pools t there));
          pushed = act_pushed w k b well l a n m;
        },
      )

-- The stamp of an event.

-- the stamp of an event keeps what is lawful
pub tick_lawful : (w : World) (k : Server) (stamp : ℕ) (up : Bool) (b : Bag) → k.0 < w.config.servers → IsWell w → IsLawful w b
    → IsLawful (ticks w k stamp up) b
tick_lawful w k stamp up b here well l =
    let s = pool_of w k in
    let inside = inside_servers w k well here in
    let m = l.pools k here in
    record {
      run = l.run;
      rests = l.rests;
      pushed = record {
        opens = l.pushed.opens;
        letters = l.pushed.letters;
        rooms = l.pushed.rooms;
        travels = l.pushed.travels;
      };
      seats = λ r within.
          let its = l.seats r within in
          let seat = its.1 in
          let P : ServerModel → Type 0 = λ x. Each (IsWaiting (client_of w r) its.0) x.kept.parked.waiting in (
            its.0,
            record {
              named = seat.named;
              stands = seat.stands;
              letters = seat.letters;
              waits = every_pool (λ t x. P x) w k (ticked s stamp up) inside (seat.waits k here) (λ t there differs. seat.waits t there);
              said = seat.said;
              facts = seat.facts;
            },
          );
      pools = every_pool (λ t x. ServerAgrees b x) w k (ticked s stamp up) inside m (λ t there differs. l.pools t there);
    }

-- An event of a server.
pub event_lawful : (w next : World) (from : Actor) (me : Server) (letter : Letter) (rest : List Letter) (x : Served) (b : Bag) → IsWell w
    → IsLawful w b
    → Serves w from me letter rest x next → (n : Bag) × IsLawful next n
event_lawful w next from me letter rest x b well l does =
    event_keeps (λ v. (n : Bag) × IsLawful v n) (λ v k stamp up here own was. (was.0, tick_lawful v k stamp up was.0 here own was.1))
    (λ v k a own is was. act_lawful v k was.0 own was.1 a is) w next from me letter rest x well does (b, l)
