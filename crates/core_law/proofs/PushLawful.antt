-- Each act of a push, and that exhaustion was found: what it needs of the bag is so, and what is known of these letters stays so.
-- Every other act leaves it.
use Rattle.std.specs.Option.{option_map}
use Rattle.std.specs.Prelude.{Contains, fold}
use Rattle.std.proofs.Common.{Bool, None, Option, Some, [], ap, arith, cond, false, length, not, refl, subst, sym, true, ℕ, ◌<◌, ◌==◌, ◌∙◌}
use Rattle.std.proofs.Common.{◌∷◌, ◌≡◌}
use Rattle.std.proofs.lemmas.Bool.{and_parts, eq-eqb, ltb-true}
use Rattle.std.proofs.lemmas.Option.{get_or_from_slice_get, slice_get_within}
use Rattle.adlb_unit.specs.declared.configs.Config.{Config}
use Rattle.adlb_unit.specs.declared.messages.Message.TheVariants as tells
use Rattle.adlb_unit.specs.declared.messages.Message.{Message}
use Rattle.adlb_unit.specs.declared.names.Server.{Server}
use Rattle.adlb_unit.specs.declared.names.UnitId.{UnitId}
use Rattle.adlb_unit.specs.declared.units.Unit.{Unit}
use Rattle.bag_ledger.specs.Bag.{Bag, unit_of}
use Rattle.bag_ledger.specs.Runs.{IsRunWhere}
use Rattle.bag_ledger.specs.declared.states.Placed.{Placed}
use Rattle.bag_ledger.specs.declared.states.UnitPlace.TheVariants.{Free, Travelling}
use Rattle.bag_ledger.specs.declared.states.UnitPlace.{UnitPlace}
use Rattle.bag_ledger.proofs.Tests.{some_is}
use Rattle.bag_law.specs.Sound.{PromisesAreSingle}
use Rattle.bag_law.proofs.Sound.{run_is_sound}
use Rattle.work_queue.specs.Push.{first_to_push_of, pick_to_push}
use Rattle.work_queue.specs.Queue.{Queue}
use Rattle.work_queue.specs.declared.pushing.Candidate.{Candidate}
use Rattle.work_queue.proofs.Pushes.{first_is}
use Rattle.server_components.specs.Grants.{unit_with}
use Rattle.server_components.specs.Pushes.{Pushing, may_push, query_of, query_to}
use Rattle.server_components.specs.declared.pushing.PushQuery.{PushQuery}
use Rattle.server_law.specs.Acts.{Act, Arrives, Cancels, Finds, Hears_exhaust, Promises, Queries, Refuses_push, Sends_unit, Withdraws}
use Rattle.server_law.specs.Acts.{entries, of_server, takes}
use Rattle.server_law.specs.Agreement.{ServerAgrees}
use Rattle.server_law.specs.Legal.{Needs}
use Rattle.server_law.specs.State.{ServerModel}
use Rattle.server_law.proofs.ByIds.{free_is_found, listed_is_found}
use Rattle.core_run.specs.World.{World, pool_of}
use Rattle.core_law.specs.Acting.{IsAct, acted}
use Rattle.core_law.specs.Found.{found_in}
use Rattle.core_law.specs.Lawful.{IsLawful}
use Rattle.core_law.specs.Pushed.{IsPushed, OfPush}
use Rattle.core_law.specs.Well.{IsWell}
use Rattle.core_law.proofs.FreeUnits.{queries_pushed}
use Rattle.core_law.proofs.Deciding.{IsFreeAt, free_at}
use Rattle.core_law.proofs.PushActs.{arrives_pushed, cancels_pushed, finds_pushed, plain_pushed, promises_pushed, refuses_pushed}
use Rattle.core_law.proofs.PushActs.{sends_pushed, taken_of, withdraws_pushed}
use Rattle.core_law.proofs.Pushing.{begins_push}
use Rattle.core_law.proofs.Seats.{IsMade}
use Rattle.core_law.proofs.LettersAndActors.{fit_of}

abbrev is_free : Bag → Server → Unit → Type 0
is_free b me unit = unit_of b unit.id ≡ Some (record { unit = unit; place = Free me })

free_is : (b : Bag) (me : Server) (unit : Unit) → IsFreeAt b me unit → is_free b me unit
free_is b me unit u =
    u.1 ∙ ap (λ (x : Unit). Some (record { unit = x; place = u.0.place })) u.2
    ∙ ap (λ (p : UnitPlace). Some (record { unit = unit; place = p })) u.3

-- the unit for which room is asked is the first to push
query_unit : (config : Config) (me : Server) (p : Pushing) (queue : Queue) (q : PushQuery) → query_of config me p queue ≡ Some q
    → first_to_push_of queue.units ≡ Some (q.id, q.length)
query_unit config me p queue q is = by_test (may_push config p queue) is
  where
    by_unit : (o : Option (UnitId × ℕ)) → option_map (query_to config me p) o ≡ Some q → o ≡ Some (q.id, q.length)
    by_unit None is = absurd (cc)
    by_unit (Some unit) is = ap (λ (x : PushQuery). Some (x.id, x.length)) (some_is is)

    by_test : (t : Bool) → cond t (option_map (query_to config me p) (first_to_push_of queue.units)) None ≡ Some q
        → first_to_push_of queue.units ≡ Some (q.id, q.length)
    by_test true is = by_unit (first_to_push_of queue.units) is
    by_test false is = absurd (cc)

-- and it is free in the bag, and so long
record IsFirst (b : Bag) (me : Server) (id : UnitId) (size : ℕ) : Type 0 where
  unit : Placed
  found : unit_of b id ≡ Some unit
  free : unit.place ≡ Free me
  long : length unit.unit.body ≡ size

first_here : (b : Bag) (s : ServerModel) (id : UnitId) (size : ℕ) → ServerAgrees b s
    → first_to_push_of s.kept.queue.units ≡ Some (id, size) → IsFirst b s.me id size
first_here b s id size agrees is = by_pick (fold pick_to_push None s.kept.queue.units) refl is
  where
    by_pick : (o : Option Candidate) → o ≡ fold pick_to_push None s.kept.queue.units
        → option_map {U = UnitId × ℕ} (λ (c : Candidate). (c.id, c.length)) o ≡ Some (id, size) → IsFirst b s.me id size
    by_pick None same is = absurd (cc)
    by_pick (Some c) same is =
        let units = s.kept.queue.units in
        let first = first_is units c same in
        let p = first.unit in
        let there : Contains units p =
        (first.place, slice_get_within units first.place p first.here, get_or_from_slice_get units first.place p p first.here) in
        let found = listed_is_found units p p.unit.id agrees.units.distinct there refl in
        let u = free_at b s p p.unit agrees refl found first.is_movable.0 in
        let told : (p.unit.id, length p.unit.body) ≡ (id, size) = first.has ∙ some_is is in
        let name : p.unit.id ≡ id = ap (λ (x : UnitId × ℕ). x.0) told in
        let long : length p.unit.body ≡ size = ap (λ (x : UnitId × ℕ). x.1) told in
        record {
          unit = u.0;
          found = ap (unit_of b) (sym name) ∙ u.1;
          free = u.3;
          long = ap (λ (x : Unit). length x.body) u.2 ∙ long;
        }

module _ (w : World) (k : Server) (b : Bag) (well : IsWell w) (l : IsLawful w b) where
  -- the letter that is taken, as the bag has it
  letter_is : (a : Act) (from : Server) (m : Message) → IsAct w k a → takes a ≡ of_server from m ∷ [] → OfPush b from k m
  letter_is a from m is takes_it = taken_of w k a b (of_server from m) is takes_it l.pushed

  named : k.0 < w.config.servers → (pool_of w k).me ≡ k
  named here = (well.own.servers k here).me

  singles : PromisesAreSingle b.promises
  singles = (run_is_sound (found_in w.config) w.config w.ledger b l.run).single

  -- a unit that is sent
  sent_is_free : (to : Server) (size : ℕ) (unit : Unit) → IsAct w k (Sends_unit to size unit) → is_free b (pool_of w k).me unit
  sent_is_free to size unit is =
      let s = pool_of w k in
      let agrees = l.pools k is.here in
      let found = is.sure.1 in
      let units = s.kept.queue.units in
      let at = free_is_found units unit.id found.0 agrees.units.distinct found.1 in
      let there = ap (λ (v : Unit). unit_with v.id units) found.2 ∙ at.0 in
      free_is b s.me unit (free_at b s found.0 unit agrees found.2 there at.1)

  -- What the act needs of the bag.

  -- what a promise needs of the bag is so
  pub promises_needs : (from : Server) (id : UnitId) (size : ℕ) → IsAct w k (Promises from id size)
      → Needs (found_in w.config) (Promises from id size) b (pool_of w k).me
  promises_needs from id size is =
      let of = letter_is (Promises from id size) from (tells.PushQuery id size) is refl in
      let fit = fit_of w k (Promises from id size) well is in
      let other = (and_parts (not (from.0 == k.0)) true fit.0.1).0 in (
        λ same.
            let it : (from.0 == k.0) ≡ true = eq-eqb from.0 k.0 (ap (λ (x : Server). x.0) (same ∙ named is.here)) in
            let no_one : true ≡ false = sym other ∙ ap not it in
            absurd (cc),
        of.0,
        of.1,
        of.2,
      )

  -- what sending a unit needs of the bag is so
  pub sends_needs : (to : Server) (size : ℕ) (unit : Unit) → IsAct w k (Sends_unit to size unit)
      → Needs (found_in w.config) (Sends_unit to size unit) b (pool_of w k).me
  sends_needs to size unit is =
      let of = letter_is (Sends_unit to size unit) to (tells.PushYes unit.id) is refl in
      let agrees = l.pools k is.here in
      let same : (pool_of w k).config.servers ≡ w.config.servers = ap (λ (c : Config). c.servers) (well.own.servers k is.here).config in
      let there = ltb-true to.0 w.config.servers is.front.2 in
      let servers = agrees.servers in
      (omega arith, of.1)

  -- what the arrival of a unit needs of the bag is so
  pub arrives_needs : (from : Server) (unit : Unit) → IsAct w k (Arrives from unit)
      → Needs (found_in w.config) (Arrives from unit) b (pool_of w k).me
  arrives_needs from unit is =
      let of = letter_is (Arrives from unit) from (tells.PushUnit unit) is refl in
      (of ∙ ap (λ (x : Server). Some (record { unit = unit; place = Travelling x })) (sym (named is.here)), singles)

  -- what the withdrawal of a promise needs of the bag is so
  pub withdraws_needs : (from : Server) (id : UnitId) → IsAct w k (Withdraws from id)
      → Needs (found_in w.config) (Withdraws from id) b (pool_of w k).me
  withdraws_needs from id is = ((letter_is (Withdraws from id) from (tells.PushCancel id) is refl).0, singles)

  -- what noting exhaustion needs of the bag is so
  pub exhaust_needs : (from : Server) → IsAct w k (Hears_exhaust from) → Needs (found_in w.config) (Hears_exhaust from) b (pool_of w k).me
  exhaust_needs from is = letter_is (Hears_exhaust from) from tells.Exhaust is refl

  -- What is known of push letters.

  asks_pushed : (to : Server) (id : UnitId) (size : ℕ) → IsMade w k (Queries to id size) b b → IsPushed (acted w k (Queries to id size)) b
  asks_pushed to id size m =
      let is = m.is in
      let s = pool_of w k in
      let q : PushQuery = record { to = to; id = id; length = size } in
      let begins = begins_push s.config s.me s.kept.pushing s.kept.queue q is.sure in
      let u = first_here b s id size (l.pools k is.here) (query_unit s.config s.me s.kept.pushing s.kept.queue q is.sure) in
      let free = u.free ∙ ap (λ (x : Server). Free x) (named is.here) in
      queries_pushed w k to id size b u.unit m begins.rests (well.push k) u.found free u.long l.pushed

  unchanged_bag : (a : Act) (n : Bag) → entries a (pool_of w k) ≡ [] → IsMade w k a b n → (IsMade w k a b b → IsPushed (acted w k a) b)
      → IsPushed (acted w k a) n
  unchanged_bag a n none m pushes_on =
      let same : b ≡ n = subst (λ es. IsRunWhere (found_in w.config) b es n) none m.step in
      let made = subst (λ (x : Bag). IsMade w k a b x) (sym same) m in
      subst (λ (x : Bag). IsPushed (acted w k a) x) same (pushes_on made)

  -- what is known of letters of pushes stays so after each act
  pub act_pushed : (a : Act) (n : Bag) → IsMade w k a b n → IsPushed (acted w k a) n
  act_pushed (Queries to id size) n m = unchanged_bag (Queries to id size) n refl m (asks_pushed to id size)
  act_pushed (Promises from id size) n m = promises_pushed w k from id size b n m l.pushed
  act_pushed (Refuses_push from id size) n m =
      unchanged_bag (Refuses_push from id size) n refl m (λ made. refuses_pushed w k from id size b made l.pushed)
  act_pushed (Sends_unit to size unit) n m = sends_pushed w k to size unit b n m (sent_is_free to size unit m.is) l.pushed
  act_pushed (Cancels to id size) n m = unchanged_bag (Cancels to id size) n refl m (λ made. cancels_pushed w k to id size b made l.pushed)
  act_pushed (Arrives from unit) n m =
      let of = letter_is (Arrives from unit) from (tells.PushUnit unit) m.is refl in
      let sound = run_is_sound (found_in w.config) w.config w.ledger b l.run in
      let p = sound.tracked.promised unit.id (record { unit = unit; place = Travelling k }) k (of, refl) in
      arrives_pushed w k from unit b n p.0 m singles p.1 l.pushed
  act_pushed (Withdraws from id) n m = withdraws_pushed w k from id b n m singles l.pushed
  act_pushed (Finds from t) n m = finds_pushed w k from t b n m l.pushed
  act_pushed a n m = plain_pushed w k a b n m tt l.pushed
