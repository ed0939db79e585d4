-- Acts that cannot be where all is settled: what else a server could do, and why it does not.
use Rattle.std.proofs.Common.{◌≡◌, ◌<◌, ◌≤◌, ◌⊎◌, inl, inr, ℕ, ◌==◌, Bool, true, false, List, [], ◌∷◌, ◌++◌, find, Option, Some, None, refl}
use Rattle.std.proofs.Common.{sym, ap, ◌∙◌, subst, arith}
use Rattle.std.specs.Prelude.{is_none, nat_lt}
use Rattle.std.proofs.lemmas.Bool.{and_from, and_parts, cases_lt, eq-eqb, eqb-true, false_from_ne_true, lt-ltb, ltb-true}
use Rattle.adlb_unit.specs.Ids.{same_unit}
use Rattle.adlb_unit.specs.Permit.{permitted}
use Rattle.adlb_unit.specs.Targets.{home}
use Rattle.adlb_unit.specs.declared.actors.Actor.TheVariants as by
use Rattle.adlb_unit.specs.declared.configs.Config.{Config}
use Rattle.adlb_unit.specs.declared.messages.Message.{Message}
use Rattle.adlb_unit.specs.declared.messages.Message.TheVariants as tells
use Rattle.adlb_unit.specs.declared.names.Rank.{Rank}
use Rattle.adlb_unit.specs.declared.names.Server.{Server}
use Rattle.adlb_unit.specs.declared.names.UnitId.{UnitId}
use Rattle.adlb_unit.specs.declared.notes.End.{End}
use Rattle.adlb_unit.specs.declared.notes.End.TheVariants as ends_by
use Rattle.adlb_unit.specs.declared.notes.UnitNote.{UnitNote}
use Rattle.adlb_unit.specs.declared.units.Unit.{Unit}
use Rattle.bag_ledger.specs.Bag.{Bag}
use Rattle.bag_ledger.specs.declared.states.Status.TheVariants as is_at
use Rattle.bag_ledger.proofs.Tests.{some_is}
use Rattle.exhaust_ring.specs.Ring.{Asker}
use Rattle.server_components.specs.declared.waits.Waiting.{Waiting}
use Rattle.server_components.specs.declared.wishes.Wish.{Wish}
use Rattle.work_queue.specs.Best.{best_from, offered}
use Rattle.work_queue.specs.Queue.{id_of}
use Rattle.work_queue.specs.declared.placing.Placed.{Placed}
use Rattle.server_components.specs.Pushes.{asks_room, has_sent}
use Rattle.server_components.specs.declared.standing.StandingPush.{StandingPush}
use Rattle.server_law.specs.Acts.{Accepts, Act, Answers, Around, Arrives, Cancels, Closes, Counts, Ends_keep, Ends_push, Ends_put}
use Rattle.server_law.specs.Acts.{Ends_reserve, Ends_try, Fetches, Fetches_part, Gives, Grants, Grants_try, Heard, Hears_done, Keeps, Looks}
use Rattle.server_law.specs.Acts.{Parks, Passes_on, Promises, Queries, Refuses, Refuses_part, Refuses_push, Sends_unit, Stops_push, Tells}
use Rattle.server_law.specs.Acts.{Withdraws, of_rank, of_server, takes}
use Rattle.server_law.specs.Finding.{best_for, is_free_as}
use Rattle.server_law.specs.State.{Kept, ServerModel, awaiting, idle, is_home, start as new_pool}
use Rattle.server_law.specs.Sure.{HasCause, IsFound, IsFreeFor}
use Rattle.core_run.specs.World.{World, pool_of}
use Rattle.core_law.specs.Acting.{AreFront, IsAct}
use Rattle.core_law.specs.Lawful.{IsLawful}
use Rattle.core_law.specs.Letters.{is_request, one}
use Rattle.core_law.specs.Measures.{due, push_weights, server_weight, weight}
use Rattle.core_law.specs.Pushes.{push_letter, pushing}
use Rattle.core_law.specs.Well.{IsWell}
use Rattle.core_law.proofs.ActSeats.{front_is, gone_is}
use Rattle.core_law.proofs.Answering.{ask_call, entry_here}
use Rattle.core_law.proofs.Fifo.{front_held}
use Rattle.core_law.proofs.OwedByRanks.{no_sum}
use Rattle.core_law.proofs.Sums.{one_adds}
use Rattle.core_law.proofs.LettersAndActors.{inside_servers}
use Rattle.core_check_law.specs.OnWay.{of_home}
use Rattle.core_check_law.specs.Settling.{AreUnchanged, AsksAs, Has, IsOpen, IsResting, IsSettling, NoFit, asker, wish_of, wished}
use Rattle.core_check_law.proofs.Classes.{is_alone, is_turn}
use Rattle.core_check_law.proofs.Lists.{each_has, has_filter, has_map, has_there, home_below}
use Rattle.core_check_law.proofs.Ranks.{asks_never, client_asks, client_ends}
use Rattle.core_check_law.proofs.RestKept.{asked_of, is_still}

-- a push begins
abbrev pub is_query : Act → Bool
is_query (Queries to id length) = true
is_query _ = false

-- Where nothing is permitted to a rank, nothing is found for it.

none_best : (units : List Placed) (a : Asker) → NoFit units a → best_from a.0 a.1 None units ≡ None
none_best [] a none = refl
none_best (p ∷ units) a none = let later = none_best units a none.1 in rw none.0 later

free_fits : (units : List Placed) (a : Asker) (id : UnitId) (p : Placed) → NoFit units a → find (is_free_as id) units ≡ Some p
    → permitted a.0 a.1 p.unit.kind p.unit.target ≡ true → ⊥
free_fits [] a id p none found may = absurd (cc)
free_fits (q ∷ units) a id p none found may = by_test (free_fits units a id p none.1) (is_free_as id q) refl found
  where
    by_test : (find (is_free_as id) units ≡ Some p → permitted a.0 a.1 p.unit.kind p.unit.target ≡ true → ⊥) → (t : Bool)
        → is_free_as id q ≡ t → find (is_free_as id) (q ∷ units) ≡ Some p → ⊥
    by_test later true is found =
        let it : q ≡ p = some_is (rw is at found) in
        let free = (and_parts (same_unit (id_of q) id) (is_none q.pin) is).1 in
        let may_q : permitted a.0 a.1 q.unit.kind q.unit.target ≡ true = rw it may in
        let fits : offered a.0 a.1 q ≡ true = and_from (is_none q.pin) (permitted a.0 a.1 q.unit.kind q.unit.target) free may_q in
        let not_it = none.0 in
        absurd (cc (fits, not_it))
    by_test later false is found = later (rw is at found) may

-- where no unit fits, none is found for the wish
pub none_found : (k : Kept) (wish : Wish) (unit : Unit) → NoFit k.queue.units (asker wish)
    → IsFreeFor k unit wish ⊎ IsFound (best_for k wish) unit → ⊥
none_found k wish unit none (inl free) =
    let p = free.0 in
    free_fits k.queue.units (asker wish) unit.id p.0 none p.1 (rw p.2 free.1)
none_found k wish unit none (inr best) =
    let nothing = none_best k.queue.units (asker wish) none in
    let found : None ≡ Some best.0 = rw nothing at best.1 in
    absurd (cc)

-- Where no push of a server stands, no letter of one is under way.

no_weight : {X : Type 0} (f : X → ℕ) (o : Option X) → ((x : X) → f x ≡ 0) → weight f o ≡ 0
no_weight f None none = refl
no_weight f (Some x) none = none x

push_free : (w : World) (of : Server) → IsWell w → of.0 < w.config.servers → (pool_of w of).kept.pushing.push ≡ None
    → due (push_weights (pushing of)) w ≡ 0
unfolding due
push_free w of well there free =
    let f = server_weight (push_weights (pushing of)).server_due in
    let owed = one_adds f w.servers of.0 (new_pool w.config of) (inside_servers w of well there)
    (λ i s differs. no_weight (λ (p : StandingPush). one (i == of.0)) s.kept.pushing.push
    (λ p. ap one (false_from_ne_true (i == of.0) (λ e. differs (eqb-true i of.0 e))))) in
    let mine : f of.0 (pool_of w of) ≡ 0 = rw free refl in
    let none = no_sum w.ranks in
    omega arith

-- no server has a push
abbrev pub AreUnpushed : World → Type 0
AreUnpushed w = (t : Server) → t.0 < w.config.servers → (pool_of w t).kept.pushing.push ≡ None

-- where none has, no act takes a letter of one
pub pushes_none : (w : World) (k : Server) → IsWell w → AreUnpushed w → (a : Act) (from : Server) (m : Message) → IsAct w k a
    → takes a ≡ of_server from m ∷ [] → push_letter from (by.Server from) (by.Server k) m ≡ 1 → ⊥
pushes_none w k well free a from m is it weighs =
    let f = subst (λ (heard : List Heard). AreFront w.config k w.links heard) it is.front in
    let there = ltb-true from.0 w.config.servers f.2 in
    let held = front_held (push_weights (pushing from)) w (by.Server from) (by.Server k) f.0 f.1 well.shape f.2
    (lt-ltb k.0 w.config.servers is.here) f.3 in
    let here : push_letter from (by.Server from) (by.Server k) (f.0).message ≡ 1 =
    subst (λ (x : Message). push_letter from (by.Server from) (by.Server k) x ≡ 1) (sym f.4) weighs in
    let none = push_free w from well there (free from there) in
    let even = (well.push from).same in
    absurd (omega arith)

-- a number is counted as equal to itself
pub itself : (n : ℕ) → one (n == n) ≡ 1
itself n = ap one (eq-eqb n n refl)

module _ (w : World) (b : Bag) (k : Server) (p : ℕ) (asked : List Asker) (well : IsWell w) (l : IsLawful w b) (un : AreUnchanged w p)
    (open_still : IsOpen b asked) (settles : IsSettling w b p asked) where
  abbrev s : ServerModel
  s = pool_of w k

  resting : (r : Rank) → r.0 < w.config.ranks → IsResting w b r
  resting r inside = (settles.rest).ranks r inside

  -- who waits is on the list
  listed : (t : Server) (wish : Wish) → t.0 < w.config.servers → Has (wished (pool_of w t).kept) wish → Has asked (asker wish)
  listed t wish there has =
      let on = has_map asker (wished (pool_of w t).kept) wish has in
      let waiting = (pool_of w t).kept.parked.waiting in
      let here = subst (λ (es : List Asker). Has es (asker wish)) (sym (settles.listed t there ∙ asked_of waiting)) on in
      has_filter (of_home w.config t) asked (asker wish) here

  -- nothing is permitted to it at a server that was visited, and the others have not changed
  fits_never : (wish : Wish) (unit : Unit) → k.0 < w.config.servers → s.kept.ring.mark < s.activity → Has asked (asker wish)
      → IsFreeFor s.kept unit wish ⊎ IsFound (best_for s.kept wish) unit → ⊥
  fits_never wish unit here more on fit = by_place (cases_lt k.0 p)
    where
      by_place : (k.0 < p) ⊎ (p ≤ k.0) → ⊥
      by_place (inl low) =
          none_found s.kept wish unit (each_has (NoFit s.kept.queue.units) asked (asker wish) (settles.none k here low) on) fit
      by_place (inr high) = let e = un k high here in absurd (omega arith)

  -- no rank asks for anything
  asks_none : (a : Act) (r : Rank) (m : Message) → IsAct w k a → takes a ≡ of_rank r m ∷ [] → is_request m ≡ true → ⊥
  asks_none a r m is it asks =
      let f = subst (λ (heard : List Heard). AreFront w.config k w.links heard) it is.front in
      let inside = ltb-true r.0 w.config.ranks f.2 in
      let its = l.seats r inside in
      asks_never w b well r inside its.0 its.1 (resting r inside) k f.0 f.1 is.here f.3 (ap is_request f.4 ∙ asks)

  -- no server passes on that a unit is granted
  passes_never : (at : Around) (wish : Wish) (t : Server) (rest : List Server) (note : UnitNote) → IsAct w k (Passes_on at wish t rest note)
      → ⊥
  passes_never at wish t rest note is = by_rests x.rests
    where
      a : Act
      a = Passes_on at wish t rest note

      e : Waiting
      e = awaiting wish t rest

      inside : wish.rank.0 < w.config.ranks
      inside = (entry_here w k at e well is.here is.sits).within

      x : IsResting w b wish.rank
      x = resting wish.rank inside

      by_rests : (x.state.status ≡ is_at.Finished) ⊎ AsksAs w wish.rank x.state → ⊥
      by_rests (inl ended) =
          let its = l.seats wish.rank inside in
          let idle_now = client_ends w b wish.rank its.0 well inside its.1 x.state x.here ended in
          let waits = (gone_is w k at e b wish.rank its.0 is.here is.sits its.1 (sym (its.1).named)).0 in
          absurd (cc)
      by_rests (inr asks) =
          let its = l.seats wish.rank inside in
          let none_comes = (client_asks w b wish.rank its.0 its.1 x.state x.here asks).0 in
          let grant = of_server t (tells.AskGrant wish.rank wish.request note) in
          let comes = (front_is w k a wish.rank its.0 grant is refl b its.1 (sym (its.1).named)).0 in
          absurd (cc)

  waits_here : (at : Around) (wish : Wish) (rest : List Server) → s.kept.parked.waiting ≡ at.before ++ (idle wish rest ∷ at.behind)
      → Has (wished s.kept) wish
  waits_here at wish rest sits =
      has_map wish_of s.kept.parked.waiting (idle wish rest)
      (subst (λ (es : List Waiting). Has es (idle wish rest)) (sym sits) (has_there at.before (idle wish rest) at.behind))

  -- nor is an end told to one that waits
  tells_never : (at : Around) (wish : Wish) (rest : List Server) (end : End) → k.0 < w.config.servers
      → s.kept.parked.waiting ≡ at.before ++ (idle wish rest ∷ at.behind) → HasCause s.kept end → ⊥
  tells_never at wish rest ends_by.NoMoreWork here sits done =
      let going = settles.going k here wish (waits_here at wish rest sits) in absurd (cc)
  tells_never at wish rest ends_by.Exhausted here sits over = by_open open_still
    where
      by_open : (asked ≡ []) ⊎ (b.exhausted ≡ false) → ⊥
      by_open (inl nobody) =
          subst (λ (es : List Asker). Has es (asker wish)) nobody (listed k wish here (waits_here at wish rest sits))
      by_open (inr not_over) = let found = (l.pools k here).exhausted over in absurd (cc)

  -- nor is a unit found where another server asks for a rank
  answers_never : (from : Server) (wish : Wish) (unit : Unit) → IsAct w k (Answers from wish unit) → s.kept.ring.mark < s.activity → ⊥
  answers_never from wish unit is more = by_rests x.rests
    where
      a : Act
      a = Answers from wish unit

      inside : wish.rank.0 < w.config.ranks
      inside =
          let low = (and_parts (nat_lt wish.rank.0 s.config.ranks) (is_home s.config from wish.rank) (is.sure).0).0 in
          let same = ap (λ (c : Config). c.ranks) (well.own.servers k is.here).config in
          let few = ltb-true wish.rank.0 s.config.ranks low in
          omega arith

      x : IsResting w b wish.rank
      x = resting wish.rank inside

      by_rests : (x.state.status ≡ is_at.Finished) ⊎ AsksAs w wish.rank x.state → ⊥
      by_rests (inl ended) =
          let its = l.seats wish.rank inside in
          let idle_now = client_ends w b wish.rank its.0 well inside its.1 x.state x.here ended in
          let waits = (ask_call w k from a b wish l is refl inside).call in
          absurd (cc)
      by_rests (inr asks) =
          let its = l.seats wish.rank inside in
          let as_bag = (client_asks w b wish.rank its.0 its.1 x.state x.here asks).1 in
          let as_letter = (ask_call w k from a b wish l is refl inside).call in
          let types : asks.0.types ≡ wish.types = cc in
          let same : asker asks.0 ≡ asker wish = rw (asks.2, types) refl in
          let on = listed (home w.config wish.rank) asks.0 (home_below w.config wish.rank) asks.1 in
          fits_never wish unit is.here more (subst (λ (z : Asker). Has asked z) same on) (inr (is.sure).1)

  -- nor is a letter of a push under way
  no_letter : (a : Act) (from : Server) (m : Message) → IsAct w k a → takes a ≡ of_server from m ∷ []
      → push_letter from (by.Server from) (by.Server k) m ≡ 1 → ⊥
  no_letter a from m is it weighs = pushes_none w k well (settles.rest).pushes a from m is it weighs

  -- nor does a push stand
  stands_none : (push : StandingPush) → k.0 < w.config.servers → s.kept.pushing.push ≡ Some push → ⊥
  stands_none push here stands = let free = (settles.rest).pushes k here in absurd (cc)

  -- no other act can be
  pub never : (a : Act) → IsAct w k a → is_still a ≡ false → is_turn a ≡ false → is_alone a ≡ false → is_query a ≡ false
      → s.kept.ring.mark < s.activity → ⊥
  never (Accepts unit) is still turn alone query more = asks_none (Accepts unit) unit.id.rank (tells.Put unit) is refl refl
  never (Refuses unit) is still turn alone query more = asks_none (Refuses unit) unit.id.rank (tells.Put unit) is refl refl
  never (Ends_put unit end) is still turn alone query more = asks_none (Ends_put unit end) unit.id.rank (tells.Put unit) is refl refl
  never (Grants wish unit) is still turn alone query more =
      asks_none (Grants wish unit) wish.rank (tells.Reserve wish.request wish.types) is refl refl
  never (Ends_reserve wish end) is still turn alone query more =
      asks_none (Ends_reserve wish end) wish.rank (tells.Reserve wish.request wish.types) is refl refl
  never (Parks wish) is still turn alone query more = asks_none (Parks wish) wish.rank (tells.Reserve wish.request wish.types) is refl refl
  never (Grants_try wish unit) is still turn alone query more =
      asks_none (Grants_try wish unit) wish.rank (tells.Try wish.request wish.types) is refl refl
  never (Ends_try wish end) is still turn alone query more =
      asks_none (Ends_try wish end) wish.rank (tells.Try wish.request wish.types) is refl refl
  never (Looks wish) is still turn alone query more = asks_none (Looks wish) wish.rank (tells.Try wish.request wish.types) is refl refl
  never (Fetches rank request id unit) is still turn alone query more =
      asks_none (Fetches rank request id unit) rank (tells.Fetch request id) is refl refl
  never (Counts rank request kind) is still turn alone query more =
      asks_none (Counts rank request kind) rank (tells.Count request kind) is refl refl
  never (Keeps rank request common) is still turn alone query more =
      asks_none (Keeps rank request common) rank (tells.KeepCommon request common) is refl refl
  never (Refuses_part rank request common) is still turn alone query more =
      asks_none (Refuses_part rank request common) rank (tells.KeepCommon request common) is refl refl
  never (Ends_keep rank request common end) is still turn alone query more =
      asks_none (Ends_keep rank request common end) rank (tells.KeepCommon request common) is refl refl
  never (Closes request batch accepted part) is still turn alone query more =
      asks_none (Closes request batch accepted part) batch.rank (tells.CloseBatch request batch accepted) is refl refl
  never (Fetches_part rank request batch part) is still turn alone query more =
      asks_none (Fetches_part rank request batch part) rank (tells.FetchCommon request batch) is refl refl
  never (Hears_done rank request) is still turn alone query more =
      asks_none (Hears_done rank request) rank (tells.Done request) is refl refl
  never (Gives at wish rest unit) is still turn alone query more =
      fits_never wish unit is.here more (listed k wish is.here (waits_here at wish rest is.sits)) is.sure
  never (Tells at wish rest end) is still turn alone query more = tells_never at wish rest end is.here is.sits is.sure
  never (Passes_on at wish from rest note) is still turn alone query more = passes_never at wish from rest note is
  never (Answers from wish unit) is still turn alone query more = answers_never from wish unit is more
  never (Promises from id length) is still turn alone query more =
      no_letter (Promises from id length) from (tells.PushQuery id length) is refl (itself from.0)
  never (Refuses_push from id length) is still turn alone query more =
      no_letter (Refuses_push from id length) from (tells.PushQuery id length) is refl (itself from.0)
  never (Arrives from unit) is still turn alone query more =
      no_letter (Arrives from unit) from (tells.PushUnit unit) is refl (itself from.0)
  never (Withdraws from id) is still turn alone query more =
      no_letter (Withdraws from id) from (tells.PushCancel id) is refl (itself from.0)
  never (Sends_unit to length unit) is still turn alone query more = stands_none (asks_room to unit.id length) is.here (is.sure).0
  never (Cancels to id length) is still turn alone query more = stands_none (asks_room to id length) is.here is.sure
  never (Stops_push to id length) is still turn alone query more = stands_none (asks_room to id length) is.here is.sure
  never (Ends_push to id length) is still turn alone query more = stands_none (has_sent to id length) is.here is.sure
  never _ is still turn alone query more = absurd (cc)
