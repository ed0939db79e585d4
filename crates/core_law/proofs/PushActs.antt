-- Each act and the push letters.
use Rattle.std.proofs.Common.{Bool, List, None, Some, [], ap, arith, cond, false, refl, sym, subst, true, ℕ, ◌++◌, ◌+◌, ◌∙◌, ◌∷◌, ◌≡◌}
use Rattle.std.proofs.lemmas.Bool.{lt-ltb}
use Rattle.std.proofs.lemmas.List.Folds.{find-append}
use Rattle.adlb_unit.specs.Ids.{same_unit}
use Rattle.adlb_unit.specs.declared.actors.Actor.TheVariants as by
use Rattle.adlb_unit.specs.declared.messages.Message.TheVariants as tells
use Rattle.adlb_unit.specs.declared.messages.Message.{Message}
use Rattle.adlb_unit.specs.declared.tokens.Token.{Token}
use Rattle.adlb_unit.specs.declared.names.BatchId.{BatchId}
use Rattle.adlb_unit.specs.declared.names.Server.{Server}
use Rattle.adlb_unit.specs.declared.names.UnitId.{UnitId}
use Rattle.adlb_unit.specs.declared.units.Unit.{Unit as Work}
use Rattle.adlb_unit.proofs.Same.{same_unit_from}
use Rattle.bag_ledger.specs.Bag.{Bag, promise_of, unit_of}
use Rattle.bag_ledger.specs.Steps.{after}
use Rattle.bag_ledger.specs.declared.entries.Entry.TheVariants as enters
use Rattle.bag_ledger.specs.declared.entries.Entry.{Entry}
use Rattle.bag_ledger.specs.declared.states.Placed.{Placed}
use Rattle.bag_ledger.specs.declared.states.Promise.{Promise}
use Rattle.bag_ledger.specs.declared.states.UnitPlace.TheVariants.{Free, Travelling}
use Rattle.bag_ledger.proofs.Moves.{moved_here}
use Rattle.bag_law.specs.Counts.{promises_named}
use Rattle.bag_law.specs.Sound.{PromisesAreSingle}
use Rattle.server_components.specs.Store.{closed, fetched, is_due}
use Rattle.server_components.specs.declared.parts.Part.{Part}
use Rattle.server_law.specs.Acts.{Accepts, Act, Answers, Arrives, Cancels, Closes, Counts, Drops_hint, Ends_keep, Ends_push, Ends_put}
use Rattle.server_law.specs.Acts.{Ends_reserve, Ends_try, Fetches, Fetches_part, Checks_alone, Finds, Finds_alone, Gives, Gives_up}
use Rattle.server_law.specs.Acts.{Hears_exhaust, Hears_failed, Hears_shutdown, Notes_own, Shuts_alone, Wants, Grants, Grants_try, Heard}
use Rattle.server_law.specs.Acts.{Is_hinted, Keeps, Looks, Notes_finish, Parks, Promises, Queries, Refuses, Refuses_part, Refuses_push}
use Rattle.server_law.specs.Acts.{Sends_unit, Shuts, Stops_push, Tells, Wakes, Withdraws, entries, frees, of_server, says, takes}
use Rattle.server_law.specs.Moving.{IsHeldAt}
use Rattle.server_law.specs.State.{ServerModel}
use Rattle.core_run.specs.World.{World, pool_of}
use Rattle.core_law.specs.Acting.{AreFront, IsAct, acted}
use Rattle.core_law.specs.Found.{found_in}
use Rattle.core_law.specs.Letters.{one}
use Rattle.core_law.specs.Measures.{heard_weight, said_weight}
use Rattle.core_law.specs.OnLinks.{Each}
use Rattle.core_law.specs.Pushed.{IsOfPush, IsPushed, OfPush, on_way, pushes}
use Rattle.core_law.specs.Pushes.{promised_letter, travels_letter}
use Rattle.core_law.proofs.Acts.{others_told}
use Rattle.core_law.proofs.Coming.{single}
use Rattle.core_law.proofs.Movers.{OpensNone, SaysOfPush, mover_passes, mover_stays}
use Rattle.core_law.proofs.UnpushedUnits.{run_promises}
use Rattle.core_law.proofs.PushCounts.{moved_way, named_more, promise_gone, run_way}
use Rattle.core_law.proofs.Seats.{IsMade}
use Rattle.core_law.proofs.Sums.{others_none}
use Rattle.core_law.proofs.UnderWay.{at_front}

-- Acts that push nothing.

-- the act pushes nothing, and finds no exhaustion
abbrev pub IsPlain : Act → Type 0
IsPlain (Queries to id n) = ⊥
IsPlain (Promises from id n) = ⊥
IsPlain (Refuses_push from id n) = ⊥
IsPlain (Sends_unit to n unit) = ⊥
IsPlain (Cancels to id n) = ⊥
IsPlain (Arrives from unit) = ⊥
IsPlain (Withdraws from id) = ⊥
IsPlain (Finds from t) = ⊥
IsPlain _ = Unit {0}

ArePushless : List Entry → Type 0
ArePushless es = Each (λ e. pushes e ≡ None) es

frees_pushless : (k : Server) (batch : BatchId) (part : Part) → ArePushless (frees k batch part)
unfolding ArePushless
frees_pushless k batch part = by_due (is_due part)
  where
    by_due : (t : Bool) → ArePushless (cond t (enters.Freed k batch ∷ []) [])
    by_due true = (refl, tt)
    by_due false = tt

unpushed : (a : Act) (s : ServerModel) → IsPlain a → ArePushless (entries a s)
unfolding ArePushless
unpushed (Promises from id n) s plain = absurd plain
unpushed (Sends_unit to n unit) s plain = absurd plain
unpushed (Arrives from unit) s plain = absurd plain
unpushed (Withdraws from id) s plain = absurd plain
unpushed (Accepts unit) s plain = (refl, tt)
unpushed (Refuses unit) s plain = (refl, tt)
unpushed (Ends_put unit end) s plain = (refl, tt)
unpushed (Grants wish unit) s plain = (refl, tt)
unpushed (Ends_reserve wish end) s plain = (refl, tt)
unpushed (Grants_try wish unit) s plain = (refl, tt)
unpushed (Ends_try wish end) s plain = (refl, tt)
unpushed (Looks wish) s plain = (refl, tt)
unpushed (Fetches rank request id unit) s plain = (refl, tt)
unpushed (Counts rank request kind) s plain = (refl, tt)
unpushed (Gives at wish rest unit) s plain = (refl, tt)
unpushed (Tells at wish rest end) s plain = (refl, tt)
unpushed (Answers from wish unit) s plain = (refl, tt)
unpushed (Finds from t) s plain = absurd plain
unpushed Finds_alone s plain = (refl, tt)
unpushed (Keeps rank request common) s plain = (refl, tt)
unpushed (Refuses_part rank request common) s plain = (refl, tt)
unpushed (Ends_keep rank request common end) s plain = (refl, tt)
unpushed (Closes request batch accepted part) s plain = (refl, frees_pushless s.me batch (closed accepted part))
unpushed (Fetches_part rank request batch part) s plain = (refl, frees_pushless s.me batch (fetched part))
unpushed _ s plain = tt

opens_none : (a : Act) → IsPlain a → OpensNone a
opens_none (Queries to id n) plain = plain
opens_none _ plain = tt

says_of_push : (n : Bag) (k : Server) (a : Act) (s : ServerModel) → IsPlain a → SaysOfPush n k a s
says_of_push n k (Queries to id x) s plain = absurd plain
says_of_push n k (Promises from id x) s plain = absurd plain
says_of_push n k (Refuses_push from id x) s plain = absurd plain
says_of_push n k (Sends_unit to x unit) s plain = absurd plain
says_of_push n k (Cancels to id x) s plain = absurd plain
says_of_push n k (Arrives from unit) s plain = absurd plain
says_of_push n k (Withdraws from id) s plain = absurd plain
says_of_push n k (Parks wish) s plain = tt
says_of_push n k (Notes_finish rank) s plain = tt
says_of_push n k (Wakes at wish from rest) s plain = tt
says_of_push n k (Is_hinted at e from) s plain = tt
says_of_push n k (Drops_hint from rank request) s plain = tt
says_of_push n k (Stops_push to id x) s plain = tt
says_of_push n k (Ends_push to id x) s plain = tt
says_of_push n k (Finds from t) s plain = absurd plain
says_of_push n k Notes_own s plain = tt
says_of_push n k (Wants from) s plain = tt
says_of_push n k (Gives_up from t) s plain = tt
says_of_push n k (Hears_failed from t why) s plain = tt
says_of_push n k (Shuts from t) s plain = others_told (IsOfPush n (by.Server k)) s tells.Shutdown (λ to. tt)
says_of_push n k (Hears_exhaust from) s plain = tt
says_of_push n k (Hears_shutdown from) s plain = tt
says_of_push n k Finds_alone s plain = tt
says_of_push n k Shuts_alone s plain = tt
says_of_push n k Checks_alone s plain = tt
says_of_push n k _ s plain = (tt, tt)

-- it takes as much of promised room as it says, which is nothing, or the No that it takes
no_rooms_said : (id : UnitId) (a : Act) (s : ServerModel) (k : Server) → IsPlain a
    → heard_weight (promised_letter id) k (takes a) ≡ said_weight (promised_letter id) k (says a s)
no_rooms_said id (Promises from x n) s k plain = absurd plain
no_rooms_said id (Arrives from unit) s k plain = absurd plain
no_rooms_said id (Withdraws from x) s k plain = absurd plain
no_rooms_said id (Finds from t) s k plain = absurd plain
no_rooms_said id (Shuts from t) s k plain =
    let none = others_none (promised_letter id) k s tells.Shutdown (λ to. refl) in omega arith
no_rooms_said id _ s k plain = omega arith

no_travel_said : (id : UnitId) (a : Act) (s : ServerModel) (k : Server) → IsPlain a
    → heard_weight (travels_letter id) k (takes a) ≡ said_weight (travels_letter id) k (says a s)
no_travel_said id (Arrives from unit) s k plain = absurd plain
no_travel_said id (Sends_unit to n unit) s k plain = absurd plain
no_travel_said id (Finds from t) s k plain = absurd plain
no_travel_said id (Shuts from t) s k plain =
    let none = others_none (travels_letter id) k s tells.Shutdown (λ to. refl) in omega arith
no_travel_said id _ s k plain = omega arith

-- an act that pushes nothing leaves what is known of pushes
pub plain_pushed : (w : World) (k : Server) (a : Act) (b n : Bag) → IsMade w k a b n → IsPlain a → IsPushed w b → IsPushed (acted w k a) n
unfolding ArePushless
plain_pushed w k a b n m plain pushed =
    let s = pool_of w k in
    let none = unpushed a s plain in
    let same = run_promises (found_in w.config) (entries a s) b n m.step none in
    mover_stays w k a b n m none (opens_none a plain) (says_of_push n k a s plain) (record {
      rooms = λ id.
          let said = no_rooms_said id a s k plain in
          let stay = ap (λ l. promises_named id l) same in
          omega arith;
      travels = λ id.
          let said = no_travel_said id a s k plain in
          let stay = run_way (found_in w.config) id (entries a s) b n m.step none in
          omega arith;
    }) pushed

-- All work is found used up, and the other servers are told so.

-- finding all work used up leaves what is known of pushes
pub finds_pushed : (w : World) (k from : Server) (t : Token) (b n : Bag) → IsMade w k (Finds from t) b n → IsPushed w b
    → IsPushed (acted w k (Finds from t)) n
finds_pushed w k from t b n m pushed =
    let s = pool_of w k in
    let is : n ≡ after b enters.Exhausted = sym m.step.2 ∙ m.step.1.2 in
    let known : n.exhausted ≡ true = ap (λ (x : Bag). x.exhausted) is in
    mover_stays w k (Finds from t) b n m (refl, tt) tt (others_told (IsOfPush n (by.Server k)) s tells.Exhaust (λ to. known)) (record {
      rooms = λ id.
          let none = others_none (promised_letter id) k s tells.Exhaust (λ to. refl) in
          let same = ap (λ (x : Bag). promises_named id x.promises) is in
          omega arith;
      travels = λ id.
          let none = others_none (travels_letter id) k s tells.Exhaust (λ to. refl) in
          let same = ap (λ (x : Bag). on_way id x.units) is in
          omega arith;
    }) pushed

-- The letters of pushes.

-- the letter that is taken
pub taken_of : (w : World) (k : Server) (a : Act) (b : Bag) (h : Heard) → IsAct w k a → takes a ≡ h ∷ [] → IsPushed w b
    → IsOfPush b h.from (by.Server k) h.message
taken_of w k a b h is takes_it pushed =
    let front : AreFront w.config k w.links (h ∷ []) = subst (λ (l : List Heard). AreFront w.config k w.links l) takes_it is.front in
    let here = at_front (λ x y l. IsOfPush b x y l.message) w.config w.links h.from (by.Server k) front.0 front.1 pushed.letters front.2
    (lt-ltb k.0 w.config.servers is.here) front.3 in
    subst (λ (m : Message). IsOfPush b h.from (by.Server k) m) front.4 here

one_same : (id : UnitId) → one (same_unit id id) + 0 ≡ 1
one_same id = let e = same_unit_from id id refl in rw e refl

-- room that is promised
pub promises_pushed : (w : World) (k from : Server) (id : UnitId) (size : ℕ) (b n : Bag) → IsMade w k (Promises from id size) b n
    → IsPushed w b → IsPushed (acted w k (Promises from id size)) n
promises_pushed w k from id size b n m pushed =
    let s = pool_of w k in
    let own = m.own in
    let room : Promise = record { server = s.me; id = id; length = size } in
    let e = enters.Promised s.me id size in
    let is : n ≡ after b e = (single b n e m.step).1 in
    let of : OfPush b from k (tells.PushQuery id size) =
    taken_of w k (Promises from id size) b (of_server from (tells.PushQuery id size)) m.is refl pushed in
    let held : IsHeldAt n from id = rw is (record { unit = (of.0).unit; found = (of.0).found; held = (of.0).held }) in
    let same = same_unit_from id id refl in
    let found : promise_of n id ≡ Some room = rw is
    (find-append (λ (q : Promise). same_unit q.id id) b.promises (room ∷ []) ∙ rw (of.2, same) refl) in
    let rooms : n.promises ≡ b.promises ++ room ∷ [] = ap (λ (x : Bag). x.promises) is in
    let units : n.units ≡ b.units = ap (λ (x : Bag). x.units) is in
    mover_passes w k (Promises from id size) b n id m (refl, tt) (one_same id) tt
    ((held, record { room = room; found = found; here = own.named }), tt) (record {
      rooms = λ x.
          let now = ap (promises_named x) rooms in
          let more = named_more x room b.promises in
          omega arith;
      travels = λ x. let now = ap (on_way x) units in omega arith;
    }) pushed

-- room that is refused
pub refuses_pushed : (w : World) (k from : Server) (id : UnitId) (size : ℕ) (b : Bag) → IsMade w k (Refuses_push from id size) b b
    → IsPushed w b → IsPushed (acted w k (Refuses_push from id size)) b
refuses_pushed w k from id size b m pushed =
    let of : OfPush b from k (tells.PushQuery id size) =
    taken_of w k (Refuses_push from id size) b (of_server from (tells.PushQuery id size)) m.is refl pushed in
    mover_stays w k (Refuses_push from id size) b b m tt tt (of.0, tt) (record { rooms = λ x. refl; travels = λ x. refl }) pushed

-- a unit that goes
pub sends_pushed : (w : World) (k to : Server) (size : ℕ) (unit : Work) (b n : Bag) → IsMade w k (Sends_unit to size unit) b n
    → unit_of b unit.id ≡ Some (record { unit = unit; place = Free (pool_of w k).me }) → IsPushed w b
    → IsPushed (acted w k (Sends_unit to size unit)) n
sends_pushed w k to size unit b n m found pushed =
    let e = enters.Left (pool_of w k).me to unit.id in
    let is : n ≡ after b e = (single b n e m.step).1 in
    let u : Placed = record { unit = unit; place = Free (pool_of w k).me } in
    let there : unit_of n unit.id ≡ Some (record { unit = unit; place = Travelling to }) = rw is
    (moved_here b unit.id (Travelling to) u found) in
    mover_passes w k (Sends_unit to size unit) b n unit.id m (refl, tt) (one_same unit.id) tt (there, tt) (record {
      rooms = λ x. let same = ap (λ (c : Bag). promises_named x c.promises) is in omega arith;
      travels = λ x.
          let sum = moved_way x unit.id (Travelling to) b.units u found in
          let now = ap (λ (c : Bag). on_way x c.units) is in
          omega arith;
    }) pushed

-- a push that is cancelled
pub cancels_pushed : (w : World) (k to : Server) (id : UnitId) (size : ℕ) (b : Bag) → IsMade w k (Cancels to id size) b b
    → IsPushed w b → IsPushed (acted w k (Cancels to id size)) b
cancels_pushed w k to id size b m pushed =
    let of : OfPush b to k (tells.PushYes id) =
    taken_of w k (Cancels to id size) b (of_server to (tells.PushYes id)) m.is refl pushed in
    mover_stays w k (Cancels to id size) b b m tt tt (of, tt) (record { rooms = λ x. refl; travels = λ x. refl }) pushed

-- a unit that comes
pub arrives_pushed : (w : World) (k from : Server) (unit : Work) (b n : Bag) (p : Promise) → IsMade w k (Arrives from unit) b n
    → PromisesAreSingle b.promises → promise_of b unit.id ≡ Some p → IsPushed w b → IsPushed (acted w k (Arrives from unit)) n
arrives_pushed w k from unit b n p m once found pushed =
    let e = enters.Arrived (pool_of w k).me unit.id in
    let is : n ≡ after b e = (single b n e m.step).1 in
    let own = m.own in
    let of : OfPush b from k (tells.PushUnit unit) =
    taken_of w k (Arrives from unit) b (of_server from (tells.PushUnit unit)) m.is refl pushed in
    mover_passes w k (Arrives from unit) b n unit.id m (refl, tt) (one_same unit.id) tt tt (record {
      rooms = λ x.
          let gone = promise_gone unit.id x b.promises p once found in
          let now = ap (λ (c : Bag). promises_named x c.promises) is in
          omega arith;
      travels = λ x.
          let u : Placed = record { unit = unit; place = Travelling k } in
          let sum = moved_way x unit.id (Free (pool_of w k).me) b.units u of in
          let now = ap (λ (c : Bag). on_way x c.units) is in
          omega arith;
    }) pushed

-- a promise that is withdrawn
pub withdraws_pushed : (w : World) (k from : Server) (id : UnitId) (b n : Bag) → IsMade w k (Withdraws from id) b n
    → PromisesAreSingle b.promises → IsPushed w b → IsPushed (acted w k (Withdraws from id)) n
withdraws_pushed w k from id b n m once pushed =
    let e = enters.Withdrawn (pool_of w k).me id in
    let is : n ≡ after b e = (single b n e m.step).1 in
    let of : OfPush b from k (tells.PushCancel id) =
    taken_of w k (Withdraws from id) b (of_server from (tells.PushCancel id)) m.is refl pushed in
    mover_passes w k (Withdraws from id) b n id m (refl, tt) (one_same id) tt (tt, tt) (record {
      rooms = λ x.
          let gone = promise_gone id x b.promises (of.1).room once (of.1).found in
          let now = ap (λ (c : Bag). promises_named x c.promises) is in
          omega arith;
      travels = λ x. let now = ap (λ (c : Bag). on_way x c.units) is in omega arith;
    }) pushed
