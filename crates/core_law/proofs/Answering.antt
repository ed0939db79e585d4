-- An act that answers a rank's pending call, and the seat of this rank.
use Rattle.std.proofs.Common.{◌≡◌, ◌<◌, ◌+◌, ◌==◌, true, false, List, [], ◌∷◌, ◌++◌, length, Option, None, Some, refl, sym, ap, ◌∙◌, subst}
use Rattle.std.proofs.Common.{ℕ, arith}
use Rattle.std.specs.Prelude.{All}
use Rattle.std.proofs.lemmas.Bool.{eq-eqb, eqb-true, false_from_ne_true, ltb-true}
use Rattle.std.proofs.lemmas.List.{get_or_at, length-append}
use Rattle.adlb_unit.specs.Targets.{home, home_of}
use Rattle.adlb_unit.specs.declared.actors.Actor.TheVariants as by
use Rattle.adlb_unit.specs.declared.messages.Message.{Message}
use Rattle.adlb_unit.specs.declared.messages.Message.TheVariants as tells
use Rattle.adlb_unit.specs.declared.names.BatchId.{BatchId}
use Rattle.adlb_unit.specs.declared.names.CommonRef.{CommonRef}
use Rattle.adlb_unit.specs.declared.names.Rank.{Rank}
use Rattle.adlb_unit.specs.declared.names.Server.{Server}
use Rattle.adlb_unit.specs.declared.names.UnitId.{UnitId}
use Rattle.adlb_unit.specs.declared.names.WorkType.{WorkType}
use Rattle.adlb_unit.specs.declared.notes.UnitNote.{UnitNote}
use Rattle.adlb_unit.specs.declared.units.Unit.{Unit}
use Rattle.bag_ledger.specs.Bag.{Bag}
use Rattle.bag_ledger.specs.Runs.{calls_from}
use Rattle.rank_client.specs.declared.pendings.Pending.{Pending}
use Rattle.rank_client.specs.declared.pendings.Pending.TheVariants as waits_for
use Rattle.rank_client.specs.Agreement.{said}
use Rattle.rank_client.specs.Expected.{IsAwaited}
use Rattle.rank_client.specs.Rules.{asked, is_idle, looks_at}
use Rattle.rank_client.specs.State.{ClientModel}
use Rattle.server_components.specs.declared.waits.Waiting.{Waiting}
use Rattle.server_components.specs.declared.wishes.Wish.{Wish}
use Rattle.server_law.specs.State.{idle, is_home}
use Rattle.server_law.specs.Acts.{Act, Around, Heard, comes, entries, goes, of_rank, of_server, says, takes, to_rank}
use Rattle.core_run.specs.World.{World, client_of, pool_of, server_named}
use Rattle.core_law.specs.Acting.{AreFront, IsAct, acted}
use Rattle.core_law.specs.Lawful.{IsAsked, IsLawful, IsOfCall, IsSeat, IsWaiting}
use Rattle.core_law.specs.OnLinks.{Each}
use Rattle.core_law.specs.Letters.{call_letter, call_waits, is_request, one}
use Rattle.core_law.specs.Measures.{heard_weight, weigh}
use Rattle.core_law.specs.Own.{IsEntry}
use Rattle.core_law.specs.Well.{IsWell}
use Rattle.core_law.proofs.ActSeats.{front_is, gone_is, reserve_asked}
use Rattle.core_law.proofs.Coming.{Comes, Waits, decided_of, waits_of}
use Rattle.core_law.proofs.Seats.{IsMade, seat_passes}

-- the rank's call is pending, and nothing of it is decided
pub record IsCalling (w : World) (b : Bag) (me : Rank) (p : Pending) : Type 0 where
  pub within : me.0 < w.config.ranks
  pub call : (client_of w me).pending ≡ p
  pub busy : is_idle p ≡ false
  pub seat : IsSeat w b me None

-- a rank with a pending call has not finished
pub not_finished : (w : World) (me : Rank) (p : Pending) → IsWell w → me.0 < w.config.ranks → (client_of w me).pending ≡ p
    → is_idle p ≡ false
    → (client_of w me).finished ≡ false
not_finished w me p well within call busy =
    let own = well.own.ranks me within in
    let c = client_of w me in
    false_from_ne_true c.finished (λ done.
    let rests : is_idle p ≡ true = ap is_idle (sym call ∙ own.rests done) in
    absurd (cc (rests, busy)))

-- a rank whose call is pending waits in client and bag
pub waits_so : (w : World) (b : Bag) (me : Rank) (p : Pending) → IsWell w → IsLawful w b → IsCalling w b me p → Waits (client_of w me) p b
waits_so w b me p well l is =
    let seat = is.seat in
    let own = well.own.ranks me is.within in
    let going = not_finished w me p well is.within is.call is.busy in
    waits_of (client_of w me) p b is.call going seat.stands seat.facts own.call

-- What the act says, takes, and leaves of who waits. The rank awaits the answer from this server: the act says it there, or its home
-- is to pass it on.
pub record Replies (w : World) (k : Server) (a : Act) (me : Rank) (now : Message) (from : Server) : Type 0 where
  pub said : IsAwaited (client_of w me) (client_of w me).pending from now
      → Each (λ y. IsOfCall (client_of w me) (Some now) (by.Server k) y.to y.message) (says a (pool_of w k))
  pub one_goes : heard_weight (call_letter me) k (takes a) + weigh (call_waits me k.0) (goes a) ≡ 1
  pub nobody : comes a (pool_of w k) ≡ []

-- an act that tells the rank
pub replies : (w : World) (k : Server) (a : Act) (me : Rank) (now : Message) → says a (pool_of w k) ≡ to_rank me now ∷ []
    → heard_weight (call_letter me) k (takes a) + weigh (call_waits me k.0) (goes a) ≡ 1 → comes a (pool_of w k) ≡ []
    → Replies w k a me now k
replies w k a me now said one_goes nobody =
    record { said = λ awaited. rw said ((λ who. (refl, awaited)), tt); one_goes = one_goes; nobody = nobody }

-- an act that answers a rank's call leaves every seat, with what was decided for that rank
pub reply_passes : (w : World) (k : Server) (a : Act) (b n : Bag) (me : Rank) (p : Pending) (now : Message) (from : Server)
    → IsMade w k a b n → IsWell w
    → IsCalling w b me p → Replies w k a me now from → Comes (client_of w me) p now b n (entries a (pool_of w k))
    → IsAwaited (client_of w me) p from now
    → IsSeat (acted w k a) n me (Some now)
reply_passes w k a b n me p now from m well is r comes awaited =
    let c = client_of w me in
    let es = entries a (pool_of w k) in
    let seat = is.seat in
    let d = decided_of c p now b n es is.call (not_finished w me p well is.within is.call is.busy) comes in
    let told = subst (λ (r : Rank). said c c.pending (Some now) ≡ said c c.pending None ++ calls_from b es r) seat.named d.1 in
    let it = subst (λ (q : Pending). IsAwaited c q from now) (sym is.call) awaited in
    seat_passes w k a b n me None (Some now) m
    (record { within = is.within; busy = ap is_idle is.call ∙ is.busy; even = well.one me; one_goes = r.one_goes; nobody = r.nobody })
    (record { stands = d.0; told = told; facts = d.2 }) (r.said it) is.seat

-- The call of the letter that is taken.

asked_call : (w : World) (k : Server) (a : Act) (b : Bag) (me : Rank) (m : Message) → IsLawful w b → IsAct w k a
    → takes a ≡ of_rank me m ∷ []
    → is_request m ≡ true → (me.0 < w.config.ranks) × IsSeat w b me None × IsAsked (client_of w me) (client_of w me).pending k m
asked_call w k a b me m l is takes_it request =
    let front = subst (λ (hs : List Heard). AreFront w.config k w.links hs) takes_it is.front in
    let within : me.0 < w.config.ranks = ltb-true me.0 w.config.ranks front.2 in
    let its = l.seats me within in
    let seat = its.1 in
    let of = front_is w k a me its.0 (of_rank me m) is takes_it b its.1 (sym seat.named) request in
    (within, subst (λ (o : Option Message). IsSeat w b me o) of.0 its.1, of.1)

put_asked : (c : ClientModel) (p : Pending) (k : Server) (unit : Unit) → IsAsked c p k (tells.Put unit)
    → (first : Server) × (tried : ℕ) × (p ≡ waits_for.Put unit first tried) × (k ≡ asked c first tried)
put_asked c waits_for.Nothing k unit is = absurd is
put_asked c (waits_for.Put other first tried) k unit is = let e = is.0 in (first, tried, cc, is.1)
put_asked c (waits_for.Reserve request types) k unit is = absurd (cc is.0)
put_asked c (waits_for.Try request types tried) k unit is = absurd (cc is.0)
put_asked c (waits_for.Fetch request note) k unit is = absurd (cc is.0)
put_asked c (waits_for.Common request note common own) k unit is = absurd (cc is.0)
put_asked c (waits_for.Keep request common first tried) k unit is = absurd (cc is.0)
put_asked c (waits_for.Count to kind) k unit is = absurd (cc is.0)
put_asked c (waits_for.Close request batch) k unit is = absurd (cc is.0)
put_asked c (waits_for.SetDone to tried) k unit is = absurd (cc is.0)

fetch_asked : (c : ClientModel) (p : Pending) (k : Server) (request : ℕ) (id : UnitId) → IsAsked c p k (tells.Fetch request id)
    → (note : UnitNote) × (p ≡ waits_for.Fetch request note) × (note.id ≡ id) × (k ≡ note.server)
fetch_asked c waits_for.Nothing k request id is = absurd is
fetch_asked c (waits_for.Put unit first tried) k request id is = absurd (cc is.0)
fetch_asked c (waits_for.Reserve to types) k request id is = absurd (cc is.0)
fetch_asked c (waits_for.Try to types tried) k request id is = absurd (cc is.0)
fetch_asked c (waits_for.Common to note common own) k request id is = absurd (cc is.0)
fetch_asked c (waits_for.Keep to common first tried) k request id is = absurd (cc is.0)
fetch_asked c (waits_for.Count to kind) k request id is = absurd (cc is.0)
fetch_asked c (waits_for.Close to batch) k request id is = absurd (cc is.0)
fetch_asked c (waits_for.Fetch to note) k request id is = let e = is.0 in (note, cc, cc, is.1)
fetch_asked c (waits_for.SetDone to tried) k request id is = absurd (cc is.0)

common_asked : (c : ClientModel) (p : Pending) (k : Server) (request : ℕ) (batch : BatchId)
    → IsAsked c p k (tells.FetchCommon request batch)
    → (note : UnitNote) × (common : CommonRef) × (own : List ℕ) × (p ≡ waits_for.Common request note common own) × (common.batch ≡ batch)
    × (k ≡ common.server)
common_asked c waits_for.Nothing k request batch is = absurd is
common_asked c (waits_for.Put unit first tried) k request batch is = absurd (cc is.0)
common_asked c (waits_for.Reserve to types) k request batch is = absurd (cc is.0)
common_asked c (waits_for.Try to types tried) k request batch is = absurd (cc is.0)
common_asked c (waits_for.Fetch to note) k request batch is = absurd (cc is.0)
common_asked c (waits_for.Common to note common own) k request batch is = let e = is.0 in (note, common, own, cc, cc, is.1)
common_asked c (waits_for.Keep to common first tried) k request batch is = absurd (cc is.0)
common_asked c (waits_for.Count to kind) k request batch is = absurd (cc is.0)
common_asked c (waits_for.Close to other) k request batch is = absurd (cc is.0)
common_asked c (waits_for.SetDone to tried) k request batch is = absurd (cc is.0)

keep_asked : (c : ClientModel) (p : Pending) (k : Server) (request : ℕ) (common : List ℕ) → IsAsked c p k (tells.KeepCommon request common)
    → (first : Server) × (tried : ℕ) × (p ≡ waits_for.Keep request common first tried) × (k ≡ asked c first tried)
keep_asked c waits_for.Nothing k request common is = absurd is
keep_asked c (waits_for.Put unit first tried) k request common is = absurd (cc is.0)
keep_asked c (waits_for.Reserve to types) k request common is = absurd (cc is.0)
keep_asked c (waits_for.Try to types tried) k request common is = absurd (cc is.0)
keep_asked c (waits_for.Fetch to note) k request common is = absurd (cc is.0)
keep_asked c (waits_for.Common to note part own) k request common is = absurd (cc is.0)
keep_asked c (waits_for.Keep to other first tried) k request common is = let e = is.0 in (first, tried, cc, is.1)
keep_asked c (waits_for.Count to kind) k request common is = absurd (cc is.0)
keep_asked c (waits_for.Close to other) k request common is = absurd (cc is.0)
keep_asked c (waits_for.SetDone to tried) k request common is = absurd (cc is.0)

close_asked : (c : ClientModel) (p : Pending) (k : Server) (request : ℕ) (batch : BatchId) (accepted : ℕ)
    → IsAsked c p k (tells.CloseBatch request batch accepted)
    → (common : CommonRef) × (p ≡ waits_for.Close request common) × (common.batch ≡ batch) × (accepted ≡ c.accepted) × (k ≡ common.server)
close_asked c waits_for.Nothing k request batch accepted is = absurd is
close_asked c (waits_for.Put unit first tried) k request batch accepted is = absurd (cc is.0)
close_asked c (waits_for.Reserve to types) k request batch accepted is = absurd (cc is.0)
close_asked c (waits_for.Try to types tried) k request batch accepted is = absurd (cc is.0)
close_asked c (waits_for.Fetch to note) k request batch accepted is = absurd (cc is.0)
close_asked c (waits_for.Common to note part own) k request batch accepted is = absurd (cc is.0)
close_asked c (waits_for.Keep to other first tried) k request batch accepted is = absurd (cc is.0)
close_asked c (waits_for.Count to kind) k request batch accepted is = absurd (cc is.0)
close_asked c (waits_for.Close to common) k request batch accepted is = let e = is.0 in (common, cc, cc, cc, is.1)
close_asked c (waits_for.SetDone to tried) k request batch accepted is = absurd (cc is.0)

count_asked : (c : ClientModel) (p : Pending) (k : Server) (request : ℕ) (kind : WorkType) → IsAsked c p k (tells.Count request kind)
    → (p ≡ waits_for.Count request kind) × (k ≡ home c.config c.me)
count_asked c waits_for.Nothing k request kind is = absurd is
count_asked c (waits_for.Put unit first tried) k request kind is = absurd (cc is.0)
count_asked c (waits_for.Reserve to types) k request kind is = absurd (cc is.0)
count_asked c (waits_for.Try to types tried) k request kind is = absurd (cc is.0)
count_asked c (waits_for.Fetch to note) k request kind is = absurd (cc is.0)
count_asked c (waits_for.Common to note part own) k request kind is = absurd (cc is.0)
count_asked c (waits_for.Keep to other first tried) k request kind is = absurd (cc is.0)
count_asked c (waits_for.Close to batch) k request kind is = absurd (cc is.0)
count_asked c (waits_for.Count to other) k request kind is = let e = is.0 in (cc, is.1)
count_asked c (waits_for.SetDone to tried) k request kind is = absurd (cc is.0)

try_asked : (c : ClientModel) (p : Pending) (k : Server) (wish : Wish) → IsAsked c p k (tells.Try wish.request wish.types)
    → (tried : ℕ) × (p ≡ waits_for.Try wish.request wish.types tried) × (k ≡ looks_at c tried)
try_asked c waits_for.Nothing k wish is = absurd is
try_asked c (waits_for.Put unit first tried) k wish is = absurd (cc is.0)
try_asked c (waits_for.Reserve to types) k wish is = absurd (cc is.0)
try_asked c (waits_for.Try to types tried) k wish is = let e = is.0 in (tried, cc, is.1)
try_asked c (waits_for.Fetch to note) k wish is = absurd (cc is.0)
try_asked c (waits_for.Common to note part own) k wish is = absurd (cc is.0)
try_asked c (waits_for.Keep to other first tried) k wish is = absurd (cc is.0)
try_asked c (waits_for.Close to batch) k wish is = absurd (cc is.0)
try_asked c (waits_for.Count to kind) k wish is = absurd (cc is.0)
try_asked c (waits_for.SetDone to tried) k wish is = absurd (cc is.0)

-- a put that was asked for last at this server
pub record IsPutHere (w : World) (k : Server) (b : Bag) (unit : Unit) : Type 0 where
  pub first : Server
  pub tried : ℕ
  pub calling : IsCalling w b unit.id.rank (waits_for.Put unit first tried)
  pub here : k ≡ asked (client_of w unit.id.rank) first tried

-- a put that is handled is of the rank's pending call
pub put_here : (w : World) (k : Server) (a : Act) (b : Bag) (unit : Unit) → IsLawful w b → IsAct w k a
    → takes a ≡ of_rank unit.id.rank (tells.Put unit) ∷ [] → IsPutHere w k b unit
put_here w k a b unit l is takes_it =
    let its = asked_call w k a b unit.id.rank (tells.Put unit) l is takes_it refl in
    let put = put_asked (client_of w unit.id.rank) (client_of w unit.id.rank).pending k unit its.2 in
    record { first = put.0; tried = put.1; calling = record { within = its.0; call = put.2; busy = refl; seat = its.1 }; here = put.3 }

-- a reserve whose rank has its home here
pub record IsReserveHere (w : World) (k : Server) (b : Bag) (wish : Wish) : Type 0 where
  pub calling : IsCalling w b wish.rank (waits_for.Reserve wish.request wish.types)
  pub here : k ≡ home (client_of w wish.rank).config (client_of w wish.rank).me

-- a reserve that is handled is of the rank's pending call
pub reserve_here : (w : World) (k : Server) (a : Act) (b : Bag) (wish : Wish) → IsLawful w b → IsAct w k a
    → takes a ≡ of_rank wish.rank (tells.Reserve wish.request wish.types) ∷ [] → IsReserveHere w k b wish
reserve_here w k a b wish l is takes_it =
    let its = asked_call w k a b wish.rank (tells.Reserve wish.request wish.types) l is takes_it refl in
    let of = reserve_asked (client_of w wish.rank) (client_of w wish.rank).pending k wish its.2 in
    record { calling = record { within = its.0; call = of.0; busy = refl; seat = its.1 }; here = of.1 }

-- a try for which this server was asked last
pub record IsTryHere (w : World) (k : Server) (b : Bag) (wish : Wish) : Type 0 where
  pub tried : ℕ
  pub calling : IsCalling w b wish.rank (waits_for.Try wish.request wish.types tried)
  pub here : k ≡ looks_at (client_of w wish.rank) tried

-- a try that is handled is of the rank's pending call
pub try_here : (w : World) (k : Server) (a : Act) (b : Bag) (wish : Wish) → IsLawful w b → IsAct w k a
    → takes a ≡ of_rank wish.rank (tells.Try wish.request wish.types) ∷ [] → IsTryHere w k b wish
try_here w k a b wish l is takes_it =
    let its = asked_call w k a b wish.rank (tells.Try wish.request wish.types) l is takes_it refl in
    let of = try_asked (client_of w wish.rank) (client_of w wish.rank).pending k wish its.2 in
    record { tried = of.0; calling = record { within = its.0; call = of.1; busy = refl; seat = its.1 }; here = of.2 }

-- a fetch from this server
pub record IsFetchHere (w : World) (k : Server) (b : Bag) (rank : Rank) (request : ℕ) (id : UnitId) : Type 0 where
  pub note : UnitNote
  pub calling : IsCalling w b rank (waits_for.Fetch request note)
  pub named : note.id ≡ id
  pub here : k ≡ note.server

-- a fetch that is handled is of the rank's pending call
pub fetch_here : (w : World) (k : Server) (a : Act) (b : Bag) (rank : Rank) (request : ℕ) (id : UnitId) → IsLawful w b → IsAct w k a
    → takes a ≡ of_rank rank (tells.Fetch request id) ∷ [] → IsFetchHere w k b rank request id
fetch_here w k a b rank request id l is takes_it =
    let its = asked_call w k a b rank (tells.Fetch request id) l is takes_it refl in
    let of = fetch_asked (client_of w rank) (client_of w rank).pending k request id its.2 in
    record { note = of.0; calling = record { within = its.0; call = of.1; busy = refl; seat = its.1 }; named = of.2; here = of.3 }

-- The call of a rank that waits and is idle.

-- the home of the rank is here
pub home_here : (w : World) (k : Server) (me : Rank) → IsWell w → me.0 < w.config.ranks → is_home w.config k me ≡ true
    → k ≡ home (client_of w me).config (client_of w me).me
home_here w k me well within is =
    let own = well.own.ranks me within in
    let place : home_of w.config.servers me ≡ k.0 = eqb-true _ _ is in
    let home_is : home w.config me ≡ k = ap server_named place in
    sym (rw (own.config, own.me) home_is)

-- a rank that waits and is idle has its reserve pending
pub waiting_call : (w : World) (k : Server) (b : Bag) (e : Waiting) → IsWell w → IsLawful w b → IsEntry w.config k e → e.asked ≡ None
    → ((coming : Option Message) → IsSeat w b e.wish.rank coming → IsWaiting (client_of w e.wish.rank) coming e)
    → IsReserveHere w k b e.wish
waiting_call w k b e well l entry none waits =
    let me = e.wish.rank in
    let its = l.seats me entry.within in
    let seat = its.1 in
    let of = waits its.0 its.1 (sym seat.named) in
    record {
      calling = record {
        within = entry.within;
        call = of.0;
        busy = refl;
        seat = subst (λ (o : Option Message). IsSeat w b me o) (of.1 none) its.1;
      };
      here = home_here w k me well entry.within entry.here;
    }

all_at : {X : Type 0} (P : X → Type 0) (before behind : List X) (x : X) → All P (before ++ x ∷ behind) → P x
all_at P before behind x all =
    let long = length-append before (x ∷ behind) in
    subst P (get_or_at before x behind x (length before) refl) (all (length before) x (omega arith))

-- who goes
pub entry_here : (w : World) (k : Server) (at : Around) (e : Waiting) → IsWell w → k.0 < w.config.servers
    → (pool_of w k).kept.parked.waiting ≡ at.before ++ (e ∷ at.behind) → IsEntry w.config k e
entry_here w k at e well here sits =
    let pool = well.own.servers k here in
    let all = subst (λ (es : List Waiting). All (IsEntry w.config k) es) sits pool.waiting in
    all_at (IsEntry w.config k) at.before at.behind e all

-- a rank that waits here and is idle, with its pending call and its seat
pub idle_here : (w : World) (k : Server) (at : Around) (wish : Wish) (rest : List Server) (b : Bag) → IsWell w → IsLawful w b
    → k.0 < w.config.servers
    → (pool_of w k).kept.parked.waiting ≡ at.before ++ (idle wish rest ∷ at.behind) → IsReserveHere w k b wish
idle_here w k at wish rest b well l here sits =
    let e = idle wish rest in
    waiting_call w k b e well l (entry_here w k at e well here sits) refl
    (λ coming seat. gone_is w k at e b wish.rank coming here sits seat)

-- The call of a rank for which its home asks.

-- a server that is asked for a rank is asked of the rank's pending reserve
pub ask_call : (w : World) (k from : Server) (a : Act) (b : Bag) (wish : Wish) → IsLawful w b → IsAct w k a
    → takes a ≡ of_server from (tells.Ask wish.rank wish.request wish.types) ∷ [] → wish.rank.0 < w.config.ranks
    → IsCalling w b wish.rank (waits_for.Reserve wish.request wish.types)
ask_call w k from a b wish l is takes_it within =
    let me = wish.rank in
    let its = l.seats me within in
    let seat = its.1 in
    let of = front_is w k a me its.0 (of_server from (tells.Ask me wish.request wish.types)) is takes_it b its.1 (sym seat.named) in
    record { within = within; call = of.1; busy = refl; seat = subst (λ (o : Option Message). IsSeat w b me o) of.0 its.1 }

-- What is taken weighs 1.

-- a rank is counted as equal to itself
pub one_self : (me : Rank) → one (me.0 == me.0) ≡ 1
one_self me = ap one (eq-eqb me.0 me.0 refl)

-- Batches.

-- a batch's beginning that was asked for last at this server
pub record IsKeepHere (w : World) (k : Server) (b : Bag) (rank : Rank) (request : ℕ) (common : List ℕ) : Type 0 where
  pub first : Server
  pub tried : ℕ
  pub calling : IsCalling w b rank (waits_for.Keep request common first tried)
  pub here : k ≡ asked (client_of w rank) first tried

-- the beginning of a batch that is handled is the rank's pending call
pub keep_here : (w : World) (k : Server) (a : Act) (b : Bag) (rank : Rank) (request : ℕ) (common : List ℕ) → IsLawful w b → IsAct w k a
    → takes a ≡ of_rank rank (tells.KeepCommon request common) ∷ [] → IsKeepHere w k b rank request common
keep_here w k a b rank request common l is takes_it =
    let its = asked_call w k a b rank (tells.KeepCommon request common) l is takes_it refl in
    let of = keep_asked (client_of w rank) (client_of w rank).pending k request common its.2 in
    record { first = of.0; tried = of.1; calling = record { within = its.0; call = of.2; busy = refl; seat = its.1 }; here = of.3 }

-- the end of a batch whose part is here
pub record IsCloseHere (w : World) (k : Server) (b : Bag) (request : ℕ) (batch : BatchId) (accepted : ℕ) : Type 0 where
  pub common : CommonRef
  pub calling : IsCalling w b batch.rank (waits_for.Close request common)
  pub named : common.batch ≡ batch
  pub count : accepted ≡ (client_of w batch.rank).accepted
  pub here : k ≡ common.server

-- the end of a batch that is handled is the rank's pending call
pub close_here : (w : World) (k : Server) (a : Act) (b : Bag) (request : ℕ) (batch : BatchId) (accepted : ℕ) → IsLawful w b → IsAct w k a
    → takes a ≡ of_rank batch.rank (tells.CloseBatch request batch accepted) ∷ [] → IsCloseHere w k b request batch accepted
close_here w k a b request batch accepted l is takes_it =
    let its = asked_call w k a b batch.rank (tells.CloseBatch request batch accepted) l is takes_it refl in
    let of = close_asked (client_of w batch.rank) (client_of w batch.rank).pending k request batch accepted its.2 in
    record {
      common = of.0;
      calling = record { within = its.0; call = of.1; busy = refl; seat = its.1 };
      named = of.2;
      count = of.3;
      here = of.4;
    }

-- a fetch of a common part that is here
pub record IsCommonHere (w : World) (k : Server) (b : Bag) (rank : Rank) (request : ℕ) (batch : BatchId) : Type 0 where
  pub note : UnitNote
  pub common : CommonRef
  pub own : List ℕ
  pub calling : IsCalling w b rank (waits_for.Common request note common own)
  pub named : common.batch ≡ batch
  pub here : k ≡ common.server

-- a fetch of common bytes that is handled is of the rank's pending call
pub common_here : (w : World) (k : Server) (a : Act) (b : Bag) (rank : Rank) (request : ℕ) (batch : BatchId) → IsLawful w b → IsAct w k a
    → takes a ≡ of_rank rank (tells.FetchCommon request batch) ∷ [] → IsCommonHere w k b rank request batch
common_here w k a b rank request batch l is takes_it =
    let its = asked_call w k a b rank (tells.FetchCommon request batch) l is takes_it refl in
    let of = common_asked (client_of w rank) (client_of w rank).pending k request batch its.2 in
    record {
      note = of.0;
      common = of.1;
      own = of.2;
      calling = record { within = its.0; call = of.3; busy = refl; seat = its.1 };
      named = of.4;
      here = of.5;
    }

-- Counts.

-- a count whose rank has its home here
pub record IsCountHere (w : World) (k : Server) (b : Bag) (rank : Rank) (request : ℕ) (kind : WorkType) : Type 0 where
  pub calling : IsCalling w b rank (waits_for.Count request kind)
  pub here : k ≡ home (client_of w rank).config (client_of w rank).me

-- a count that is handled is the rank's pending call
pub count_here : (w : World) (k : Server) (a : Act) (b : Bag) (rank : Rank) (request : ℕ) (kind : WorkType) → IsLawful w b → IsAct w k a
    → takes a ≡ of_rank rank (tells.Count request kind) ∷ [] → IsCountHere w k b rank request kind
count_here w k a b rank request kind l is takes_it =
    let its = asked_call w k a b rank (tells.Count request kind) l is takes_it refl in
    let of = count_asked (client_of w rank) (client_of w rank).pending k request kind its.2 in
    record { calling = record { within = its.0; call = of.0; busy = refl; seat = its.1 }; here = of.1 }

-- That the problem is done.

done_asked : (c : ClientModel) (p : Pending) (k : Server) (request : ℕ) → IsAsked c p k (tells.Done request)
    → (tried : ℕ) × (p ≡ waits_for.SetDone request tried) × (k ≡ looks_at c tried)
done_asked c waits_for.Nothing k request is = absurd is
done_asked c (waits_for.Put unit first tried) k request is = absurd (cc is.0)
done_asked c (waits_for.Reserve to types) k request is = absurd (cc is.0)
done_asked c (waits_for.Try to types tried) k request is = absurd (cc is.0)
done_asked c (waits_for.Fetch to note) k request is = absurd (cc is.0)
done_asked c (waits_for.Common to note part own) k request is = absurd (cc is.0)
done_asked c (waits_for.Keep to other first tried) k request is = absurd (cc is.0)
done_asked c (waits_for.Close to other) k request is = absurd (cc is.0)
done_asked c (waits_for.Count to kind) k request is = absurd (cc is.0)
done_asked c (waits_for.SetDone to tried) k request is = let e = is.0 in (tried, cc, is.1)

-- a rank says so to this server
pub record IsDoneHere (w : World) (k : Server) (b : Bag) (rank : Rank) (request : ℕ) : Type 0 where
  pub tried : ℕ
  pub calling : IsCalling w b rank (waits_for.SetDone request tried)
  pub here : k ≡ looks_at (client_of w rank) tried

-- the word that the problem is done is of the rank's pending call
pub done_here : (w : World) (k : Server) (a : Act) (b : Bag) (rank : Rank) (request : ℕ) → IsLawful w b → IsAct w k a
    → takes a ≡ of_rank rank (tells.Done request) ∷ [] → IsDoneHere w k b rank request
done_here w k a b rank request l is takes_it =
    let its = asked_call w k a b rank (tells.Done request) l is takes_it refl in
    let of = done_asked (client_of w rank) (client_of w rank).pending k request its.2 in
    record { tried = of.0; calling = record { within = its.0; call = of.1; busy = refl; seat = its.1 }; here = of.2 }
