-- Each act and the seat of a rank: of another rank, and of the rank of which it tells, where nothing of its call is decided.
use Rattle.std.proofs.Common.{◌≡◌, ◌<◌, Bool, true, false, cond, List, [], ◌∷◌, ◌++◌, Option, None, Some, refl, sym, ap, ◌∙◌, subst}
use Rattle.std.specs.Prelude.{All}
use Rattle.std.proofs.lemmas.Bool.{eq-eqb, lt-ltb}
use Rattle.adlb_unit.specs.declared.actors.Actor.TheVariants as by
use Rattle.adlb_unit.specs.declared.messages.Message.{Message}
use Rattle.adlb_unit.specs.declared.messages.Message.TheVariants as tells
use Rattle.adlb_unit.specs.declared.names.Rank.{Rank}
use Rattle.adlb_unit.specs.declared.names.Server.{Server}
use Rattle.adlb_unit.specs.declared.notes.UnitNote.{UnitNote}
use Rattle.adlb_unit.specs.Targets.{home}
use Rattle.bag_ledger.specs.Bag.{Bag}
use Rattle.rank_client.specs.Agreement.{holds}
use Rattle.rank_client.specs.Expected.{IsAwaited}
use Rattle.rank_client.specs.declared.pendings.Pending.{Pending}
use Rattle.rank_client.specs.declared.pendings.Pending.TheVariants as waits_for
use Rattle.rank_client.specs.State.{ClientModel}
use Rattle.server_components.specs.declared.waits.Waiting.{Waiting}
use Rattle.server_components.specs.declared.wishes.Wish.{Wish}
use Rattle.server_law.specs.State.{ServerModel, awaiting, idle}
use Rattle.adlb_unit.specs.declared.names.BatchId.{BatchId}
use Rattle.bag_ledger.specs.declared.entries.Entry.TheVariants as enters
use Rattle.server_components.specs.Store.{closed, fetched, is_due}
use Rattle.server_components.specs.declared.parts.Part.{Part}
use Rattle.server_law.specs.Acts.{Act, Accepts, Checks_alone, Fails, Finds_alone, Gives_up, Hears_done, Hears_exhaust, Hears_failed}
use Rattle.server_law.specs.Acts.{Hears_shutdown, Marks, Notes_own, Notices, Passes, Shuts_alone, Starts, Wants, Answers, Around, Asks_on}
use Rattle.server_law.specs.Acts.{Closes, Counts, Declines, Drops_hint, Ends_keep, Ends_put, Ends_reserve, Ends_try, Fetches, Fetches_part}
use Rattle.server_law.specs.Acts.{Finds, Gives, Grants, Grants_try, Heard, Hints, Is_hinted, Keeps, Looks, Notes_finish, Parks, Passes_on}
use Rattle.server_law.specs.Acts.{Refuses, Refuses_part, ServerSaying, Shuts, Tells, Wakes, comes, entries, frees, of_rank, of_server, says}
use Rattle.server_law.specs.Acts.{takes, Queries, Promises, Refuses_push, Sends_unit, Cancels, Stops_push, Ends_push, Arrives, Acks}
use Rattle.server_law.specs.Acts.{Withdraws}
use Rattle.core_run.specs.World.{World, client_of, pool_of}
use Rattle.core_law.specs.Acting.{AreFront, IsAct, acted}
use Rattle.core_law.specs.Lawful.{IsAsked, IsFact, IsOfCall, IsSeat, IsWaiting, OfCall}
use Rattle.core_law.specs.OnLinks.{Each}
use Rattle.core_law.specs.Letters.{call_letter}
use Rattle.core_law.specs.Others.{tells_of}
use Rattle.core_law.proofs.Acts.{others_told}
use Rattle.core_law.proofs.RankSteps.{AreSilent, weighs_nothing}
use Rattle.core_law.proofs.Seats.{IsMade, seat_stays}
use Rattle.core_law.proofs.UnderWay.{at_front, each_parts}

-- the rank that an act is about; a hint changes nothing for its rank, and a push and a check are about no rank
abbrev pub about : Act → Option Rank
about (Accepts unit) = Some unit.id.rank
about (Refuses unit) = Some unit.id.rank
about (Ends_put unit end) = Some unit.id.rank
about (Grants wish unit) = Some wish.rank
about (Ends_reserve wish end) = Some wish.rank
about (Parks wish) = Some wish.rank
about (Grants_try wish unit) = Some wish.rank
about (Ends_try wish end) = Some wish.rank
about (Looks wish) = Some wish.rank
about (Fetches rank request id unit) = Some rank
about (Counts rank request kind) = Some rank
about (Notes_finish rank) = Some rank
about (Gives at wish rest unit) = Some wish.rank
about (Tells at wish rest end) = Some wish.rank
about (Asks_on at wish to rest) = Some wish.rank
about (Passes_on at wish from rest note) = Some wish.rank
about (Wakes at wish from rest) = Some wish.rank
about (Is_hinted at e from) = Some e.wish.rank
about (Answers from wish unit) = Some wish.rank
about (Declines from wish) = Some wish.rank
about (Keeps rank request common) = Some rank
about (Refuses_part rank request common) = Some rank
about (Ends_keep rank request common end) = Some rank
about (Closes request batch accepted part) = Some batch.rank
about (Fetches_part rank request batch part) = Some rank
about (Drops_hint from rank request) = None
about (Hints wish) = None
about (Queries to id size) = None
about (Promises from id size) = None
about (Refuses_push from id size) = None
about (Sends_unit to size unit) = None
about (Cancels to id size) = None
about (Stops_push to id size) = None
about (Ends_push to id size) = None
about (Arrives from unit) = None
about (Acks to id) = None
about (Withdraws from id) = None
about (Hears_done rank request) = Some rank
about Notices = None
about Notes_own = None
about (Wants from) = None
about Starts = None
about (Marks from t) = None
about (Passes from t) = None
about (Fails from t why) = None
about (Gives_up from t) = None
about (Hears_failed from t why) = None
about (Finds from t) = None
about (Shuts from t) = None
about (Hears_exhaust from) = None
about (Hears_shutdown from) = None
about Finds_alone = None
about Shuts_alone = None
about Checks_alone = None

-- It enters nothing of others, says nothing to them, and no other rank comes to wait.

frees_silent : (me : Rank) (k : Server) (batch : BatchId) (part : Part) → AreSilent me (frees k batch part)
frees_silent me k batch part = by_due (is_due part)
  where
    by_due : (t : Bool) → AreSilent me (cond t (enters.Freed k batch ∷ []) [])
    by_due true = (refl, tt)
    by_due false = tt

silent : (me : Rank) (a : Act) (s : ServerModel) → tells_of me (about a) ≡ false → AreSilent me (entries a s)
silent me (Parks wish) s is = tt
silent me (Notes_finish rank) s is = tt
silent me (Hears_done rank request) s is = tt
silent me Notices s is = tt
silent me Notes_own s is = tt
silent me (Wants from) s is = tt
silent me Starts s is = tt
silent me (Marks from t) s is = tt
silent me (Passes from t) s is = tt
silent me (Fails from t why) s is = tt
silent me (Gives_up from t) s is = tt
silent me (Hears_failed from t why) s is = tt
silent me (Shuts from t) s is = tt
silent me (Hears_exhaust from) s is = tt
silent me (Hears_shutdown from) s is = tt
silent me Shuts_alone s is = tt
silent me Checks_alone s is = tt
silent me (Asks_on at wish to rest) s is = tt
silent me (Passes_on at wish from rest note) s is = tt
silent me (Wakes at wish from rest) s is = tt
silent me (Is_hinted at e from) s is = tt
silent me (Drops_hint from rank request) s is = tt
silent me (Declines from wish) s is = tt
silent me (Hints wish) s is = tt
silent me (Queries to id size) s is = tt
silent me (Refuses_push from id size) s is = tt
silent me (Cancels to id size) s is = tt
silent me (Stops_push to id size) s is = tt
silent me (Ends_push to id size) s is = tt
silent me (Acks to id) s is = tt
silent me (Promises from id size) s is = (refl, tt)
silent me (Sends_unit to size unit) s is = (refl, tt)
silent me (Arrives from unit) s is = (refl, tt)
silent me (Withdraws from id) s is = (refl, tt)
silent me (Finds from t) s is = (refl, tt)
silent me Finds_alone s is = (refl, tt)
silent me (Closes request batch accepted part) s is = (is, frees_silent me s.me batch (closed accepted part))
silent me (Fetches_part rank request batch part) s is = (is, frees_silent me s.me batch (fetched part))
silent me _ s is = (is, tt)

abbrev SayNothing : Rank → Server → List ServerSaying → Type 0
SayNothing me k ys = Each (λ y. call_letter me (by.Server k) y.to y.message ≡ 0) ys

says_nothing : (me : Rank) (a : Act) (s : ServerModel) (k : Server) → tells_of me (about a) ≡ false → SayNothing me k (says a s)
says_nothing me (Parks wish) s k is = tt
says_nothing me (Notes_finish rank) s k is = tt
says_nothing me Notices s k is = (refl, tt)
says_nothing me Notes_own s k is = tt
says_nothing me (Wants from) s k is = tt
says_nothing me Starts s k is = (refl, tt)
says_nothing me (Marks from t) s k is = (refl, tt)
says_nothing me (Passes from t) s k is = (refl, tt)
says_nothing me (Fails from t why) s k is = (refl, tt)
says_nothing me (Gives_up from t) s k is = tt
says_nothing me (Hears_failed from t why) s k is = tt
says_nothing me (Finds from t) s k is = others_told (λ to m. call_letter me (by.Server k) to m ≡ 0) s tells.Exhaust (λ to. refl)
says_nothing me (Shuts from t) s k is = others_told (λ to m. call_letter me (by.Server k) to m ≡ 0) s tells.Shutdown (λ to. refl)
says_nothing me (Hears_exhaust from) s k is = tt
says_nothing me (Hears_shutdown from) s k is = tt
says_nothing me Finds_alone s k is = tt
says_nothing me Shuts_alone s k is = tt
says_nothing me Checks_alone s k is = tt
says_nothing me (Wakes at wish from rest) s k is = tt
says_nothing me (Is_hinted at e from) s k is = tt
says_nothing me (Drops_hint from rank request) s k is = tt
says_nothing me (Hints wish) s k is = (refl, tt)
says_nothing me (Stops_push to id size) s k is = tt
says_nothing me (Ends_push to id size) s k is = tt
says_nothing me (Arrives from unit) s k is = tt
says_nothing me (Queries to id size) s k is = (refl, tt)
says_nothing me (Promises from id size) s k is = (refl, tt)
says_nothing me (Refuses_push from id size) s k is = (refl, tt)
says_nothing me (Sends_unit to size unit) s k is = (refl, tt)
says_nothing me (Cancels to id size) s k is = (refl, tt)
says_nothing me (Acks to id) s k is = (refl, tt)
says_nothing me (Withdraws from id) s k is = (refl, tt)
says_nothing me _ s k is = (rw is refl, tt)

ComeOf : Rank → List Waiting → Type 0
ComeOf me es = Each (λ (e : Waiting). tells_of me (Some e.wish.rank) ≡ false) es

nobody_comes : (me : Rank) (a : Act) (s : ServerModel) → tells_of me (about a) ≡ false → ComeOf me (comes a s)
unfolding ComeOf
nobody_comes me (Parks wish) s is = (is, tt)
nobody_comes me (Asks_on at wish to rest) s is = (is, tt)
nobody_comes me (Wakes at wish from rest) s is = (is, tt)
nobody_comes me (Is_hinted at e from) s is = (is, tt)
nobody_comes me _ s is = tt

said_of_call : (c : ClientModel) (coming : Option Message) (me : Rank) (k : Server) (ys : List ServerSaying) → c.me ≡ me
    → SayNothing me k ys
    → Each (λ y. IsOfCall c coming (by.Server k) y.to y.message) ys
said_of_call c coming me k [] named each = tt
said_of_call c coming me k (y ∷ ys) named each =
    (weighs_nothing c coming me (by.Server k) y.to y.message named each.0, said_of_call c coming me k ys named each.1)

others_wait : (c : ClientModel) (coming : Option Message) (me : Rank) (es : List Waiting) → c.me ≡ me → ComeOf me es
    → Each (IsWaiting c coming) es
unfolding ComeOf
others_wait c coming me [] named each = tt
others_wait c coming me (e ∷ es) named each = (
  λ of. let same = eq-eqb e.wish.rank.0 me.0 (ap (λ (r : Rank). r.0) (of ∙ named)) in absurd (cc (same, each.0)),
  others_wait c coming me es named each.1,
)

-- an act that is about another rank, or about no rank
pub other_stays : (w : World) (k : Server) (a : Act) (b n : Bag) (me : Rank) (coming : Option Message) → IsMade w k a b n
    → tells_of me (about a) ≡ false → All (IsFact n) (holds (client_of w me) coming) → IsSeat w b me coming
    → IsSeat (acted w k a) n me coming
other_stays w k a b n me coming m other facts seat =
    let s = pool_of w k in
    let c = client_of w me in
    seat_stays w k a b n me coming m (silent me a s other) (said_of_call c coming me k (says a s) seat.named (says_nothing me a s k other))
    (others_wait c coming me (comes a s) seat.named (nobody_comes me a s other)) facts seat

-- Of this rank.

-- the letter that is taken, and who goes, are of the call
pub front_is : (w : World) (k : Server) (a : Act) (me : Rank) (coming : Option Message) (h : Heard) → IsAct w k a → takes a ≡ h ∷ []
    → (b : Bag)
    → IsSeat w b me coming → IsOfCall (client_of w me) coming h.from (by.Server k) h.message
front_is w k a me coming h is takes_it b seat =
    let front : AreFront w.config k w.links (h ∷ []) = subst (λ (l : List Heard). AreFront w.config k w.links l) takes_it is.front in
    let there = lt-ltb k.0 w.config.servers is.here in
    let c = client_of w me in
    let of = at_front (OfCall c coming) w.config w.links h.from (by.Server k) front.0 front.1 seat.letters front.2 there front.3 in
    subst (λ (m : Message). IsOfCall c coming h.from (by.Server k) m) front.4 of

-- who waits here waits as its client says
pub gone_is : (w : World) (k : Server) (at : Around) (e : Waiting) (b : Bag) (me : Rank) (coming : Option Message) → k.0 < w.config.servers
    → (pool_of w k).kept.parked.waiting ≡ at.before ++ (e ∷ at.behind) → IsSeat w b me coming → IsWaiting (client_of w me) coming e
gone_is w k at e b me coming here sits seat =
    let P : Waiting → Type 0 = IsWaiting (client_of w me) coming in
    let parts = each_parts P at.before (e ∷ at.behind) (subst (λ (l : List Waiting). Each P l) sits (seat.waits k here)) in
    parts.1.0

-- the reserve that was asked for by this letter
pub reserve_asked : (c : ClientModel) (p : Pending) (k : Server) (wish : Wish) → IsAsked c p k (tells.Reserve wish.request wish.types)
    → (p ≡ waits_for.Reserve wish.request wish.types) × (k ≡ home c.config c.me)
reserve_asked c waits_for.Nothing k wish is = absurd is
reserve_asked c (waits_for.Put unit first tried) k wish is = absurd (cc is.0)
reserve_asked c (waits_for.Reserve request types) k wish is = let e = is.0 in (cc, is.1)
reserve_asked c (waits_for.Try request types tried) k wish is = absurd (cc is.0)
reserve_asked c (waits_for.Fetch request note) k wish is = absurd (cc is.0)
reserve_asked c (waits_for.Common request note common own) k wish is = absurd (cc is.0)
reserve_asked c (waits_for.Keep request common first tried) k wish is = absurd (cc is.0)
reserve_asked c (waits_for.Close request batch) k wish is = absurd (cc is.0)
reserve_asked c (waits_for.Count request kind) k wish is = absurd (cc is.0)
reserve_asked c (waits_for.SetDone request tried) k wish is = absurd (cc is.0)

-- the rank comes to wait
pub parks_stays : (w : World) (k : Server) (wish : Wish) (b : Bag) (me : Rank) (coming : Option Message) → IsMade w k (Parks wish) b b
    → IsSeat w b me coming → IsSeat (acted w k (Parks wish)) b me coming
parks_stays w k wish b me coming m seat =
    let of = front_is w k (Parks wish) me coming (of_rank wish.rank (tells.Reserve wish.request wish.types)) m.is refl b seat in
    seat_stays w k (Parks wish) b b me coming m tt tt
    ((λ who. let l = of who refl in ((reserve_asked (client_of w me) (client_of w me).pending k wish l.1).0, λ e. l.0)), tt) seat.facts seat

-- its Finish letter was handled
pub finish_stays : (w : World) (k : Server) (rank : Rank) (b : Bag) (me : Rank) (coming : Option Message)
    → IsMade w k (Notes_finish rank) b b
    → IsSeat w b me coming → IsSeat (acted w k (Notes_finish rank)) b me coming
finish_stays w k rank b me coming m seat = seat_stays w k (Notes_finish rank) b b me coming m tt tt tt seat.facts seat

-- another server is asked for the rank
pub asks_stays : (w : World) (k : Server) (at : Around) (wish : Wish) (to : Server) (rest : List Server) (b : Bag) (me : Rank)
    (coming : Option Message)
    → IsMade w k (Asks_on at wish to rest) b b → IsSeat w b me coming → IsSeat (acted w k (Asks_on at wish to rest)) b me coming
asks_stays w k at wish to rest b me coming m seat =
    let is = m.is in
    let gone = gone_is w k at (idle wish (to ∷ rest)) b me coming is.here is.sits seat in
    seat_stays w k (Asks_on at wish to rest) b b me coming m tt ((λ who. let l = gone who in (l.1 refl, l.0)), tt)
    ((λ who. ((gone who).0, λ e. absurd (cc))), tt) seat.facts seat

-- the server that was asked had none
pub wakes_stays : (w : World) (k : Server) (at : Around) (wish : Wish) (from : Server) (rest : List Server) (b : Bag) (me : Rank)
    (coming : Option Message)
    → IsMade w k (Wakes at wish from rest) b b → IsSeat w b me coming → IsSeat (acted w k (Wakes at wish from rest)) b me coming
wakes_stays w k at wish from rest b me coming m seat =
    let is = m.is in
    let gone = gone_is w k at (awaiting wish from rest) b me coming is.here is.sits seat in
    let of = front_is w k (Wakes at wish from rest) me coming (of_server from (tells.AskNone wish.rank wish.request)) is refl b seat in
    seat_stays w k (Wakes at wish from rest) b b me coming m tt tt ((λ who. ((gone who).0, λ e. of who)), tt) seat.facts seat

-- another server has a unit for it by now
pub hinted_stays : (w : World) (k : Server) (at : Around) (e : Waiting) (from : Server) (b : Bag) (me : Rank) (coming : Option Message)
    → IsMade w k (Is_hinted at e from) b b → IsSeat w b me coming → IsSeat (acted w k (Is_hinted at e from)) b me coming
hinted_stays w k at e from b me coming m seat =
    let is = m.is in
    let gone = gone_is w k at e b me coming is.here is.sits seat in
    seat_stays w k (Is_hinted at e from) b b me coming m tt tt (gone, tt) seat.facts seat

-- a server that is asked for it has none
pub declines_stays : (w : World) (k : Server) (from : Server) (wish : Wish) (b : Bag) (me : Rank) (coming : Option Message)
    → IsMade w k (Declines from wish) b b → IsSeat w b me coming → IsSeat (acted w k (Declines from wish)) b me coming
declines_stays w k from wish b me coming m seat =
    let asked = of_server from (tells.Ask wish.rank wish.request wish.types) in
    let of = front_is w k (Declines from wish) me coming asked m.is refl b seat in
    seat_stays w k (Declines from wish) b b me coming m tt ((λ who. (of who).0), tt) tt seat.facts seat

-- its home passes on the grant of the server that was asked
pub passes_stays : (w : World) (k : Server) (at : Around) (wish : Wish) (from : Server) (rest : List Server) (note : UnitNote) (b : Bag)
    (me : Rank) (coming : Option Message)
    → IsMade w k (Passes_on at wish from rest note) b b → k ≡ home (client_of w me).config (client_of w me).me → IsSeat w b me coming
    → IsSeat (acted w k (Passes_on at wish from rest note)) b me coming
passes_stays w k at wish from rest note b me coming m here seat =
    let c = client_of w me in
    let grant = tells.Grant wish.request note in
    let brings = of_server from (tells.AskGrant wish.rank wish.request note) in
    let of = front_is w k (Passes_on at wish from rest note) me coming brings m.is refl b seat in
    seat_stays w k (Passes_on at wish from rest note) b b me coming m tt
    ((λ who. let l = of who in (l.0, subst (λ (t : Server). IsAwaited c c.pending t grant) (sym here) l.1)), tt) tt seat.facts seat
