-- What a server does, one act after the other: the letter that an act takes, what it changes, says and enters in the ledger. Each
-- act is about one rank at most.
use Rattle.std.specs.Prelude.{ℕ, ◌+◌, ◌==◌, Bool, true, not, List, [], ◌∷◌, ◌++◌, filter, length, map, Option, None, Some, slice_set}
use Rattle.std.specs.Prelude.{if◌then◌else◌}
use Rattle.adlb_unit.specs.Ring.{behind, others}
use Rattle.adlb_unit.specs.Targets.{home}
use Rattle.adlb_unit.specs.declared.actors.Actor.{Actor}
use Rattle.adlb_unit.specs.declared.actors.Actor.TheVariants as by
use Rattle.adlb_unit.specs.declared.messages.Message.{Message}
use Rattle.adlb_unit.specs.declared.messages.Message.TheVariants as tells
use Rattle.adlb_unit.specs.declared.messages.Why.{Why}
use Rattle.adlb_unit.specs.declared.names.BatchId.{BatchId}
use Rattle.adlb_unit.specs.declared.names.Rank.{Rank}
use Rattle.adlb_unit.specs.declared.names.Server.{Server}
use Rattle.adlb_unit.specs.declared.names.UnitId.{UnitId}
use Rattle.adlb_unit.specs.declared.names.WorkType.{WorkType}
use Rattle.adlb_unit.specs.declared.notes.End.{End}
use Rattle.adlb_unit.specs.declared.notes.UnitNote.{UnitNote}
use Rattle.adlb_unit.specs.declared.tokens.Token.{Token}
use Rattle.adlb_unit.specs.declared.units.Unit.{Unit}
use Rattle.bag_ledger.specs.declared.entries.Entry.{Entry}
use Rattle.bag_ledger.specs.declared.entries.Entry.TheVariants as enters
use Rattle.bag_ledger.specs.Runs.{note_of}
use Rattle.exhaust_ring.specs.Ring.{Asker, Ring, begun, ended, token, wanting, with_mark, with_tests}
use Rattle.exhaust_ring.specs.Visits.{Outcome, started}
use Rattle.work_queue.specs.Counts.{counts_of}
use Rattle.work_queue.specs.Fits.{first_fit}
use Rattle.work_queue.specs.Queue.{Queue, charge_of, with_arrival, with_common, with_pin, with_promise, with_unit, without, without_common}
use Rattle.work_queue.specs.Queue.{without_promise}
use Rattle.server_components.specs.Store.{Store, changed, closed, fetched, is_due, with_fresh}
use Rattle.server_components.specs.declared.parts.Part.{Part}
use Rattle.server_components.specs.Calls.{wants, with_server}
use Rattle.server_components.specs.Parked.{is_by}
use Rattle.server_components.specs.declared.waits.Waiting.{Waiting}
use Rattle.server_components.specs.declared.wishes.Wish.{Wish}
use Rattle.server_components.specs.Pushes.{asks_room, has_sent, one_more}
use Rattle.server_components.specs.declared.standing.StandingPush.{StandingPush}
use Rattle.server_law.specs.State.{Debt, Kept, ServerModel, awaiting, debt, idle, ring_at}

-- a message to an actor
pub record ServerSaying : Type 0 where
  pub to : Actor
  pub message : Message

-- a letter that is taken off the front of the link of its sender
pub record Heard : Type 0 where
  pub from : Actor
  pub message : Message

-- the ranks that wait before one and after it
pub record Around : Type 0 where
  pub before : List Waiting
  pub behind : List Waiting

-- what a server can do
pub data Act : Type 0 where
  -- a put: the unit is in the queue, there is no room for it, or the call is ended
  Accepts : Unit → Act
  Refuses : Unit → Act
  Ends_put : Unit → End → Act
  -- a reserve: a unit is pinned to the rank, the call is ended, or the rank waits
  Grants : Wish → Unit → Act
  Ends_reserve : Wish → End → Act
  Parks : Wish → Act
  -- a try: a unit is pinned to the rank, the call is ended, or there is no unit
  Grants_try : Wish → Unit → Act
  Ends_try : Wish → End → Act
  Looks : Wish → Act
  -- a fetch of the unit of this id, in the call of this number
  Fetches : Rank → ℕ → UnitId → Unit → Act
  -- a count of the free units of a type, in the call of this number
  Counts : Rank → ℕ → WorkType → Act
  Notes_finish : Rank → Act
  -- a batch begins with this common part, in the call of this number: the part is kept, there is no room for it, or the call is ended
  Keeps : Rank → ℕ → List ℕ → Act
  Refuses_part : Rank → ℕ → List ℕ → Act
  Ends_keep : Rank → ℕ → List ℕ → End → Act
  -- a batch ends, of which this number of units was accepted, and its part is closed; the common part of a batch is fetched
  Closes : ℕ → BatchId → ℕ → Part → Act
  Fetches_part : Rank → ℕ → BatchId → Part → Act
  -- a rank that waits and is idle gets a unit, or is told an end
  Gives : Around → Wish → List Server → Unit → Act
  Tells : Around → Wish → List Server → End → Act
  -- For a rank that waits the next server is asked. That server has pinned a unit to it, which it is told, or had no unit, so that it is
  -- idle. Another server has a unit for it by now, and is among those still to be asked. A hint comes too late.
  Asks_on : Around → Wish → Server → List Server → Act
  Passes_on : Around → Wish → Server → List Server → UnitNote → Act
  Wakes : Around → Wish → Server → List Server → Act
  Is_hinted : Around → Waiting → Server → Act
  Drops_hint : Server → Rank → ℕ → Act
  -- The home of a rank asks for it: a unit is pinned to the rank, or its wish is kept. Its home is told that there is a unit by now.
  Answers : Server → Wish → Unit → Act
  Declines : Server → Wish → Act
  Hints : Wish → Act
  -- A unit is to move to a server where there is room. That server is asked for room; it promises it, or has no room. The unit goes, or it
  -- is no longer free and the push is taken back. The push has ended, since there was no room or by its acknowledgement.
  Queries : Server → UnitId → ℕ → Act
  Promises : Server → UnitId → ℕ → Act
  Refuses_push : Server → UnitId → ℕ → Act
  Sends_unit : Server → ℕ → Unit → Act
  Cancels : Server → UnitId → ℕ → Act
  Stops_push : Server → UnitId → ℕ → Act
  Ends_push : Server → UnitId → ℕ → Act
  -- a unit has come into its room, and its coming is acknowledged; and a promise is taken back
  Arrives : Server → Unit → Act
  Acks : Server → UnitId → Act
  Withdraws : Server → UnitId → Act
  -- the problem is done, as a rank says in the call of this number
  Hears_done : Rank → ℕ → Act
  -- a quiet server that has changed since its last notice gives notice that a check is wanted: it tells server 0, or is server 0; and
  -- server 0 is told
  Notices : Act
  Notes_own : Act
  Wants : Server → Act
  -- Server 0 starts a check. In the first wave another server takes its mark. After its tests a server sends the token on in the second
  -- wave, or tells server 0 which test fails. The check ends without a verdict, where the token is, or as server 0 is told.
  Starts : Act
  Marks : Server → Token → Act
  Passes : Server → Token → Act
  Fails : Server → Token → Why → Act
  Gives_up : Server → Token → Act
  Hears_failed : Server → Token → Why → Act
  -- the verdict: all work is used up, or no rank waits or runs any more; the other servers are told, and hear it
  Finds : Server → Token → Act
  Shuts : Server → Token → Act
  Hears_exhaust : Server → Act
  Hears_shutdown : Server → Act
  -- the whole check of a server that is alone: all work is used up, or no rank waits or runs any more, or there is no verdict
  Finds_alone : Act
  Shuts_alone : Act
  Checks_alone : Act

-- a saying to a rank
abbrev pub to_rank : Rank → Message → ServerSaying
to_rank rank message = record { to = by.Rank rank; message = message }

-- a saying to a server
abbrev pub to_server : Server → Message → ServerSaying
to_server server message = record { to = by.Server server; message = message }

-- a letter of a rank
abbrev pub of_rank : Rank → Message → Heard
of_rank rank message = record { from = by.Rank rank; message = message }

-- a letter of a server
abbrev pub of_server : Server → Message → Heard
of_server server message = record { from = by.Server server; message = message }

-- the batch that begins in the rank's call of this number, and the unit that is put in it
abbrev pub batch_of : Rank → ℕ → BatchId
batch_of rank request = record { rank = rank; number = request }

-- the id of a rank's put
abbrev pub unit_of : Rank → ℕ → UnitId
unit_of rank request = record { rank = rank; number = request }

-- What it takes: at most one letter.

-- the letter that an act takes
abbrev pub takes : Act → List Heard
takes (Accepts unit) = of_rank unit.id.rank (tells.Put unit) ∷ []
takes (Refuses unit) = of_rank unit.id.rank (tells.Put unit) ∷ []
takes (Ends_put unit end) = of_rank unit.id.rank (tells.Put unit) ∷ []
takes (Grants wish unit) = of_rank wish.rank (tells.Reserve wish.request wish.types) ∷ []
takes (Ends_reserve wish end) = of_rank wish.rank (tells.Reserve wish.request wish.types) ∷ []
takes (Parks wish) = of_rank wish.rank (tells.Reserve wish.request wish.types) ∷ []
takes (Grants_try wish unit) = of_rank wish.rank (tells.Try wish.request wish.types) ∷ []
takes (Ends_try wish end) = of_rank wish.rank (tells.Try wish.request wish.types) ∷ []
takes (Looks wish) = of_rank wish.rank (tells.Try wish.request wish.types) ∷ []
takes (Fetches rank request id unit) = of_rank rank (tells.Fetch request id) ∷ []
takes (Counts rank request kind) = of_rank rank (tells.Count request kind) ∷ []
takes (Notes_finish rank) = of_rank rank tells.Finish ∷ []
takes (Keeps rank request common) = of_rank rank (tells.KeepCommon request common) ∷ []
takes (Refuses_part rank request common) = of_rank rank (tells.KeepCommon request common) ∷ []
takes (Ends_keep rank request common end) = of_rank rank (tells.KeepCommon request common) ∷ []
takes (Closes request batch accepted part) = of_rank batch.rank (tells.CloseBatch request batch accepted) ∷ []
takes (Fetches_part rank request batch part) = of_rank rank (tells.FetchCommon request batch) ∷ []
takes (Passes_on at wish from rest note) = of_server from (tells.AskGrant wish.rank wish.request note) ∷ []
takes (Wakes at wish from rest) = of_server from (tells.AskNone wish.rank wish.request) ∷ []
takes (Is_hinted at e from) = of_server from (tells.Hint e.wish.rank e.wish.request) ∷ []
takes (Drops_hint from rank request) = of_server from (tells.Hint rank request) ∷ []
takes (Answers from wish unit) = of_server from (tells.Ask wish.rank wish.request wish.types) ∷ []
takes (Declines from wish) = of_server from (tells.Ask wish.rank wish.request wish.types) ∷ []
takes (Promises from id length) = of_server from (tells.PushQuery id length) ∷ []
takes (Refuses_push from id length) = of_server from (tells.PushQuery id length) ∷ []
takes (Sends_unit to length unit) = of_server to (tells.PushYes unit.id) ∷ []
takes (Cancels to id length) = of_server to (tells.PushYes id) ∷ []
takes (Stops_push to id length) = of_server to (tells.PushNo id) ∷ []
takes (Ends_push to id length) = of_server to (tells.PushAck id) ∷ []
takes (Arrives from unit) = of_server from (tells.PushUnit unit) ∷ []
takes (Withdraws from id) = of_server from (tells.PushCancel id) ∷ []
takes (Hears_done rank request) = of_rank rank (tells.Done request) ∷ []
takes (Wants from) = of_server from tells.Notice ∷ []
takes (Marks from t) = of_server from (tells.Token t) ∷ []
takes (Passes from t) = of_server from (tells.Token t) ∷ []
takes (Fails from t why) = of_server from (tells.Token t) ∷ []
takes (Gives_up from t) = of_server from (tells.Token t) ∷ []
takes (Hears_failed from t why) = of_server from (tells.Failed t why) ∷ []
takes (Finds from t) = of_server from (tells.Token t) ∷ []
takes (Shuts from t) = of_server from (tells.Token t) ∷ []
takes (Hears_exhaust from) = of_server from tells.Exhaust ∷ []
takes (Hears_shutdown from) = of_server from tells.Shutdown ∷ []
takes _ = []

-- What it changes, component by component.

-- a rank that waits, for which this server is among those still to be asked, in ring order
abbrev pub hinted : ServerModel → Waiting → Server → Waiting
hinted s e from = record e { to_ask = with_server s.config s.me e.to_ask from }

-- who comes to wait
abbrev pub comes : Act → ServerModel → List Waiting
comes (Parks wish) s = idle wish (others s.config s.me) ∷ []
comes (Asks_on at wish to rest) s = awaiting wish to rest ∷ []
comes (Wakes at wish from rest) s = idle wish rest ∷ []
comes (Is_hinted at e from) s = hinted s e from ∷ []
comes _ s = []

-- who waits no longer, and those round about
abbrev pub goes : Act → List Waiting
goes (Gives at wish rest unit) = idle wish rest ∷ []
goes (Tells at wish rest end) = idle wish rest ∷ []
goes (Asks_on at wish to rest) = idle wish (to ∷ rest) ∷ []
goes (Passes_on at wish from rest note) = awaiting wish from rest ∷ []
goes (Wakes at wish from rest) = awaiting wish from rest ∷ []
goes (Is_hinted at e from) = e ∷ []
goes _ = []

-- where the rank waits that the act is about
abbrev pub around : Act → Option Around
around (Gives at wish rest unit) = Some at
around (Tells at wish rest end) = Some at
around (Asks_on at wish to rest) = Some at
around (Passes_on at wish from rest note) = Some at
around (Wakes at wish from rest) = Some at
around (Is_hinted at e from) = Some at
around _ = None

-- where nobody goes, who comes is last
abbrev pub waiting_with : Option Around → List Waiting → List Waiting → List Waiting
waiting_with None waiting [] = waiting
waiting_with None waiting (e ∷ come) = waiting ++ e ∷ come
waiting_with (Some at) waiting come = at.before ++ (come ++ at.behind)

-- the ranks that wait after the act
abbrev pub waiting_after : Act → ServerModel → List Waiting
waiting_after a s = waiting_with (around a) s.kept.parked.waiting (comes a s)

-- the wishes without that of the rank
abbrev pub unwished : Rank → List Wish → List Wish
unwished rank wishes = filter (λ w. not (is_by rank w)) wishes

-- the wishes after the act
abbrev pub wishes_after : Act → List Wish → List Wish
wishes_after (Answers from wish unit) wishes = unwished wish.rank wishes
wishes_after (Declines from wish) wishes = unwished wish.rank wishes ++ wish ∷ []
wishes_after (Hints wish) wishes = unwished wish.rank wishes
wishes_after _ wishes = wishes

-- the bytes of a part that is due are given back
abbrev pub given_back : Part → Queue → Queue
given_back part q = if is_due part then without_common q (length part.bytes) else q

-- the queue after the act
abbrev pub queue_after : Act → Queue → Queue
queue_after (Accepts unit) q = with_unit q unit
queue_after (Grants wish unit) q = with_pin q unit.id wish.rank
queue_after (Grants_try wish unit) q = with_pin q unit.id wish.rank
queue_after (Fetches rank request id unit) q = without q id
queue_after (Gives at wish rest unit) q = with_pin q unit.id wish.rank
queue_after (Keeps rank request common) q = with_common q (length common)
queue_after (Closes request batch accepted part) q = given_back (closed accepted part) q
queue_after (Fetches_part rank request batch part) q = given_back (fetched part) q
queue_after (Answers from wish unit) q = with_pin q unit.id wish.rank
queue_after (Promises from id length) q = with_promise q id length
queue_after (Sends_unit to length unit) q = without q unit.id
queue_after (Arrives from unit) q = with_arrival q unit
queue_after (Withdraws from id) q = without_promise q id
queue_after _ q = q

-- the push that stands, and the acknowledgement that is owed: as they were before the act and are after it, where the act changes them
abbrev pub turns : Act → Option (Option StandingPush × Option StandingPush)
turns (Queries to id length) = Some (None, Some (asks_room to id length))
turns (Sends_unit to length unit) = Some (Some (asks_room to unit.id length), Some (has_sent to unit.id length))
turns (Cancels to id length) = Some (Some (asks_room to id length), Some (has_sent to id length))
turns (Stops_push to id length) = Some (Some (asks_room to id length), None)
turns (Ends_push to id length) = Some (Some (has_sent to id length), None)
turns _ = None

-- the acknowledgement that is owed before and after the act, if it changes that
abbrev pub debts : Act → Option (Option Debt × Option Debt)
debts (Arrives from unit) = Some (None, Some (debt from unit.id))
debts (Acks to id) = Some (Some (debt to id), None)
debts _ = None

-- the value after a change, or as it was without one
abbrev pub turned : {X : Type 0} → Option (Option X × Option X) → Option X → Option X
turned None x = x
turned (Some change) x = change.1

-- how many pushes were begun after the act
abbrev pub pushes_after : Act → ℕ → ℕ
pushes_after (Queries to id length) n = one_more n
pushes_after _ n = n

-- the common parts after the act
abbrev pub parts_after : Act → Store → Store
parts_after (Keeps rank request common) parts = with_fresh parts (batch_of rank request) common
parts_after (Closes request batch accepted part) parts = changed (closed accepted) parts batch
parts_after (Fetches_part rank request batch part) parts = changed fetched parts batch
parts_after _ parts = parts

-- the ranks that have finished after the act
abbrev pub finished_after : Act → List Bool → List Bool
finished_after (Notes_finish rank) finished = slice_set finished rank.0 true
finished_after _ finished = finished

-- whether the problem is done after the act
abbrev pub done_after : Act → Bool → Bool
done_after (Hears_done rank request) is_done = true
done_after _ is_done = is_done

-- whether all work is used up after the act
abbrev pub exhausted_after : Act → Bool → Bool
exhausted_after (Finds from t) exhausted = true
exhausted_after (Hears_exhaust from) exhausted = true
exhausted_after Finds_alone exhausted = true
exhausted_after _ exhausted = exhausted

-- whether the server is shut after the act
abbrev pub shut_after : Act → Bool → Bool
shut_after (Shuts from t) shut = true
shut_after (Hears_shutdown from) shut = true
shut_after Shuts_alone shut = true
shut_after _ shut = shut

-- the ranks that wait, as a token names them
abbrev pub askers : Kept → List Asker
askers k = map wants k.parked.waiting

-- the first free unit that fits one of these
abbrev pub fit_among : Kept → List Asker → Option UnitId
fit_among k asked = first_fit asked k.queue.units

-- the whole check of a server that is alone
abbrev pub check_alone : ServerModel → Outcome
check_alone s = started (ring_at s) s.activity (askers s.kept) (fit_among s.kept (askers s.kept))

-- the tests are made in the second wave
abbrev pub tested_in : ℕ → Ring → Ring
tested_in wave ring = if wave == 2 then with_tests ring else ring

-- the ring after the act
abbrev pub ring_after : Act → ServerModel → Ring
ring_after Notes_own s = wanting s.kept.ring
ring_after (Wants from) s = wanting s.kept.ring
ring_after Starts s = begun s.kept.ring s.activity
ring_after (Marks from t) s = with_mark s.kept.ring t.check s.activity
ring_after (Passes from t) s = with_tests s.kept.ring
ring_after (Fails from t why) s = tested_in t.wave s.kept.ring
ring_after (Gives_up from t) s = ended s.kept.ring
ring_after (Hears_failed from t why) s = ended s.kept.ring
ring_after (Finds from t) s = ended s.kept.ring
ring_after (Shuts from t) s = ended s.kept.ring
ring_after Finds_alone s = (check_alone s).ring.ring
ring_after Shuts_alone s = (check_alone s).ring.ring
ring_after Checks_alone s = (check_alone s).ring.ring
ring_after _ s = s.kept.ring

-- the activity of the last notice after the act
abbrev pub noted_after : Act → ServerModel → Option ℕ
noted_after Notices s = Some s.activity
noted_after Notes_own s = Some s.activity
noted_after _ s = s.kept.noted

-- the server after the act
abbrev pub does : Act → ServerModel → ServerModel
does a s = record s {
  kept = record {
    queue = queue_after a s.kept.queue;
    parts = parts_after a s.kept.parts;
    parked = record { waiting = waiting_after a s; wishes = wishes_after a s.kept.parked.wishes };
    pushing = record { push = turned (turns a) s.kept.pushing.push; pushes = pushes_after a s.kept.pushing.pushes };
    owed = turned (debts a) s.kept.owed;
    finished = finished_after a s.kept.finished;
    done = done_after a s.kept.done;
    exhausted = exhausted_after a s.kept.exhausted;
    shut = shut_after a s.kept.shut;
    ring = ring_after a s;
    noted = noted_after a s;
  };
}

-- What it says and enters, by the server as it was before.

-- server 0
abbrev pub zeroth : Server
zeroth = record { 0 = 0 }

-- the next server, to which the token goes on
abbrev pub onward : ServerModel → Server
onward s = behind s.config s.me 1

-- a message to each other server
abbrev pub to_others : ServerModel → Message → List ServerSaying
to_others s message = map (λ t. to_server t message) (others s.config s.me)

-- what the act says
abbrev pub says : Act → ServerModel → List ServerSaying
says (Accepts unit) s = to_rank unit.id.rank (tells.Accepted unit.id.number) ∷ []
says (Refuses unit) s = to_rank unit.id.rank (tells.Full unit.id.number (charge_of s.kept.queue)) ∷ []
says (Ends_put unit end) s = to_rank unit.id.rank (tells.Ended unit.id.number end) ∷ []
says (Grants wish unit) s = to_rank wish.rank (tells.Grant wish.request (note_of s.me unit)) ∷ []
says (Ends_reserve wish end) s = to_rank wish.rank (tells.Ended wish.request end) ∷ []
says (Grants_try wish unit) s = to_rank wish.rank (tells.Grant wish.request (note_of s.me unit)) ∷ []
says (Ends_try wish end) s = to_rank wish.rank (tells.Ended wish.request end) ∷ []
says (Looks wish) s = to_rank wish.rank (tells.Nothing wish.request) ∷ []
says (Fetches rank request id unit) s = to_rank rank (tells.Bytes request unit.body) ∷ []
says (Counts rank request kind) s = to_rank rank (tells.Counted request (counts_of kind s.kept.queue.units)) ∷ []
says (Gives at wish rest unit) s = to_rank wish.rank (tells.Grant wish.request (note_of s.me unit)) ∷ []
says (Tells at wish rest end) s = to_rank wish.rank (tells.Ended wish.request end) ∷ []
says (Keeps rank request common) s = to_rank rank (tells.Accepted request) ∷ []
says (Refuses_part rank request common) s = to_rank rank (tells.Full request (charge_of s.kept.queue)) ∷ []
says (Ends_keep rank request common end) s = to_rank rank (tells.Ended request end) ∷ []
says (Closes request batch accepted part) s = to_rank batch.rank (tells.Closed request) ∷ []
says (Fetches_part rank request batch part) s = to_rank rank (tells.Bytes request part.bytes) ∷ []
says (Asks_on at wish to rest) s = to_server to (tells.Ask wish.rank wish.request wish.types) ∷ []
says (Passes_on at wish from rest note) s = to_rank wish.rank (tells.Grant wish.request note) ∷ []
says (Answers from wish unit) s = to_server from (tells.AskGrant wish.rank wish.request (note_of s.me unit)) ∷ []
says (Declines from wish) s = to_server from (tells.AskNone wish.rank wish.request) ∷ []
says (Hints wish) s = to_server (home s.config wish.rank) (tells.Hint wish.rank wish.request) ∷ []
says (Queries to id length) s = to_server to (tells.PushQuery id length) ∷ []
says (Promises from id length) s = to_server from (tells.PushYes id) ∷ []
says (Refuses_push from id length) s = to_server from (tells.PushNo id) ∷ []
says (Sends_unit to length unit) s = to_server to (tells.PushUnit unit) ∷ []
says (Cancels to id length) s = to_server to (tells.PushCancel id) ∷ []
says (Acks to id) s = to_server to (tells.PushAck id) ∷ []
says (Withdraws from id) s = to_server from (tells.PushAck id) ∷ []
says (Hears_done rank request) s = to_rank rank (tells.DoneHeard request) ∷ []
says Notices s = to_server zeroth tells.Notice ∷ []
says Starts s = to_server (onward s) (tells.Token (token (s.kept.ring.check + 1) 1 (askers s.kept))) ∷ []
says (Marks from t) s = to_server (onward s) (tells.Token (token t.check t.wave (t.asked ++ askers s.kept))) ∷ []
says (Passes from t) s = to_server (onward s) (tells.Token (token t.check 2 t.asked)) ∷ []
says (Fails from t why) s = to_server zeroth (tells.Failed t why) ∷ []
says (Finds from t) s = to_others s tells.Exhaust
says (Shuts from t) s = to_others s tells.Shutdown
says _ s = []

-- a part that is due is freed
abbrev pub frees : Server → BatchId → Part → List Entry
frees me batch part = if is_due part then enters.Freed me batch ∷ [] else []

-- what the act enters
abbrev pub entries : Act → ServerModel → List Entry
entries (Accepts unit) s = enters.Accepted s.me unit.id ∷ []
entries (Refuses unit) s = enters.Refused s.me unit.id (charge_of s.kept.queue) ∷ []
entries (Ends_put unit end) s = enters.Over unit.id.rank unit.id.number end ∷ []
entries (Grants wish unit) s = enters.Granted s.me wish.rank wish.request unit.id ∷ []
entries (Ends_reserve wish end) s = enters.Over wish.rank wish.request end ∷ []
entries (Grants_try wish unit) s = enters.Granted s.me wish.rank wish.request unit.id ∷ []
entries (Ends_try wish end) s = enters.Over wish.rank wish.request end ∷ []
entries (Looks wish) s = enters.Looked s.me wish.rank wish.request ∷ []
entries (Fetches rank request id unit) s = enters.Fetched s.me rank id ∷ []
entries (Counts rank request kind) s = enters.Counted s.me rank request (counts_of kind s.kept.queue.units) ∷ []
entries (Gives at wish rest unit) s = enters.Granted s.me wish.rank wish.request unit.id ∷ []
entries (Tells at wish rest end) s = enters.Over wish.rank wish.request end ∷ []
entries (Finds from t) s = enters.Exhausted ∷ []
entries Finds_alone s = enters.Exhausted ∷ []
entries (Keeps rank request common) s = enters.Kept s.me (batch_of rank request) ∷ []
entries (Refuses_part rank request common) s = enters.Refused s.me (unit_of rank request) (charge_of s.kept.queue) ∷ []
entries (Ends_keep rank request common end) s = enters.Over rank request end ∷ []
entries (Closes request batch accepted part) s = enters.Closed s.me batch ∷ frees s.me batch (closed accepted part)
entries (Fetches_part rank request batch part) s = enters.CommonFetched s.me rank batch ∷ frees s.me batch (fetched part)
entries (Answers from wish unit) s = enters.Granted s.me wish.rank wish.request unit.id ∷ []
entries (Promises from id length) s = enters.Promised s.me id length ∷ []
entries (Sends_unit to length unit) s = enters.Left s.me to unit.id ∷ []
entries (Arrives from unit) s = enters.Arrived s.me unit.id ∷ []
entries (Withdraws from id) s = enters.Withdrawn s.me id ∷ []
entries _ s = []
