-- What a rank does with a call, and with a letter that answers it, one rule each.
use Rattle.std.specs.Prelude.{ℕ, ◌+◌, ◌==◌, nat_le, nat_lt, Bool, true, false, ◌&&◌, not, ℤ, List, [], ◌∷◌, ◌++◌, length, map, filter, find}
use Rattle.std.specs.Prelude.{Option, None, Some, is_none, if◌then◌else◌}
use Rattle.std.specs.List.{range_with_len}
use Rattle.adlb_unit.specs.Targets.{home, in_ranks}
use Rattle.adlb_unit.specs.Ids.{same_unit}
use Rattle.adlb_unit.specs.Limits.{body_limit}
use Rattle.adlb_unit.specs.declared.messages.Message.{Message}
use Rattle.adlb_unit.specs.declared.messages.Message.TheVariants as tells
use Rattle.adlb_unit.specs.declared.names.CommonRef.{CommonRef}
use Rattle.adlb_unit.specs.declared.names.Rank.{Rank}
use Rattle.adlb_unit.specs.declared.names.Server.{Server}
use Rattle.adlb_unit.specs.declared.names.Target.{Target}
use Rattle.adlb_unit.specs.declared.names.Target.TheVariants.{Any, Only, Soft}
use Rattle.adlb_unit.specs.declared.names.UnitId.{UnitId}
use Rattle.adlb_unit.specs.declared.names.WorkType.{WorkType}
use Rattle.adlb_unit.specs.declared.notes.End.{End}
use Rattle.adlb_unit.specs.declared.notes.UnitNote.{UnitNote}
use Rattle.adlb_unit.specs.declared.units.Unit.{Unit}
use Rattle.bag_ledger.specs.declared.entries.Answer.{Answer}
use Rattle.bag_ledger.specs.declared.entries.Answer.TheVariants as answers
use Rattle.bag_ledger.specs.declared.entries.Call.{Call}
use Rattle.bag_ledger.specs.declared.entries.Call.TheVariants as calls_to
use Rattle.bag_ledger.specs.declared.entries.Entry.{Entry}
use Rattle.bag_ledger.specs.declared.entries.Entry.TheVariants as enters
use Rattle.rank_client.specs.declared.pendings.Pending.{Pending}
use Rattle.rank_client.specs.declared.pendings.Pending.TheVariants as waits_for
use Rattle.rank_client.specs.Calls.{is_fetched, is_granted, plus}
use Rattle.rank_client.specs.State.{ClientModel}
use Rattle.adlb_unit.specs.Ring.{behind}

-- a message to a server
pub record ClientSaying : Type 0 where
  pub to : Server
  pub message : Message

-- what the client becomes, what it says, what it enters in the ledger, and the answer if the call ends
pub record ClientResponse : Type 0 where
  pub state : ClientModel
  pub says : List ClientSaying
  pub entries : List Entry
  pub answer : Option Answer

-- the call has begun, and this is pending
abbrev pub waiting : ClientModel → Pending → ClientModel
waiting s pending = record s { pending = pending; next = s.next + 1 }

-- a call that goes to a server, and waits for its answer
abbrev pub asks : ClientModel → Entry → Server → Message → Pending → ClientResponse
asks s entry to message pending = record {
  state = waiting s pending;
  says = record { to = to; message = message } ∷ [];
  entries = entry ∷ [];
  answer = None;
}

-- the call has its answer
abbrev pub answered : ClientModel → Call → Answer → ClientModel
answered s call answer = record s { pending = waits_for.Nothing; transcript = plus s.transcript call (Some answer) }

-- the call ends with this answer
abbrev pub ends : ClientModel → List Entry → Call → Answer → ClientResponse
ends s entries call answer = record { state = answered s call answer; says = []; entries = entries; answer = Some answer }

-- a call to which this end was told before: it is answered at once
abbrev pub over : ClientModel → Entry → Call → End → ClientResponse
over s entry call end =
    ends (waiting s waits_for.Nothing) (entry ∷ enters.Over s.me s.next end ∷ []) call (answers.Ended end)

-- Put.

-- the home of the rank that the target names; for any, the server as many places after the rank's home as it put before
abbrev pub first_server : ClientModel → Target → Server
first_server s Any = behind s.config (home s.config s.me) s.puts
first_server s (Only rank) = home s.config rank
first_server s (Soft rank) = home s.config rank

-- the call that puts the unit, and the entry that begins it
abbrev pub call_of : Unit → Call
call_of unit = calls_to.Put unit.kind unit.prio unit.target unit.answer unit.body

-- the entry of a put
abbrev pub entry_of : Unit → Entry
entry_of unit = enters.Putting unit.id.rank unit.id.number unit.kind unit.prio unit.target unit.answer unit.body

-- the unit is offered to the first server
abbrev pub put : ClientModel → Unit → Option End → ClientResponse
put s unit (Some end) = over (record s { puts = s.puts + 1 }) (entry_of unit) (call_of unit) end
put s unit None =
    asks (record s { puts = s.puts + 1 }) (entry_of unit) (first_server s unit.target) (tells.Put unit)
    (waits_for.Put unit (first_server s unit.target) 0)

-- the unit that this call puts, in the batch that is going on, if any
abbrev pub unit_put : ClientModel → WorkType → ℤ → Target → Option Rank → List ℕ → Unit
unit_put s kind prio target answer body = record {
  id = record { rank = s.me; number = s.next };
  kind = kind;
  prio = prio;
  target = target;
  answer = answer;
  common = s.batch;
  body = body;
}

-- the unit of a put
abbrev pub unit_of : ClientModel → Call → Option Unit
unit_of s (calls_to.Put kind prio target answer body) = Some (unit_put s kind prio target answer body)
unit_of s _ = None

-- Reserve.

-- a reserve: the home is asked, unless an end was told
abbrev pub reserve : ClientModel → Option (List WorkType) → Option End → ClientResponse
reserve s types (Some end) = over s (enters.Asked s.me s.next types) (calls_to.Reserve types) end
reserve s types None =
    asks s (enters.Asked s.me s.next types) (home s.config s.me) (tells.Reserve s.next types) (waits_for.Reserve s.next types)

-- Try.

-- the server that looks after this number of servers has, of which the home is the first
abbrev pub looks_at : ClientModel → ℕ → Server
looks_at s tried = behind s.config (home s.config s.me) tried

-- a try: the home is asked first, unless an end was told
abbrev pub look : ClientModel → Option (List WorkType) → Option End → ClientResponse
look s types (Some end) = over s (enters.Tried s.me s.next types) (calls_to.Try types) end
look s types None = asks s (enters.Tried s.me s.next types) (looks_at s 0) (tells.Try s.next types) (waits_for.Try s.next types 0)

-- Fetch.

-- the note of this unit, where the rank holds it
abbrev pub held : ClientModel → UnitId → Option UnitNote
held s id = find (λ n. same_unit n.id id) s.handles

-- its server is asked for the bytes
abbrev pub fetched : ClientModel → UnitId → UnitNote → ClientResponse
fetched s id note =
    asks (record s { handles = filter (λ n. not (same_unit n.id id)) s.handles }) (enters.Fetching s.me s.next id) note.server
    (tells.Fetch s.next id)
    (waits_for.Fetch s.next note)

-- a fetch of a unit that is held
abbrev pub fetch : ClientModel → UnitId → Option UnitNote → Option ClientResponse
fetch s id None = None
fetch s id (Some note) = Some (fetched s id note)

-- A batch begins.

-- its common part is offered to the first server, as a unit for any is
abbrev pub keep : ClientModel → List ℕ → Option End → ClientResponse
keep s common (Some end) = over (record s { puts = s.puts + 1 }) (enters.Keeping s.me s.next common) (calls_to.BeginBatch common) end
keep s common None =
    asks (record s { puts = s.puts + 1 }) (enters.Keeping s.me s.next common) (first_server s Any) (tells.KeepCommon s.next common)
    (waits_for.Keep s.next common (first_server s Any) 0)

-- It ends.

-- the server of its common part is told how many of its units were accepted
abbrev pub closing : ClientModel → CommonRef → ClientResponse
closing s batch =
    asks s (enters.Closing s.me s.next) batch.server (tells.CloseBatch s.next batch.batch s.accepted) (waits_for.Close s.next batch)

-- the end of the batch that is going on
abbrev pub close : ClientModel → Option CommonRef → Option ClientResponse
close s None = None
close s (Some batch) = Some (closing s batch)

-- Count.

-- the home is asked
abbrev pub count : ClientModel → WorkType → ClientResponse
count s kind =
    asks s (enters.Counting s.me s.next kind) (home s.config s.me) (tells.Count s.next kind) (waits_for.Count s.next kind)

-- The problem is done.

-- the home is told, and then the other servers, in ring order; each end that was told before changes nothing
abbrev pub set_done : ClientModel → ClientResponse
set_done s = asks s (enters.Done s.me s.next) (looks_at s 0) (tells.Done s.next) (waits_for.SetDone s.next 0)

-- Finish.

-- Finish to a server
abbrev pub farewell : ℕ → ClientSaying
farewell server = record { to = record { 0 = server }; message = tells.Finish }

-- each server is told, from 0 on
abbrev pub finish : ClientModel → ClientResponse
finish s = record {
  state = answered (record s { finished = true; next = s.next + 1 }) calls_to.Finish answers.Fine;
  says = map farewell (range_with_len 0 s.config.servers);
  entries = enters.Finished s.me s.next ∷ [];
  answer = Some answers.Fine;
}

-- A call.

-- no call is pending
abbrev pub is_idle : Pending → Bool
is_idle waits_for.Nothing = true
is_idle _ = false

-- no call is pending, and the rank has not finished
abbrev pub is_free : ClientModel → Bool
is_free s = is_idle s.pending && not s.finished

-- the rule of a call; nothing if the rank is not ready for it
abbrev pub open_call : ClientModel → Call → Option ClientResponse
open_call s (calls_to.Put kind prio target answer body) =
    if nat_le (length body) body_limit && in_ranks s.config target
    then Some (put s (unit_put s kind prio target answer body) s.end) else None
open_call s (calls_to.Reserve types) = Some (reserve s types s.end)
open_call s (calls_to.Try types) = Some (look s types s.end)
open_call s (calls_to.Fetch id) = fetch s id (held s id)
open_call s (calls_to.BeginBatch common) =
    if is_none s.batch && nat_le (length common) body_limit then Some (keep s common s.end) else None
open_call s calls_to.EndBatch = close s s.batch
open_call s (calls_to.Count kind) = Some (count s kind)
open_call s calls_to.SetDone = Some (set_done s)
open_call s calls_to.Finish = if is_none s.batch then Some (finish s) else None

-- A letter.

-- the letter answers this request, and comes from the server that was asked
abbrev pub is_for : ℕ → Server → Server → ℕ → Bool
is_for request at from to = (to == request) && (from.0 == at.0)

-- the server that is asked after this number of servers has refused
abbrev pub asked : ClientModel → Server → ℕ → Server
asked s first tried = behind s.config first tried

-- after a refusal the next server is asked, and after each has refused the unit is rejected
abbrev pub refused : ClientModel → Unit → Server → ℕ → Bool → ClientResponse
refused s unit first tried true = record {
  state = record s { pending = waits_for.Put unit first (tried + 1) };
  says = record { to = asked s first (tried + 1); message = tells.Put unit } ∷ [];
  entries = [];
  answer = None;
}
refused s unit first tried false = ends s (enters.Rejected s.me unit.id.number ∷ []) (call_of unit) answers.Rejected

-- an answer to a put
abbrev pub hear_put : ClientModel → Unit → Server → ℕ → Server → Message → Option ClientResponse
hear_put s unit first tried from (tells.Accepted to) =
    if is_for unit.id.number (asked s first tried) from to
    then Some (ends (record s { accepted = s.accepted + 1 }) [] (call_of unit) answers.Fine) else None
hear_put s unit first tried from (tells.Full to charge) =
    if is_for unit.id.number (asked s first tried) from to
    then Some (refused s unit first tried (nat_lt (tried + 1) s.config.servers)) else None
hear_put s unit first tried from (tells.Ended to end) =
    if is_for unit.id.number (asked s first tried) from to
    then Some (ends (record s { end = Some end }) [] (call_of unit) (answers.Ended end)) else None
hear_put s unit first tried from _ = None

-- the common part, if there is one, is at a server of the run
abbrev pub is_at_server : ClientModel → Option CommonRef → Bool
is_at_server s None = true
is_at_server s (Some common) = nat_lt common.server.0 s.config.servers

-- the note names a server, and so does its common part, if it has one; its unit was not granted or fetched before
abbrev pub expects_note : ClientModel → UnitNote → Bool
expects_note s note =
    nat_lt note.server.0 s.config.servers && is_at_server s note.common && not (is_granted note.id s.transcript)
    && not (is_fetched note.id s.transcript)

-- an answer to a reserve
abbrev pub hear_reserve : ClientModel → ℕ → Option (List WorkType) → Server → Message → Option ClientResponse
hear_reserve s request types from (tells.Grant to note) =
    if is_for request (home s.config s.me) from to && expects_note s note
    then Some (ends (record s { handles = s.handles ++ note ∷ [] }) [] (calls_to.Reserve types) (answers.Granted note))
    else None
hear_reserve s request types from (tells.Ended to end) =
    if is_for request (home s.config s.me) from to
    then Some (ends (record s { end = Some end }) [] (calls_to.Reserve types) (answers.Ended end))
    else None
hear_reserve s request types from _ = None

-- where a server found nothing the next one is asked, and after each has looked there is no unit now
abbrev pub looked : ClientModel → ℕ → Option (List WorkType) → ℕ → Bool → ClientResponse
looked s request types tried true = record {
  state = record s { pending = waits_for.Try request types (tried + 1) };
  says = record { to = looks_at s (tried + 1); message = tells.Try request types } ∷ [];
  entries = [];
  answer = None;
}
looked s request types tried false = ends s (enters.NoCurrent s.me request ∷ []) (calls_to.Try types) answers.NoCurrent

-- an answer to a try
abbrev pub hear_look : ClientModel → ℕ → Option (List WorkType) → ℕ → Server → Message → Option ClientResponse
hear_look s request types tried from (tells.Grant to note) =
    if is_for request (looks_at s tried) from to && expects_note s note
    then Some (ends (record s { handles = s.handles ++ note ∷ [] }) [] (calls_to.Try types) (answers.Granted note))
    else None
hear_look s request types tried from (tells.Nothing to) =
    if is_for request (looks_at s tried) from to
    then Some (looked s request types tried (nat_lt (tried + 1) s.config.servers))
    else None
hear_look s request types tried from (tells.Ended to end) =
    if is_for request (looks_at s tried) from to
    then Some (ends (record s { end = Some end }) [] (calls_to.Try types) (answers.Ended end))
    else None
hear_look s request types tried from _ = None

-- the bytes of the unit have come: all of them, or its common part is asked for
abbrev pub own_came : ClientModel → ℕ → UnitNote → List ℕ → Option CommonRef → ClientResponse
own_came s request note own None = ends s [] (calls_to.Fetch note.id) (answers.Body own)
own_came s request note own (Some common) = record {
  state = record s { pending = waits_for.Common request note common own };
  says = record { to = common.server; message = tells.FetchCommon request common.batch } ∷ [];
  entries = [];
  answer = None;
}

-- there are as many bytes as the note says
abbrev pub hear_fetch : ClientModel → ℕ → UnitNote → Server → Message → Option ClientResponse
hear_fetch s request note from (tells.Bytes to body) =
    if is_for request note.server from to && (length body == note.length) then Some (own_came s request note body note.common) else None
hear_fetch s request note from _ = None

-- and as many common bytes, which come before the unit's own
abbrev pub hear_common : ClientModel → ℕ → UnitNote → CommonRef → List ℕ → Server → Message → Option ClientResponse
hear_common s request note common own from (tells.Bytes to body) =
    if is_for request common.server from to && (length body == common.length)
    then Some (ends s [] (calls_to.Fetch note.id) (answers.Body (body ++ own))) else None
hear_common s request note common own from _ = None

-- the batch that this call began, whose common part is at the server
abbrev pub begun_batch : ClientModel → ℕ → List ℕ → Server → CommonRef
begun_batch s request common at = record { batch = record { rank = s.me; number = request }; server = at; length = length common }

-- after a refusal the next server is asked, and after each has refused the beginning is rejected
abbrev pub part_refused : ClientModel → ℕ → List ℕ → Server → ℕ → Bool → ClientResponse
part_refused s request common first tried true = record {
  state = record s { pending = waits_for.Keep request common first (tried + 1) };
  says = record { to = asked s first (tried + 1); message = tells.KeepCommon request common } ∷ [];
  entries = [];
  answer = None;
}
part_refused s request common first tried false =
    ends s (enters.Rejected s.me request ∷ []) (calls_to.BeginBatch common) answers.Rejected

-- an answer to the beginning of a batch
abbrev pub hear_keep : ClientModel → ℕ → List ℕ → Server → ℕ → Server → Message → Option ClientResponse
hear_keep s request common first tried from (tells.Accepted to) =
    if is_for request (asked s first tried) from to
    then Some (ends (record s { batch = Some (begun_batch s request common (asked s first tried)); accepted = 0 }) []
    (calls_to.BeginBatch common) answers.Fine) else None
hear_keep s request common first tried from (tells.Full to charge) =
    if is_for request (asked s first tried) from to
    then Some (part_refused s request common first tried (nat_lt (tried + 1) s.config.servers)) else None
hear_keep s request common first tried from (tells.Ended to end) =
    if is_for request (asked s first tried) from to
    then Some (ends (record s { end = Some end }) [] (calls_to.BeginBatch common) (answers.Ended end)) else None
hear_keep s request common first tried from _ = None

-- the batch has ended
abbrev pub hear_close : ClientModel → ℕ → CommonRef → Server → Message → Option ClientResponse
hear_close s request batch from (tells.Closed to) =
    if is_for request batch.server from to then Some (ends (record s { batch = None }) [] calls_to.EndBatch answers.Fine) else None
hear_close s request batch from _ = None

-- the home says how many free units it has
abbrev pub hear_count : ClientModel → ℕ → WorkType → Server → Message → Option ClientResponse
hear_count s request kind from (tells.Counted to info) =
    if is_for request (home s.config s.me) from to then Some (ends s [] (calls_to.Count kind) (answers.Info info)) else None
hear_count s request kind from _ = None

-- where a server has heard it the next one is told, and after each has heard it the call has its answer
abbrev pub told_done : ClientModel → ℕ → ℕ → Bool → ClientResponse
told_done s request tried true = record {
  state = record s { pending = waits_for.SetDone request (tried + 1) };
  says = record { to = looks_at s (tried + 1); message = tells.Done request } ∷ [];
  entries = [];
  answer = None;
}
told_done s request tried false = ends s [] calls_to.SetDone answers.Fine

-- an answer to the news that the problem is done
abbrev pub hear_done : ClientModel → ℕ → ℕ → Server → Message → Option ClientResponse
hear_done s request tried from (tells.DoneHeard to) =
    if is_for request (looks_at s tried) from to then Some (told_done s request tried (nat_lt (tried + 1) s.config.servers)) else None
hear_done s request tried from _ = None

-- the rule of a letter; nothing where the pending call does not await it
abbrev pub answer_call : ClientModel → Pending → Server → Message → Option ClientResponse
answer_call s waits_for.Nothing from message = None
answer_call s (waits_for.Put unit first tried) from message = hear_put s unit first tried from message
answer_call s (waits_for.Reserve request types) from message = hear_reserve s request types from message
answer_call s (waits_for.Try request types tried) from message = hear_look s request types tried from message
answer_call s (waits_for.Fetch request note) from message = hear_fetch s request note from message
answer_call s (waits_for.Common request note common own) from message = hear_common s request note common own from message
answer_call s (waits_for.Keep request common first tried) from message = hear_keep s request common first tried from message
answer_call s (waits_for.Close request batch) from message = hear_close s request batch from message
answer_call s (waits_for.Count request kind) from message = hear_count s request kind from message
answer_call s (waits_for.SetDone request tried) from message = hear_done s request tried from message
