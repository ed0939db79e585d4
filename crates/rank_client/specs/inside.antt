-- The fields of a client.
use Rattle.std.specs.Prelude.{◌≡◌, ℕ, ◌+◌, ◌<◌, ◌≤◌, List, [], ◌∷◌, ◌++◌, length, filter, not, All, IfSome, IsSome, Option, None, Some}
use Rattle.std.specs.Prelude.{Bool, false}
use Rattle.adlb_unit.specs.Ids.{same_unit}
use Rattle.adlb_unit.specs.declared.names.UnitId.{UnitId}
use Rattle.bag_ledger.specs.declared.entries.Entry.{Entry}
use Rattle.adlb_unit.specs.declared.names.CommonRef.{CommonRef}
use Rattle.adlb_unit.specs.declared.notes.UnitNote.{UnitNote}
use Rattle.std.specs.Vec.{vec_len, vec_capacity}
use Rattle.adlb_unit.specs.Limits.{body_limit, stamp_limit}
use Rattle.adlb_unit.specs.declared.configs.Config.{Config}
use Rattle.adlb_unit.specs.Targets.{home}
use Rattle.adlb_unit.specs.declared.messages.Message.{Message}
use Rattle.adlb_unit.specs.declared.messages.Message.TheVariants as tells
use Rattle.adlb_unit.specs.declared.names.Server.{Server}
use Rattle.adlb_unit.specs.declared.notes.End.{End}
use Rattle.rank_client.specs.declared.clients.ClientCore.TheInside.{Inside}
use Rattle.rank_client.specs.declared.openings.First.{First}
use Rattle.rank_client.specs.declared.openings.First.TheVariants as begins_by
use Rattle.rank_client.specs.declared.openings.Opening.{Opening}
use Rattle.rank_client.specs.declared.outcomes.Change.{Change}
use Rattle.rank_client.specs.declared.outcomes.Change.TheVariants as changes
use Rattle.rank_client.specs.declared.outcomes.Outcome.{Outcome}
use Rattle.rank_client.specs.declared.outcomes.Outcome.TheVariants as comes_to
use Rattle.rank_client.specs.declared.outcomes.Place.{Place}
use Rattle.rank_client.specs.declared.pendings.Pending.{Pending}
use Rattle.rank_client.specs.declared.pendings.Pending.TheVariants as waits_for
use Rattle.rank_client.specs.declared.rooms.Room.{Room}
use Rattle.rank_client.specs.declared.rounds.Errand.{Errand}
use Rattle.rank_client.specs.declared.rounds.Errand.TheVariants as goes_to
use Rattle.rank_client.specs.declared.rounds.Round.{Round}
use Rattle.rank_client.specs.declared.steps.ClientStep.{ClientStep}
use Rattle.rank_client.specs.Rules.{ClientResponse, answer_call, answered, asks, looked, over, part_refused, refused, told_done}
use Rattle.rank_client.specs.State.{ClientModel}
use Rattle.rank_client.specs.Step.{Made}

-- the client of its fields
abbrev pub state_of : Inside → ClientModel
state_of i = record {
  config = i.config;
  me = i.me;
  pending = i.pending;
  next = i.next;
  puts = i.puts;
  batch = i.batch;
  accepted = i.accepted;
  end = i.end;
  handles = i.handles.items;
  clock = i.clock;
  sent = i.sent.items;
  finished = i.finished;
  transcript = i.said.items;
  trouble = i.trouble;
}

-- the client with what the step sends, enters and answers
abbrev pub gives : ClientModel → ClientStep → Made
gives s x = record { state = s; sends = x.sends.items; entries = x.entries.items; answer = x.answer }

-- the note names servers of the run: that of its unit, and that of its common part, if it has one
abbrev pub IsPlaced : Config → UnitNote → Type 0
IsPlaced config note = (note.server.0 < config.servers) × IfSome note.common (λ (c : CommonRef). c.server.0 < config.servers)

-- each call, each put, each that was accepted and each letter to a server took an event
pub record IsSound (s : ClientModel) : Type 0 where
  pub me : s.me.0 < s.config.ranks
  pub servers : length s.sent ≡ s.config.servers
  pub sent : All (λ n. n ≤ s.clock) s.sent
  pub next : s.next ≤ s.clock
  pub puts : s.puts ≤ s.clock
  pub accepted : s.accepted ≤ s.clock
  pub said : length s.transcript ≤ s.clock
  pub clock : s.clock < stamp_limit
  pub notes : All (IsPlaced s.config) s.handles
  pub batch : IfSome s.batch (λ (c : CommonRef). c.server.0 < s.config.servers)

-- for how many more calls the transcript has room for ids: Finish, and the pending one
abbrev pub awaited : Pending → ℕ
awaited waits_for.Nothing = 1
awaited _ = 2

-- room to ask each server after the one that is being asked, after this number of servers were
abbrev pub HasTries : Config → Room → ℕ → Type 0
HasTries config room tried = vec_len room.tries + tried + 1 ≡ config.servers

-- room for what the rest of the pending call may offer
abbrev pub HasRoom : Config → Room → Pending → Type 0
HasRoom config room waits_for.Nothing = Prim.Unit {0}
HasRoom config room (waits_for.Put unit first tried) =
    HasTries config room tried × All (λ body. body ≡ unit.body) room.tries.items × (first.0 < config.servers)
HasRoom config room (waits_for.Reserve request types) = Prim.Unit {0}
HasRoom config room (waits_for.Try request types tried) = HasTries config room tried
HasRoom config room (waits_for.Fetch request note) = IsPlaced config note
HasRoom config room (waits_for.Common request note common own) = Prim.Unit {0}
HasRoom config room (waits_for.Keep request common first tried) =
    HasTries config room tried × All (λ body. body ≡ common) room.tries.items × (first.0 < config.servers) × (length common ≤ body_limit)
HasRoom config room (waits_for.Close request batch) = Prim.Unit {0}
HasRoom config room (waits_for.Count request kind) = Prim.Unit {0}
HasRoom config room (waits_for.SetDone request tried) = HasTries config room tried

-- room for the ids of the calls to come, each of which names two units at most, and for the letters of Finish
pub record CanFinish (i : Inside) : Type 0 where
  pub ids : awaited i.pending + awaited i.pending ≤ i.said.ids
  pub letters : i.config.servers ≤ vec_capacity i.farewell
  pub unsent : i.farewell.items ≡ []

-- while a call is pending there is room for the note of one more unit
pub record IsInside (i : Inside) : Type 0 where
  pub sound : IsSound (state_of i)
  pub room : HasRoom i.config i.room i.pending
  pub space : vec_len i.handles + awaited i.pending ≤ vec_capacity i.handles + 1
  pub finish : i.finished ≡ false → CanFinish i

-- in an event in which no call has begun or ended, and no letter was sent
pub record IsFresh (s : ClientModel) : Type 0 where
  pub sent : All (λ n. n < s.clock) s.sent
  pub next : s.next < s.clock
  pub puts : s.puts < s.clock
  pub accepted : s.accepted < s.clock
  pub said : length s.transcript < s.clock

-- What a letter makes of the pending call.

-- what its answer changes
abbrev pub batch_after : Option CommonRef → Change → Option CommonRef
batch_after batch (changes.Begun part) = Some part
batch_after batch changes.Closed = None
batch_after batch _ = batch

-- how many puts are accepted after a change
abbrev pub accepted_after : ℕ → Change → ℕ
accepted_after accepted changes.Accepted = accepted + 1
accepted_after accepted (changes.Begun part) = 0
accepted_after accepted _ = accepted

-- the end that was told after a change
abbrev pub end_after : Option End → Change → Option End
end_after end (changes.Ended told) = Some told
end_after end _ = end

-- the units that are held after a change
abbrev pub handles_after : List UnitNote → Change → List UnitNote
handles_after handles (changes.Granted note) = handles ++ note ∷ []
handles_after handles _ = handles

-- the client after a change
abbrev pub changed : ClientModel → Change → ClientModel
changed s change = record s {
  batch = batch_after s.batch change;
  accepted = accepted_after s.accepted change;
  end = end_after s.end change;
  handles = handles_after s.handles change;
}

-- the list of an entry, if it is one
abbrev pub entered : Option Entry → List Entry
entered None = []
entered (Some entry) = entry ∷ []

-- the response that it is, if it is one
abbrev pub response_of : ClientModel → Outcome → Option ClientResponse
response_of s (comes_to.Ends change entry said) =
    Some (record {
      state = answered (changed s change) said.call said.answer;
      says = [];
      entries = entered entry;
      answer = Some said.answer;
    })
response_of s (comes_to.Waits pending to message) =
    Some (record { state = record s { pending = pending }; says = record { to = to; message = message } ∷ []; entries = []; answer = None })
response_of s comes_to.Strange = None

-- it names servers of the run, and has the room that it needs
abbrev pub IsFit : Config → Change → Type 0
IsFit config (changes.Granted note) = IsPlaced config note
IsFit config (changes.Begun part) = part.server.0 < config.servers
IsFit config _ = Prim.Unit {0}

-- what comes of a letter is within the run, and there is room for it
abbrev pub Fits : Config → Room → Outcome → Type 0
Fits config room (comes_to.Ends change entry said) = IsFit config change
Fits config room (comes_to.Waits pending to message) = HasRoom config room pending × (to.0 < config.servers)
Fits config room comes_to.Strange = Prim.Unit {0}

-- a client at this place, of which the call is pending and which awaits the letter, hears it so
abbrev pub Hears : Place → Pending → Message → Room → Outcome → Type 0
Hears place pending message room outcome =
    (s : ClientModel) (from : Server) → s.config ≡ place.config → s.me ≡ place.me → IsSome (answer_call s pending from message)
    → (answer_call s pending from message ≡ response_of s outcome) × Fits place.config room outcome

-- What goes to one server after the other.

-- the round at the next server
abbrev pub later : Round → Round
later round = record { first = round.first; tried = round.tried + 1 }

-- it begins at a server of the run; of a try, and of that the problem is done, at the rank's home
abbrev pub Starts : Place → Round → Errand → Type 0
Starts place round (goes_to.Put unit) = round.first.0 < place.config.servers
Starts place round (goes_to.Keep request common) = round.first.0 < place.config.servers
Starts place round (goes_to.Try request types) = round.first ≡ home place.config place.me
Starts place round (goes_to.SetDone request) = round.first ≡ home place.config place.me

-- what is pending while the round is there
abbrev pub pending_at : Round → Errand → Pending
pending_at round (goes_to.Put unit) = waits_for.Put unit round.first round.tried
pending_at round (goes_to.Keep request common) = waits_for.Keep request common round.first round.tried
pending_at round (goes_to.Try request types) = waits_for.Try request types round.tried
pending_at round (goes_to.SetDone request) = waits_for.SetDone request round.tried

-- what each server is asked, and the bytes that it is offered, if any
abbrev pub message_of : Errand → Message
message_of (goes_to.Put unit) = tells.Put unit
message_of (goes_to.Keep request common) = tells.KeepCommon request common
message_of (goes_to.Try request types) = tells.Try request types
message_of (goes_to.SetDone request) = tells.Done request

-- the bytes are those that the errand offers
abbrev pub IsOffer : Errand → List ℕ → Type 0
IsOffer (goes_to.Put unit) body = body ≡ unit.body
IsOffer (goes_to.Keep request common) body = body ≡ common
IsOffer _ body = Prim.Unit {0}

-- a common part has at most as many bytes as a batch can have
abbrev pub IsShort : Errand → Type 0
IsShort (goes_to.Keep request common) = length common ≤ body_limit
IsShort _ = Prim.Unit {0}

-- a server has refused, found nothing or heard it; there is a next one, or none
abbrev pub passed : ClientModel → Round → Errand → Bool → ClientResponse
passed s round (goes_to.Put unit) more = refused s unit round.first round.tried more
passed s round (goes_to.Keep request common) more = part_refused s request common round.first round.tried more
passed s round (goes_to.Try request types) more = looked s request types round.tried more
passed s round (goes_to.SetDone request) more = told_done s request round.tried more

-- What begins a call.

-- the notes that are held, but for this one
abbrev pub unspent : Option UnitId → List UnitNote → List UnitNote
unspent None handles = handles
unspent (Some id) handles = filter (λ n. not (same_unit n.id id)) handles

-- the response that it is
abbrev pub response_to : ClientModel → Entry → First → ClientResponse
response_to s entry (begins_by.Asks to message pending room) = asks s entry to message pending
response_to s entry (begins_by.Over call end) = over s entry call end

-- the answer to a call that is opened
abbrev pub opened : ClientModel → Opening → ClientResponse
opened s opening = response_to (record s { puts = opening.puts; handles = unspent opening.spent s.handles }) opening.entry opening.first

-- it counts one put at most, names a server of the run, and has the room that it needs
abbrev pub HasFirst : Config → First → Type 0
HasFirst config (begins_by.Asks to message pending room) = (to.0 < config.servers) × HasRoom config room pending
HasFirst config (begins_by.Over call end) = Prim.Unit {0}

-- the call's puts and its first letter are within their bounds
abbrev pub Opens : ClientModel → Opening → Type 0
Opens s opening = (opening.puts ≤ s.puts + 1) × HasFirst s.config opening.first
