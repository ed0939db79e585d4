-- For which rank of the bag a client stands.
use Rattle.std.specs.Prelude.{ℕ, ◌+◌, ◌≡◌, Bool, true, false, List, [], ◌∷◌, ◌++◌, map, Option, None, Some, IfSome, IsTrue, All}
use Rattle.std.specs.List.{range_with_len}
use Rattle.adlb_unit.specs.Targets.{home}
use Rattle.adlb_unit.specs.declared.configs.Config.{Config}
use Rattle.adlb_unit.specs.declared.messages.Message.{Message}
use Rattle.adlb_unit.specs.declared.messages.Message.TheVariants as tells
use Rattle.adlb_unit.specs.declared.names.CommonRef.{CommonRef}
use Rattle.adlb_unit.specs.declared.names.Rank.{Rank}
use Rattle.adlb_unit.specs.declared.names.Server.{Server}
use Rattle.adlb_unit.specs.declared.names.WorkType.{WorkType}
use Rattle.adlb_unit.specs.declared.notes.End.{End}
use Rattle.adlb_unit.specs.declared.notes.UnitNote.{UnitNote}
use Rattle.adlb_unit.specs.declared.units.Unit.{Unit}
use Rattle.bag_ledger.specs.declared.entries.Answer.{Answer}
use Rattle.bag_ledger.specs.declared.entries.Answer.TheVariants as answers
use Rattle.bag_ledger.specs.declared.entries.Call.TheVariants as calls_to
use Rattle.bag_ledger.specs.declared.entries.Said.{Said}
use Rattle.bag_ledger.specs.declared.states.Placed.{Placed}
use Rattle.bag_ledger.specs.declared.states.RankState.{RankState}
use Rattle.bag_ledger.specs.declared.states.Status.TheVariants as does
use Rattle.bag_ledger.specs.declared.states.UnitPlace.TheVariants.{Pinned}
use Rattle.bag_ledger.specs.Bag.{Bag, part_of, rank_at, unit_of}
use Rattle.bag_ledger.specs.declared.states.Part.{Part}
use Rattle.bag_ledger.specs.Runs.{IsRunWhere, calls_from}
use Rattle.bag_ledger.specs.Steps.{Stands, has_cause}
use Rattle.rank_client.specs.declared.pendings.Pending.{Pending}
use Rattle.rank_client.specs.declared.pendings.Pending.TheVariants as waits_for
use Rattle.rank_client.specs.Calls.{plus}
use Rattle.rank_client.specs.Rules.{asked, begun_batch, call_of}
use Rattle.rank_client.specs.State.{ClientModel}
use Rattle.adlb_unit.specs.Ring.{behind}
use Rattle.rank_client.specs.Step.{Made}

-- The rank in the bag while a call is pending: its letter goes to a server or waits there (None), or this answer comes back.

-- the rank of the bag between calls
abbrev pub running : ClientModel → RankState
running s = record { status = does.Running; declined = []; next = s.next; batch = s.batch; end = s.end }

-- the first servers in ring order, of this number
abbrev pub ring_from : Config → Server → ℕ → List Server
ring_from config first n = map (behind config first) (range_with_len 0 n)

-- the rank in a put that some servers refused
abbrev pub putting : ClientModel → Unit → Server → ℕ → RankState
putting s unit first tried = record (running s) { status = does.Putting unit; declined = ring_from s.config first tried }

-- the rank in a put, with the answer that comes
abbrev pub in_put : ClientModel → Unit → Server → ℕ → Option Message → RankState
in_put s unit first tried None = putting s unit first tried
in_put s unit first tried (Some (tells.Full to charge)) = putting s unit first (tried + 1)
in_put s unit first tried (Some (tells.Ended to end)) = record (running s) { end = Some end }
in_put s unit first tried (Some _) = running s

-- the rank in a reserve, with the answer that comes
abbrev pub in_reserve : ClientModel → ℕ → Option (List WorkType) → Option Message → RankState
in_reserve s request types None = record (running s) { status = does.Asking request types }
in_reserve s request types (Some (tells.Ended to end)) = record (running s) { end = Some end }
in_reserve s request types (Some _) = running s

-- the rank in a try that found nothing at some servers
abbrev pub trying : ClientModel → ℕ → Option (List WorkType) → ℕ → RankState
trying s request types tried =
    record (running s) { status = does.Trying request types; declined = ring_from s.config (home s.config s.me) tried }

-- the rank in a try, with the answer that comes
abbrev pub in_try : ClientModel → ℕ → Option (List WorkType) → ℕ → Option Message → RankState
in_try s request types tried None = trying s request types tried
in_try s request types tried (Some (tells.Nothing to)) = trying s request types (tried + 1)
in_try s request types tried (Some (tells.Ended to end)) = record (running s) { end = Some end }
in_try s request types tried (Some _) = running s

-- where the own bytes come: the fetch goes on if the unit has a common part
abbrev pub own_fetched : ClientModel → ℕ → UnitNote → Option CommonRef → RankState
own_fetched s request note None = running s
own_fetched s request note (Some common) = record (running s) { status = does.Fetching request note.id true }

-- the rank in a fetch, with the answer that comes
abbrev pub in_fetch : ClientModel → ℕ → UnitNote → Option Message → RankState
in_fetch s request note None = record (running s) { status = does.Fetching request note.id false }
in_fetch s request note (Some _) = own_fetched s request note note.common

-- the rank in the fetch of a common part, with the answer that comes
abbrev pub in_common : ClientModel → ℕ → UnitNote → Option Message → RankState
in_common s request note None = record (running s) { status = does.Fetching request note.id true }
in_common s request note (Some _) = running s

-- the rank at the beginning of a batch that some servers refused
abbrev pub keeping : ClientModel → ℕ → List ℕ → Server → ℕ → RankState
keeping s request common first tried =
    record (running s) { status = does.Keeping request common; declined = ring_from s.config first tried }

-- the rank at the beginning of a batch, with the answer that comes
abbrev pub in_keep : ClientModel → ℕ → List ℕ → Server → ℕ → Option Message → RankState
in_keep s request common first tried None = keeping s request common first tried
in_keep s request common first tried (Some (tells.Full to charge)) = keeping s request common first (tried + 1)
in_keep s request common first tried (Some (tells.Ended to end)) = record (running s) { end = Some end }
in_keep s request common first tried (Some _) =
    record (running s) { batch = Some (begun_batch s request common (asked s first tried)) }

-- the rank at the end of a batch, with the answer that comes
abbrev pub in_close : ClientModel → ℕ → Option Message → RankState
in_close s request None = record (running s) { status = does.Closing request }
in_close s request (Some _) = record (running s) { batch = None }

-- the rank in a count, with the answer that comes
abbrev pub in_count : ClientModel → ℕ → WorkType → Option Message → RankState
in_count s request kind None = record (running s) { status = does.Counting request kind }
in_count s request kind (Some _) = running s

-- the rank in its pending call, with the answer that comes
abbrev pub in_call : ClientModel → Pending → Option Message → RankState
in_call s waits_for.Nothing coming = running s
in_call s (waits_for.Put unit first tried) coming = in_put s unit first tried coming
in_call s (waits_for.Reserve request types) coming = in_reserve s request types coming
in_call s (waits_for.Try request types tried) coming = in_try s request types tried coming
in_call s (waits_for.Fetch request note) coming = in_fetch s request note coming
in_call s (waits_for.Common request note common own) coming = in_common s request note coming
in_call s (waits_for.Keep request common first tried) coming = in_keep s request common first tried coming
in_call s (waits_for.Close request batch) coming = in_close s request coming
in_call s (waits_for.Count request kind) coming = in_count s request kind coming
in_call s (waits_for.SetDone request tried) coming = running s

-- the rank of the bag, whether it has finished or not
abbrev pub rank_of : ClientModel → Bool → Option Message → RankState
rank_of s true coming = record (running s) { status = does.Finished }
rank_of s false coming = in_call s s.pending coming

-- What the ledger has and the transcript has not: the pending call, where its answer comes back.

-- the answer to a put that comes
abbrev pub put_coming : Message → Option Answer
put_coming (tells.Accepted to) = Some answers.Fine
put_coming (tells.Ended to end) = Some (answers.Ended end)
put_coming _ = None

-- of a reserve and of a try
abbrev pub reserve_coming : Message → Option Answer
reserve_coming (tells.Grant to note) = Some (answers.Granted note)
reserve_coming (tells.Ended to end) = Some (answers.Ended end)
reserve_coming _ = None

-- own bytes that come are all only where there is no common part
abbrev pub fetch_coming : Option CommonRef → Message → Option Answer
fetch_coming None (tells.Bytes to body) = Some (answers.Body body)
fetch_coming common m = None

-- the answer to the fetch of a common part that comes
abbrev pub common_coming : List ℕ → Message → Option Answer
common_coming own (tells.Bytes to body) = Some (answers.Body (body ++ own))
common_coming own _ = None

-- the answer to the end of a batch that comes
abbrev pub close_coming : Message → Option Answer
close_coming (tells.Closed to) = Some answers.Fine
close_coming _ = None

-- the answer to a count that comes
abbrev pub count_coming : Message → Option Answer
count_coming (tells.Counted to info) = Some (answers.Info info)
count_coming _ = None

-- the transcript and then that call; the ledger has that the problem is done, and so the answer, as soon as the call begins
abbrev pub said : ClientModel → Pending → Option Message → List Said
said s (waits_for.SetDone request tried) coming = plus s.transcript calls_to.SetDone (Some answers.Fine)
said s pending None = s.transcript
said s waits_for.Nothing (Some m) = s.transcript
said s (waits_for.Put unit first tried) (Some m) = plus s.transcript (call_of unit) (put_coming m)
said s (waits_for.Reserve request types) (Some m) = plus s.transcript (calls_to.Reserve types) (reserve_coming m)
said s (waits_for.Try request types tried) (Some m) = plus s.transcript (calls_to.Try types) (reserve_coming m)
said s (waits_for.Fetch request note) (Some m) = plus s.transcript (calls_to.Fetch note.id) (fetch_coming note.common m)
said s (waits_for.Common request note common own) (Some m) = plus s.transcript (calls_to.Fetch note.id) (common_coming own m)
said s (waits_for.Keep request common first tried) (Some m) = plus s.transcript (calls_to.BeginBatch common) (put_coming m)
said s (waits_for.Close request batch) (Some m) = plus s.transcript calls_to.EndBatch (close_coming m)
said s (waits_for.Count request kind) (Some m) = plus s.transcript (calls_to.Count kind) (count_coming m)

-- The units that the rank holds: those of its handles, one that is granted by an answer which comes back, and one that is asked for.

-- the note that comes, or that is being fetched
abbrev pub note_coming : Pending → Option Message → List UnitNote
note_coming (waits_for.Reserve request types) (Some (tells.Grant to note)) = note ∷ []
note_coming (waits_for.Try request types tried) (Some (tells.Grant to note)) = note ∷ []
note_coming (waits_for.Fetch request note) None = note ∷ []
note_coming pending coming = []

-- the notes that the rank has in the bag
abbrev pub holds : ClientModel → Option Message → List UnitNote
holds s coming = s.handles ++ note_coming s.pending coming

-- the unit is pinned to the rank at the server that the note names
abbrev pub IsHeld : Bag → Rank → UnitNote → Type 0
IsHeld b rank note = (u : Placed) × Stands b note.id u (Pinned note.server rank)

-- an end that was told has its cause
abbrev pub IsCaused : Bag → Option End → Type 0
IsCaused b end = IfSome end (λ e. IsTrue (has_cause b e))

-- the common bytes of this unit are awaited; these are its own
abbrev pub IsOwed : Bag → UnitNote → CommonRef → List ℕ → Type 0
IsOwed b note common own =
    (u : Placed) × (unit_of b note.id ≡ Some u) × (u.unit.common ≡ Some common) × (u.unit.body ≡ own)

-- also while the own bytes come of a unit that has a common part; and the bag knows that the problem is done
abbrev pub IsOwedIn : Bag → Pending → Option Message → Type 0
IsOwedIn b (waits_for.Fetch request note) (Some (tells.Bytes to own)) =
    (common : CommonRef) → note.common ≡ Some common → IsOwed b note common own
IsOwedIn b (waits_for.Common request note common own) coming = IsOwed b note common own
IsOwedIn b (waits_for.SetDone request tried) coming = b.done ≡ true
IsOwedIn b pending coming = Prim.Unit {0}

-- Units of the batch that is going on: how many were accepted, also by an answer which comes back.

-- the units accepted in a batch after an answer to a put
abbrev pub put_leaves : ℕ → Message → ℕ
put_leaves n (tells.Accepted to) = n + 1
put_leaves n _ = n

-- none is accepted yet after a batch was begun
abbrev pub keep_leaves : ℕ → Message → ℕ
keep_leaves n (tells.Accepted to) = 0
keep_leaves n _ = n

-- the units accepted in the batch, with the answer that comes
abbrev pub accepted_by : ClientModel → Pending → Option Message → ℕ
accepted_by s (waits_for.Put unit first tried) (Some m) = put_leaves s.accepted m
accepted_by s (waits_for.Keep request common first tried) (Some m) = keep_leaves s.accepted m
accepted_by s pending coming = s.accepted

-- this number of units of the rank's batch was accepted
abbrev pub HasAccepted : Bag → Option CommonRef → ℕ → Type 0
HasAccepted b None n = Prim.Unit {0}
HasAccepted b (Some batch) n = (p : Part) × (part_of b batch.batch ≡ Some p) × (p.accepted ≡ n)

-- the client stands for its rank of the bag
pub record ClientAgrees (s : ClientModel) (coming : Option Message) (b : Bag) : Type 0 where
  pub rank : rank_at b s.me ≡ Some (rank_of s s.finished coming)
  pub servers : b.servers ≡ s.config.servers
  pub caused : IsCaused b (rank_of s s.finished coming).end
  pub held : All (IsHeld b s.me) (holds s coming)
  pub owed : IsOwedIn b s.pending coming
  pub accepted : HasAccepted b (rank_of s s.finished coming).batch (accepted_by s s.pending coming)

-- the entries of the step are steps of the bag, and the client stands for its rank afterwards. Its transcript, with its pending call
-- where that has its answer in the ledger, is what the ledger says of the rank. Whatever is asked where exhaustion is found
abbrev pub Follows : (Bag → Bool) → ClientModel → Option Message → Bag → Made → Type 0
Follows found s coming b x =
    (next : Bag) × IsRunWhere found b x.entries next × ClientAgrees x.state None next
    × (said x.state x.state.pending None ≡ said s s.pending coming ++ calls_from b x.entries s.me)
