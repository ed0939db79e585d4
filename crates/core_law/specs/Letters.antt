-- Letters of a rank's pending call, and its Finish letters, as weights: what is so at every moment of a run.
use Rattle.std.specs.Prelude.{ℕ, ◌+◌, ◌==◌, Bool, true, false, ◌&&◌, ◌||◌, not, nat_lt, Option, None, Some, if◌then◌else◌}
use Rattle.adlb_unit.specs.declared.actors.Actor.{Actor}
use Rattle.adlb_unit.specs.declared.actors.Actor.TheVariants as by
use Rattle.adlb_unit.specs.declared.messages.Message.{Message}
use Rattle.adlb_unit.specs.declared.messages.Message.TheVariants as tells
use Rattle.adlb_unit.specs.declared.names.Rank.{Rank}
use Rattle.adlb_unit.specs.declared.configs.Config.{Config}
use Rattle.adlb_unit.specs.declared.names.Server.{Server}
use Rattle.adlb_unit.specs.Kinds.{is_of_rank, is_to_rank}
use Rattle.adlb_unit.specs.Ring.{behind}
use Rattle.rank_client.specs.Rules.{is_idle}
use Rattle.rank_client.specs.State.{ClientModel}
use Rattle.server_components.specs.declared.waits.Waiting.{Waiting}
use Rattle.server_law.specs.State.{Kept, is_finished, is_home}
use Rattle.core_law.specs.Measures.{Balance, Weights}

-- 1 if the test passes, and otherwise 0
abbrev pub one : Bool → ℕ
one true = 1
one false = 0

-- servers weigh nothing
abbrev pub no_server : ℕ → Kept → ℕ
no_server place k = 0

-- ranks that wait weigh nothing
abbrev pub no_waiting : ℕ → Waiting → ℕ
no_waiting place e = 0

-- an idle rank weighs so much; one for which a server was asked weighs nothing
abbrev pub if_idle : Option Server → ℕ → ℕ
if_idle None n = n
if_idle (Some t) n = 0

-- ranks weigh nothing
abbrev pub no_rank : ℕ → ClientModel → ℕ
no_rank place s = 0

-- what is weighed of this rank alone
abbrev pub at_rank : Rank → (ClientModel → ℕ) → ℕ → ClientModel → ℕ
at_rank rank f place s = if place == rank.0 then f s else 0

-- Finish: a rank's letter to a server, or that the server handled it, is as often there as the rank has finished.

-- the letter is Finish
abbrev pub is_finish : Message → Bool
is_finish tells.Finish = true
is_finish _ = false

-- 1 for the rank's Finish to the server
abbrev pub finish_letter : Rank → Server → Actor → Actor → Message → ℕ
finish_letter rank server (by.Rank from) (by.Server to) m = one (is_finish m && ((from.0 == rank.0) && (to.0 == server.0)))
finish_letter rank server (by.Rank from) (by.Rank to) m = 0
finish_letter rank server (by.Server from) to m = 0

-- 1 if the server has handled the rank's Finish
abbrev pub finish_handled : Rank → Server → ℕ → Kept → ℕ
finish_handled rank server place k = if place == server.0 then one (is_finished k rank) else 0

-- the rank's Finish to the server: under way, or handled
abbrev pub finishes : Rank → Server → Weights
finishes rank server = record {
  letter = finish_letter rank server;
  server = finish_handled rank server;
  rank = no_rank;
  server_due = no_server;
  rank_due = at_rank rank (λ s. one s.finished);
}

-- While a call is pending, exactly one of four is there: its request, an answer to it, a letter between servers about it, or a rank that
-- waits idle. Otherwise there is not one.

-- a rank says it, and awaits an answer
abbrev pub is_request : Message → Bool
is_request tells.Finish = false
is_request (tells.Gone trouble) = false
is_request m = is_of_rank m

-- a server asks another for this rank, or answers
abbrev pub remote_letter : Rank → Message → ℕ
remote_letter rank (tells.Ask of request types) = one (of.0 == rank.0)
remote_letter rank (tells.AskGrant of request note) = one (of.0 == rank.0)
remote_letter rank (tells.AskNone of request) = one (of.0 == rank.0)
remote_letter rank _ = 0

-- 1 for a letter of the rank's call
abbrev pub call_letter : Rank → Actor → Actor → Message → ℕ
call_letter rank (by.Rank from) (by.Server to) m = one (is_request m && (from.0 == rank.0))
call_letter rank (by.Rank from) (by.Rank to) m = 0
call_letter rank (by.Server from) (by.Rank to) m = one (to.0 == rank.0)
call_letter rank (by.Server from) (by.Server to) m = remote_letter rank m

-- 1 for the rank if it waits idle
abbrev pub call_waits : Rank → ℕ → Waiting → ℕ
call_waits rank place e = if_idle e.asked (one (e.wish.rank.0 == rank.0))

-- one thing for each pending call of the rank
abbrev pub one_letter : Rank → Balance
one_letter rank = record {
  letter = call_letter rank;
  waits = call_waits rank;
  waits_due = no_waiting;
  rank = no_rank;
  rank_due = at_rank rank (λ s. one (not (is_idle s.pending)));
}

-- Those of one call, by its number: `next` is the number after it.

-- the request that the message makes or answers
abbrev pub request_of : Message → ℕ
request_of (tells.Put unit) = unit.id.number
request_of (tells.Reserve request types) = request
request_of (tells.Try request types) = request
request_of (tells.Fetch request id) = request
request_of (tells.FetchCommon request batch) = request
request_of (tells.KeepCommon request common) = request
request_of (tells.CloseBatch request batch accepted) = request
request_of (tells.Count request kind) = request
request_of (tells.Done request) = request
request_of (tells.Accepted request) = request
request_of (tells.Full request charge) = request
request_of (tells.Ended request end) = request
request_of (tells.Grant request note) = request
request_of (tells.Nothing request) = request
request_of (tells.Bytes request body) = request
request_of (tells.Closed request) = request
request_of (tells.Counted request info) = request
request_of (tells.DoneHeard request) = request
request_of (tells.Ask rank request types) = request
request_of (tells.AskGrant rank request note) = request
request_of (tells.AskNone rank request) = request
request_of _ = 0

-- 1 for a letter between servers about the rank's call of this number
abbrev pub numbered_remote : Rank → ℕ → Message → ℕ
numbered_remote rank next (tells.Ask of request types) = one ((of.0 == rank.0) && ((request + 1) == next))
numbered_remote rank next (tells.AskGrant of request note) = one ((of.0 == rank.0) && ((request + 1) == next))
numbered_remote rank next (tells.AskNone of request) = one ((of.0 == rank.0) && ((request + 1) == next))
numbered_remote rank next _ = 0

-- 1 for a letter about the rank's call of this number
abbrev pub numbered_letter : Rank → ℕ → Actor → Actor → Message → ℕ
numbered_letter rank next (by.Rank from) (by.Server to) m = one (is_request m && ((from.0 == rank.0) && ((request_of m + 1) == next)))
numbered_letter rank next (by.Rank from) (by.Rank to) m = 0
numbered_letter rank next (by.Server from) (by.Rank to) m = one ((to.0 == rank.0) && ((request_of m + 1) == next))
numbered_letter rank next (by.Server from) (by.Server to) m = numbered_remote rank next m

-- 1 for the rank if it waits idle in its call of this number
abbrev pub numbered_waits : Rank → ℕ → ℕ → Waiting → ℕ
numbered_waits rank next place e = if_idle e.asked (one ((e.wish.rank.0 == rank.0) && ((e.wish.request + 1) == next)))

-- one thing for the rank's call of this number, if it is pending
abbrev pub numbered : Rank → ℕ → Balance
numbered rank next = record {
  letter = numbered_letter rank next;
  waits = numbered_waits rank next;
  waits_due = no_waiting;
  rank = no_rank;
  rank_due = at_rank rank (λ s. one (not (is_idle s.pending) && (s.next == next)));
}

-- Remote letters. Between the home and the server that was asked as many are about the rank in this call as it waits at its home
-- with that server unanswered.

-- a rank for which a server was asked weighs so much; an idle one nothing
abbrev pub if_asked : Option Server → (Server → ℕ) → ℕ
if_asked None f = 0
if_asked (Some asked) f = f asked

-- 1 if the home asks the server for the rank in this call
abbrev pub about : Server → Server → Rank → ℕ → ℕ → ℕ → Rank → ℕ → ℕ
about home asked rank request at to of number =
    one (((of.0 == rank.0) && (number == request)) && ((at == home.0) && (to == asked.0)))

-- 1 for a letter between the two about the rank in this call
abbrev pub remote_about : Server → Server → Rank → ℕ → ℕ → ℕ → Message → ℕ
remote_about home asked rank request from to (tells.Ask of number types) = about home asked rank request from to of number
remote_about home asked rank request from to (tells.AskGrant of number note) = about home asked rank request to from of number
remote_about home asked rank request from to (tells.AskNone of number) = about home asked rank request to from of number
remote_about home asked rank request from to _ = 0

-- letters between the two about the rank in this call
abbrev pub remotes_letter : Server → Server → Rank → ℕ → Actor → Actor → Message → ℕ
remotes_letter home asked rank request (by.Server from) (by.Server to) m = remote_about home asked rank request from.0 to.0 m
remotes_letter home asked rank request (by.Server from) (by.Rank to) m = 0
remotes_letter home asked rank request (by.Rank from) to m = 0

-- 1 if the rank waits in this call while the server is asked
abbrev pub remotes_waits : Server → Server → Rank → ℕ → ℕ → Waiting → ℕ
remotes_waits home asked rank request place e =
    if_asked e.asked (λ to. about home asked rank request place to.0 e.wish.rank e.wish.request)

-- a letter between the two for each rank that waits while the server is asked
abbrev pub remotes : Server → Server → Rank → ℕ → Balance
remotes home asked rank request = record {
  letter = remotes_letter home asked rank request;
  waits = no_waiting;
  waits_due = remotes_waits home asked rank request;
  rank = no_rank;
  rank_due = no_rank;
}

-- Remote letters of the rank, over all servers and calls.

-- letters between servers about the rank
abbrev pub any_remote_letter : Rank → Actor → Actor → Message → ℕ
any_remote_letter rank (by.Server from) (by.Server to) m = remote_letter rank m
any_remote_letter rank (by.Server from) (by.Rank to) m = 0
any_remote_letter rank (by.Rank from) to m = 0

-- 1 if the rank waits while some server is asked
abbrev pub any_remote_waits : Rank → ℕ → Waiting → ℕ
any_remote_waits rank place e = if_asked e.asked (λ to. one (e.wish.rank.0 == rank.0))

-- a letter between servers for each rank that waits while one is asked
abbrev pub any_remote : Rank → Balance
any_remote rank = record {
  letter = any_remote_letter rank;
  waits = no_waiting;
  waits_due = any_remote_waits rank;
  rank = no_rank;
  rank_due = no_rank;
}

-- Kinds: a rank sends requests and Finish to servers, and a server answers to ranks. A rank's home asks other servers for it, and they
-- answer and hint to its home. Any server pushes to any other. Notices and failures go to server 0, a token to the next server, and a
-- verdict goes out from server 0.

-- the letter can go from the one server to the other
abbrev pub fits_between : Config → Server → Server → Message → Bool
fits_between config from to (tells.Ask rank request types) = nat_lt rank.0 config.ranks && is_home config from rank
fits_between config from to (tells.AskGrant rank request note) = nat_lt rank.0 config.ranks && is_home config to rank
fits_between config from to (tells.AskNone rank request) = nat_lt rank.0 config.ranks && is_home config to rank
fits_between config from to (tells.Hint rank request) = nat_lt rank.0 config.ranks && is_home config to rank
fits_between config from to (tells.PushQuery id length) = true
fits_between config from to (tells.PushYes id) = true
fits_between config from to (tells.PushNo id) = true
fits_between config from to (tells.PushUnit unit) = true
fits_between config from to (tells.PushCancel id) = true
fits_between config from to (tells.PushAck id) = true
fits_between config from to tells.Notice = to.0 == 0
fits_between config from to (tells.Token t) = to.0 == (behind config from 1).0
fits_between config from to (tells.Failed t why) = to.0 == 0
fits_between config from to tells.Exhaust = from.0 == 0
fits_between config from to tells.Shutdown = from.0 == 0
fits_between config from to _ = false

-- the letter can go from the one actor to the other
abbrev pub fits_link : Config → Actor → Actor → Message → Bool
fits_link config (by.Rank from) (by.Rank to) m = false
fits_link config (by.Rank from) (by.Server to) m = is_request m || is_finish m
fits_link config (by.Server from) (by.Rank to) m = is_to_rank m
fits_link config (by.Server from) (by.Server to) m = not (from.0 == to.0) && fits_between config from to m

-- 1 for a letter that cannot
abbrev pub misfit : Config → Actor → Actor → Message → ℕ
misfit config from to m = one (not (fits_link config from to m))

-- no letter is misplaced
abbrev pub kinds : Config → Weights
kinds config = record { letter = misfit config; server = no_server; rank = no_rank; server_due = no_server; rank_due = no_rank }
