-- What is left of the calls that were begun to pay for events to come: each letter under way has some, and so has each actor. A letter
-- has enough for its event, and for all that may follow it.
use Rattle.std.specs.Prelude.{ℕ, ◌+◌, ◌-◌, ◌*◌, ◌==◌, Bool, true, false, ◌&&◌, not, List, if◌then◌else◌}
use Rattle.adlb_unit.specs.declared.actors.Actor.{Actor}
use Rattle.adlb_unit.specs.declared.actors.Actor.TheVariants as by
use Rattle.adlb_unit.specs.declared.messages.Message.{Message}
use Rattle.adlb_unit.specs.declared.messages.Message.TheVariants as tells
use Rattle.adlb_unit.specs.declared.names.Server.{Server}
use Rattle.rank_client.specs.declared.pendings.Pending.{Pending}
use Rattle.rank_client.specs.declared.pendings.Pending.TheVariants as waits_for
use Rattle.rank_client.specs.State.{ClientModel}
use Rattle.server_components.specs.declared.waits.Waiting.{Waiting}
use Rattle.server_law.specs.Endings.{is_noted}
use Rattle.server_law.specs.State.{Debt, ServerModel}
use Rattle.core_run.specs.World.{World}
use Rattle.core_law.specs.Measures.{Weights, links_weight, weigh, weigh_at, weight}
use Rattle.core_law.specs.Letters.{no_rank, no_server}

-- Of a check: a token has one for each server that it has still to visit, and at its last some for the letters of the end. The most
-- is that of the first token.

-- a token pays for the visits to come
abbrev pub token_credit : ℕ → ℕ → ℕ
token_credit wave from = if wave == 1 then 8 + (15 - from) else 8 + (7 - from)

-- a check that is wanted; an activity of which no notice was given; an event that raises the activity
abbrev pub wanted : ℕ
wanted = 23

-- a server's notice
abbrev pub unnoted : ℕ
unnoted = 24

-- activity that rises
abbrev pub raising : ℕ
raising = 25

-- Of a rank that waits: a server that is still to be asked for it has the ask and the answer; a hint one such server besides. A unit
-- that becomes free brings a hint for each rank at most.

-- one server that is asked
abbrev pub asking : ℕ
asking = 50

-- one hint
abbrev pub hinting : ℕ
hinting = 75

-- a unit that becomes free
abbrev pub freeing : ℕ
freeing = 2400

-- A push: its four letters, and the unit that becomes free where it comes. A put that is accepted: the unit becomes free, and a push
-- begins.

-- a push
abbrev pub pushing : ℕ
pushing = 2500

-- a put that is accepted
abbrev pub accepting : ℕ
accepting = 4900

-- the server that sent it; a token is never a rank's
abbrev pub sender : Actor → ℕ
sender (by.Server from) = from.0
sender (by.Rank from) = 0

-- what each letter pays for
abbrev pub letter_credit : Actor → Message → ℕ
letter_credit from (tells.Put unit) = 4926
letter_credit from (tells.KeepCommon request common) = 4926
letter_credit from (tells.Reserve request types) = 376
letter_credit from (tells.Try request types) = 26
letter_credit from (tells.Fetch request id) = 26
letter_credit from (tells.FetchCommon request batch) = 26
letter_credit from (tells.CloseBatch request batch accepted) = 26
letter_credit from (tells.Count request kind) = 26
letter_credit from (tells.Done request) = 26
letter_credit from tells.Finish = 25
letter_credit from (tells.Full request charge) = 4901
letter_credit from (tells.Accepted request) = 1
letter_credit from (tells.Ended request end) = 1
letter_credit from (tells.Grant request note) = 1
letter_credit from (tells.Nothing request) = 1
letter_credit from (tells.Bytes request body) = 1
letter_credit from (tells.Closed request) = 1
letter_credit from (tells.Counted request info) = 1
letter_credit from (tells.DoneHeard request) = 1
letter_credit from (tells.Ask rank request types) = 50
letter_credit from (tells.AskGrant rank request note) = 25
letter_credit from (tells.AskNone rank request) = 25
letter_credit from (tells.Hint rank request) = 75
letter_credit from (tells.PushQuery id length) = 2500
letter_credit from (tells.PushYes id) = 2475
letter_credit from (tells.PushNo id) = 25
letter_credit from (tells.PushUnit unit) = 2450
letter_credit from (tells.PushCancel id) = 50
letter_credit from (tells.PushAck id) = 25
letter_credit from tells.Notice = 24
letter_credit from (tells.Token t) = token_credit t.wave (sender from)
letter_credit from (tells.Failed t why) = 1
letter_credit from tells.Exhaust = 25
letter_credit from tells.Shutdown = 1
letter_credit from _ = 0

-- A server.

-- a rank that waits: its answer, and the servers still to be asked
abbrev pub asks_credit : List Server → ℕ
asks_credit to_ask = weigh (λ (t : Server). 50) to_ask

-- a rank that waits pays for the servers still to be asked
abbrev pub waits_credit : Waiting → ℕ
waits_credit e = 1 + asks_credit e.to_ask

-- an acknowledgement that the event has still to say
abbrev pub debt_credit : Debt → ℕ
debt_credit d = 25

-- a number if the test passes, and otherwise 0
abbrev pub if_so : Bool → ℕ → ℕ
if_so true n = n
if_so false n = 0

-- server 0 has yet to find that all work is used up, which it tells to each other server
abbrev pub unfound_credit : ℕ → Bool → ℕ
unfound_credit me exhausted = if_so ((me == 0) && not exhausted) 175

-- what a server has left to pay with
abbrev pub server_credit : ServerModel → ℕ
server_credit s =
    if_so (not (is_noted s.kept.noted s.activity)) 24 + if_so s.kept.ring.wanted 23 + unfound_credit s.me.0 s.kept.exhausted
    + weigh waits_credit s.kept.parked.waiting + weight debt_credit s.kept.owed

-- A rank: the letters to the servers that it has still to try, look at, or tell; and the common part that it has still to fetch.

-- what the servers still to be tried cost
abbrev pub tries_credit : ℕ → ℕ
tries_credit tried = (7 - tried) * 26

-- what a pending call has left to pay with
abbrev pub pending_credit : Pending → ℕ
pending_credit (waits_for.Put unit first tried) = tries_credit tried
pending_credit (waits_for.Keep request common first tried) = tries_credit tried
pending_credit (waits_for.Try request types tried) = tries_credit tried
pending_credit (waits_for.SetDone request tried) = tries_credit tried
pending_credit (waits_for.Fetch request note) = 26
pending_credit _ = 0

-- A world.

-- the credit of each letter, as weights
abbrev pub letters_credit : Weights
letters_credit = record {
  letter = λ from to m. letter_credit from m;
  server = no_server;
  rank = no_rank;
  server_due = no_server;
  rank_due = no_rank;
}

-- what is left to pay with in a world
unfoldable pub credit : World → ℕ
credit w =
    links_weight w.config letters_credit w.links + weigh_at (λ i s. server_credit s) w.servers
    + weigh_at (λ i (s : ClientModel). pending_credit s.pending) w.ranks
