-- One step of a server: the rule of its letter, and what follows each event.
use Rattle.std.specs.Prelude.{ℕ, ◌+◌, ◌==◌, nat_lt, Bool, true, false, ◌&&◌, List, Option, None, slice_set, if◌then◌else◌}
use Rattle.std.specs.Option.{option_map}
use Rattle.adlb_unit.specs.Limits.{stamp_limit}
use Rattle.adlb_unit.specs.Links.{is_within, stamp_after}
use Rattle.adlb_unit.specs.declared.actors.Actor.{Actor}
use Rattle.adlb_unit.specs.declared.actors.Actor.TheVariants as by
use Rattle.adlb_unit.specs.declared.letters.Letter.{Letter}
use Rattle.adlb_unit.specs.declared.messages.Message.{Message}
use Rattle.adlb_unit.specs.declared.messages.Message.TheVariants as tells
use Rattle.adlb_unit.specs.declared.names.Rank.{Rank}
use Rattle.adlb_unit.specs.declared.names.Server.{Server}
use Rattle.server_law.specs.Acts.{Act}
use Rattle.server_law.specs.Asks.{ask_rule, grant_rule, none_rule}
use Rattle.server_law.specs.Batches.{close_rule, keep_rule, share_rule}
use Rattle.server_law.specs.Carried.{Served, carried}
use Rattle.server_law.specs.Checks.{exhaust_rule, failed_rule, notice_rule, shutdown_rule, token_rule}
use Rattle.server_law.specs.Counts.{count_rule}
use Rattle.server_law.specs.Dones.{done_rule}
use Rattle.server_law.specs.Endings.{ends_event}
use Rattle.server_law.specs.Fetches.{fetch_rule}
use Rattle.server_law.specs.Finishes.{finish_rule}
use Rattle.server_law.specs.Hints.{hint_rule}
use Rattle.server_law.specs.Looks.{look_rule}
use Rattle.server_law.specs.Plan.{Plan, in_order}
use Rattle.server_law.specs.Pushes.{ack_rule, cancel_rule, no_rule, query_rule, unit_rule, yes_rule}
use Rattle.server_law.specs.Puts.{put_rule}
use Rattle.server_law.specs.Reserves.{reserve_rule}
use Rattle.server_law.specs.State.{ServerModel}

-- the rule of each letter of a rank, and of each of another server; none where the letter is not expected
abbrev pub rank_rule : ServerModel → Rank → Message → Option Plan
rank_rule s from (tells.Put unit) = put_rule s from unit
rank_rule s from (tells.Reserve request types) = reserve_rule s (record { rank = from; request = request; types = types })
rank_rule s from (tells.Try request types) = look_rule s (record { rank = from; request = request; types = types })
rank_rule s from (tells.Fetch request id) = fetch_rule s from request id
rank_rule s from (tells.KeepCommon request common) = keep_rule s from request common
rank_rule s from (tells.CloseBatch request batch accepted) = close_rule s from request batch accepted
rank_rule s from (tells.FetchCommon request batch) = share_rule s from request batch
rank_rule s from (tells.Count request kind) = count_rule s from request kind
rank_rule s from (tells.Done request) = done_rule s from request
rank_rule s from tells.Finish = finish_rule s from
rank_rule s from _ = None

-- the rule of a letter between servers
abbrev pub server_rule : ServerModel → Server → Message → Option Plan
server_rule s from (tells.Ask rank request types) = ask_rule s from (record { rank = rank; request = request; types = types })
server_rule s from (tells.AskGrant rank request note) = grant_rule s from rank request note
server_rule s from (tells.AskNone rank request) = none_rule s from rank request
server_rule s from (tells.Hint rank request) = hint_rule s from rank request
server_rule s from (tells.PushQuery id length) = query_rule s from id length
server_rule s from (tells.PushYes id) = yes_rule s from id
server_rule s from (tells.PushNo id) = no_rule s from id
server_rule s from (tells.PushUnit unit) = unit_rule s from unit
server_rule s from (tells.PushCancel id) = cancel_rule s from id
server_rule s from (tells.PushAck id) = ack_rule s from id
server_rule s from tells.Notice = notice_rule s from
server_rule s from (tells.Token t) = token_rule s from t
server_rule s from (tells.Failed t why) = failed_rule s from t why
server_rule s from tells.Exhaust = exhaust_rule s from
server_rule s from tells.Shutdown = shutdown_rule s from
server_rule s from _ = None

-- no server writes to itself
abbrev pub rule : ServerModel → Actor → Message → Option Plan
rule s (by.Rank from) message = rank_rule s from message
rule s (by.Server from) message = if from.0 == s.me.0 then None else server_rule s from message

-- what is done with what the actor says, act by act
abbrev pub acts : ServerModel → Actor → Message → Option (List Act)
acts s from message = option_map (in_order ends_event s) (rule s from message)

-- the stamp of the event that handles the letter
abbrev pub next_stamp : ServerModel → Letter → ℕ
next_stamp s letter = stamp_after s.clock letter

-- the letter may change what is free or who waits
abbrev pub raises : Message → Bool
raises tells.Notice = false
raises (tells.Token t) = false
raises (tells.Failed t why) = false
raises tells.Shutdown = false
raises _ = true

-- the activity after an event
abbrev pub raised : Bool → ℕ → ℕ
raised true activity = activity + 1
raised false activity = activity

-- the event has its stamp, and its letter may change what is free or who waits, or may not
abbrev pub ticked : ServerModel → ℕ → Bool → ServerModel
ticked s stamp up = record s { clock = stamp; activity = raised up s.activity }

-- the server as it handles the letter
abbrev pub at_event : ServerModel → Letter → ServerModel
at_event s letter = ticked s (next_stamp s letter) (raises letter.message)

-- nothing where the letter is not expected: from an actor of this run, with a stamp that was given, as its rule says
abbrev pub serve : ServerModel → Actor → Letter → Option Served
serve s from letter =
    if is_within s.config from && nat_lt letter.stamp stamp_limit
    then option_map (λ list. carried list (at_event s letter)) (acts (at_event s letter) from letter.message)
    else None

-- a Finish letter counts as handled where its step failed, too
abbrev pub heard_finish : List Bool → Actor → Message → List Bool
heard_finish finished (by.Rank from) tells.Finish = slice_set finished from.0 true
heard_finish finished from message = finished
