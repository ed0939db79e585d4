-- What a rank's client is between its calls, and what a call makes of it.
use Rattle.std.specs.Prelude.{ℕ, ◌≡◌, ◌<◌, true, List, Option, None, Some, Result, IfOk, IfSome, length}
use mathlib.Core.List.{IsPrefix}
use Rattle.adlb_unit.specs.Limits.{stamp_limit}
use Rattle.adlb_unit.specs.declared.notes.Trouble.{Trouble}
use Rattle.adlb_unit.specs.declared.notes.Trouble.TheVariants.{Memory, TooLong}
use Rattle.bag_ledger.specs.declared.entries.Answer.{Answer}
use Rattle.bag_ledger.specs.declared.entries.Call.{Call}
use Rattle.bag_ledger.specs.declared.entries.Said.{Said}
use Rattle.rank_client.specs.declared.pendings.Pending.TheVariants.{Nothing}
use Rattle.rank_client.specs.declared.steps.ClientStep.{ClientStep}
use Rattle.rank_client.specs.Answers.{CanCall, answers_call}
use Rattle.rank_client.specs.Calls.{Pends}
use Rattle.rank_client.specs.Link.{Made}
use Rattle.rank_client.specs.Remembered.{Remembers, pending_call}
use Rattle.rank_client.specs.Says.{HasAnswer, Says, Waits}
use Rattle.rank_client.specs.State.{ClientModel, start}
use Rattle.rank_mail.specs.declared.posted.Posted.{Posted}
use Rattle.rank_mail.specs.Mailboxes.{letters_of}
use Rattle.merge_history.specs.declared.causes.Cause.{Cause}
use Rattle.merge_history.specs.Events.{Event}
use Rattle.merge_history.specs.Own.{ClientWalks, got, sent as sends_to}
use Rattle.actor_desk.specs.Desks.{DeskModel, Tallies, sent_at}
use Rattle.actor_desk.specs.World.{actors}
use Rattle.thread_actors.specs.Faults.{IsLate}
use Rattle.thread_actors.specs.RankJobs.{IsCutShort, WouldBear}
use Rattle.thread_actors.specs.Run.{link_of}

-- the client knows its transcript, each call took a stamp of its own, of which none is past the last one, and a stamp that was too long is
pub record Knows (s : ClientModel) : Type 0 where
  pub remembers : Remembers s
  pub short : length s.transcript < stamp_limit
  pub within : s.clock < stamp_limit
  pub late : IfSome s.trouble IsLate

-- and while it has not failed no call is pending
pub record Rests (s : ClientModel) : Type 0 where
  pub knows : Knows s
  pub idle : s.trouble ≡ None → s.pending ≡ Nothing

-- the call is one that the client can begin
abbrev pub CanBegin : ClientModel → Call → Type 0
CanBegin s call = CanCall s.config.ranks s.config.servers s.transcript call

-- the call was answered, and the client has not failed
pub record IsDone (said : List Said) (call : Call) (answer : Answer) (s : ClientModel) : Type 0 where
  pub answered : HasAnswer said call answer s
  pub whole : s.trouble ≡ None

-- the call failed: the transcript is as it was, and the call was not begun, or waits for its answer
pub record HasFailed (said : List Said) (call : Call) (trouble : Trouble) (s : ClientModel) : Type 0 where
  pub same : s.transcript ≡ said
  pub failed : s.trouble ≡ Some trouble
  pub begun : Pends (pending_call s.pending) call

-- what a step makes of a call that waits, and a failure
abbrev pub MovesOn : ClientModel → Option Answer → ClientModel → Type 0
MovesOn s answer t = (said : List Said) (call : Call) → Waits said call s → Says said call answer t

-- the pending call has failed with this trouble
abbrev pub Stops : ClientModel → Trouble → ClientModel → Type 0
Stops s trouble t = (call : Call) → pending_call s.pending ≡ Some call → HasFailed s.transcript call trouble t

-- what a call made of the link of a client: what it came to, which is of the call's kind
pub record HasCome (s : ClientModel) (call : Call) (came : Result Answer Trouble) (t : ClientModel) : Type 0 where
  pub made : Made (link_of s.config s.me s) (link_of t.config t.me t) call came
  pub kind : IfOk came (λ a. answers_call call a ≡ true)
  pub rests : Rests t

-- the event of a step that came about in this way
abbrev pub event_of : Cause → ClientStep → Event
event_of cause step = record { stamp = step.stamp; cause = cause; sends = step.sends.items; entries = step.entries.items }

-- While the client has not failed, its journal is its own run so far. What went through its mailboxes is what the journal has, and these
-- letters that it received besides.
abbrev pub IsRecorded : DeskModel → List Posted → ClientModel → Type 0
IsRecorded d more s = s.trouble ≡ None → Tallies d more × ClientWalks d.config (start d.config s.me) d.events s

-- if the client failed by a letter of the actor of this number, its journal is its own run up to there
abbrev pub IsCut : DeskModel → ClientModel → Option ℕ → Type 0
IsCut d s unexpected = (from : ℕ) → unexpected ≡ Some from → (s.trouble ≡ Some Memory) × IsCutShort d.config s.me d from

-- Whatever the client met, its journal is its own run up to where it is, but for its trouble. What was sent is what the journal sent, and
-- what was received begins with what the journal got.
pub record IsUpTo (d : DeskModel) (s : ClientModel) : Type 0 where
  pub walks : ClientWalks d.config (start d.config s.me) d.events (record s { trouble = None })
  pub sends : (to : ℕ) → to < actors d.config → sent_at d to ≡ sends_to d.config to d.events
  pub receives : (from : ℕ) → from < actors d.config → IsPrefix (got d.config from d.events) (letters_of from d.got)

-- if the client failed by a stamp that was too long, its next event would bear that one
abbrev pub MeetsLimit : DeskModel → ClientModel → Type 0
MeetsLimit d s = (stamp : ℕ) → s.trouble ≡ Some (TooLong stamp) → WouldBear d.config (record s { trouble = None }) d stamp
