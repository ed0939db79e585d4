-- What the steps of a call make of its rank's transcript.
use Rattle.std.specs.Prelude.{ℕ, ◌≡◌, false, List, Option, None, Some, IsSome}
use Rattle.adlb_unit.specs.declared.configs.Config.{Config}
use Rattle.adlb_unit.specs.declared.letters.Letter.{Letter}
use Rattle.adlb_unit.specs.declared.names.Rank.{Rank}
use Rattle.adlb_unit.specs.declared.names.Server.{Server}
use Rattle.adlb_unit.specs.declared.notes.Trouble.{Trouble}
use Rattle.bag_ledger.specs.declared.entries.Answer.{Answer}
use Rattle.bag_ledger.specs.declared.entries.Call.{Call}
use Rattle.bag_ledger.specs.declared.entries.Said.{Said}
use Rattle.rank_client.specs.declared.pendings.Pending.TheVariants as waits_for
use Rattle.rank_client.specs.Answers.{CanCall, IsAnswerTo}
use Rattle.rank_client.specs.Calls.{has_finished, plus}
use Rattle.rank_client.specs.Remembered.{Remembers, pending_call}
use Rattle.rank_client.specs.State.{ClientModel, start}
use Rattle.rank_client.specs.Step.{Made, begin, call_stamp, hear, letter_stamp}

-- the call has no answer yet: the transcript is as before, and the call is pending
pub record Waits (said : List Said) (call : Call) (s : ClientModel) : Type 0 where
  pub same : s.transcript ≡ said
  pub pending : pending_call s.pending ≡ Some call

-- the call has its answer, which is what such a call can be answered: the transcript has it, and no call is pending
pub record HasAnswer (said : List Said) (call : Call) (answer : Answer) (s : ClientModel) : Type 0 where
  pub grown : s.transcript ≡ plus said call (Some answer)
  pub idle : s.pending ≡ waits_for.Nothing
  pub fits : IsAnswerTo said call answer

-- the call has this answer, or waits for one
abbrev pub Says : List Said → Call → Option Answer → ClientModel → Type 0
Says said call None s = Waits said call s
Says said call (Some answer) s = HasAnswer said call answer s

-- a step of the call with this stamp and this answer, if any, makes `t` of the client `s`
pub record Tells (s : ClientModel) (stamp : ℕ) (call : Call) (answer : Option Answer) (t : ClientModel) : Type 0 where
  pub says : Says s.transcript call answer t
  pub remembers : Remembers t
  pub clock : t.clock ≡ stamp
  pub config : t.config ≡ s.config
  pub me : t.me ≡ s.me
  pub trouble : t.trouble ≡ s.trouble

-- The law. A client knows its transcript at the start, after each step of a call, and after a failure. It is ready for each call that
-- its rank can make. And each step is about the call that is begun or pending, and about no other.
pub record StepsTell : Type 0 where
  pub at_start : (config : Config) (me : Rank) → Remembers (start config me)
  pub after_failure : (s : ClientModel) (trouble : Option Trouble) → Remembers s → Remembers (record s { trouble = trouble })
  pub ready : (s : ClientModel) (call : Call) → Remembers s → s.pending ≡ waits_for.Nothing → has_finished s.transcript ≡ false
      → CanCall s.config.ranks s.config.servers s.transcript call → IsSome (begin s call)
  pub after_call : (s : ClientModel) (call : Call) (x : Made) → begin s call ≡ Some x → Remembers s
      → Tells s (call_stamp s) call x.answer x.state
  pub after_letter : (s : ClientModel) (from : Server) (letter : Letter) (x : Made) (call : Call) → hear s from letter ≡ Some x
      → Remembers s → pending_call s.pending ≡ Some call → Tells s (letter_stamp s letter) call x.answer x.state
  pub awaited : (s : ClientModel) (from : Server) (letter : Letter) → IsSome (hear s from letter) → IsSome (pending_call s.pending)
