-- What contracts see of a link, which calls it can make, and what a call makes of it.
use Rattle.std.specs.Prelude.{ℕ, ◌≡◌, ◌≤◌, List, length, Option, Bool, true, false, Result, Ok, Err, IfOk}
use Rattle.adlb_unit.specs.Limits.{body_limit}
use Rattle.adlb_unit.specs.Targets.{Aims}
use Rattle.adlb_unit.specs.declared.notes.End.TheVariants as ends_by
use Rattle.adlb_unit.specs.declared.notes.Info.{Info}
use Rattle.adlb_unit.specs.declared.notes.Trouble.{Trouble}
use Rattle.adlb_unit.specs.declared.notes.Trouble.TheVariants as troubles
use Rattle.adlb_unit.specs.declared.notes.UnitNote.{UnitNote}
use Rattle.bag_ledger.specs.declared.entries.Answer.{Answer}
use Rattle.bag_ledger.specs.declared.entries.Answer.TheVariants as answers
use Rattle.bag_ledger.specs.declared.entries.Call.{Call}
use Rattle.bag_ledger.specs.declared.entries.Call.TheVariants as calls_to
use Rattle.bag_ledger.specs.declared.entries.Said.{Said}
use Rattle.rank_client.specs.Answers.{IsAnswer, answered, heeds_end, troubled}
use Rattle.rank_client.specs.Calls.{Began, Repeats, TellsAgain, end_told, goes_on, granted, has_finished, is_fetched, is_finish, plus}
use Rattle.rank_client.specs.Seat.{Seat}
use Rattle.rank_client.specs.declared.faults.EndFault.{EndFault}
use Rattle.rank_client.specs.declared.faults.EndFault.TheVariants as end_faults
use Rattle.rank_client.specs.declared.faults.PutFault.{PutFault}
use Rattle.rank_client.specs.declared.faults.PutFault.TheVariants as put_faults
use Rattle.rank_client.specs.declared.faults.TryFault.{TryFault}
use Rattle.rank_client.specs.declared.faults.TryFault.TheVariants as try_faults

-- what contracts see of a link
pub record LinkModel : Type 0 where
  -- which rank of which run it serves
  pub seat : Seat
  -- the calls with their answers, in order
  pub said : List Said
  -- a batch is going on
  pub batch : Bool
  -- what made it fail, if anything did
  pub failed : Option Trouble
  -- the call that was begun and not answered when it failed, if there was one
  pub begun : Option Call

-- What a call came to: its answer, or the trouble with which it failed.

-- of a put, and of the beginning of a batch
abbrev pub put_came : Result (Unit {0}) PutFault → Result Answer Trouble
put_came (Ok done) = Ok answers.Fine
put_came (Err put_faults.Rejected) = Ok answers.Rejected
put_came (Err put_faults.NoMoreWork) = Ok (answers.Ended ends_by.NoMoreWork)
put_came (Err put_faults.Exhausted) = Ok (answers.Ended ends_by.Exhausted)
put_came (Err put_faults.Memory) = Err troubles.Memory
put_came (Err (put_faults.TooLong stamp)) = Err (troubles.TooLong stamp)

-- the answer or trouble that a reserve came to
abbrev pub reserve_came : Result UnitNote EndFault → Result Answer Trouble
reserve_came (Ok note) = Ok (answers.Granted note)
reserve_came (Err end_faults.NoMoreWork) = Ok (answers.Ended ends_by.NoMoreWork)
reserve_came (Err end_faults.Exhausted) = Ok (answers.Ended ends_by.Exhausted)
reserve_came (Err end_faults.Memory) = Err troubles.Memory
reserve_came (Err (end_faults.TooLong stamp)) = Err (troubles.TooLong stamp)

-- the answer or trouble that a try came to
abbrev pub try_came : Result UnitNote TryFault → Result Answer Trouble
try_came (Ok note) = Ok (answers.Granted note)
try_came (Err try_faults.NoCurrentWork) = Ok answers.NoCurrent
try_came (Err try_faults.NoMoreWork) = Ok (answers.Ended ends_by.NoMoreWork)
try_came (Err try_faults.Exhausted) = Ok (answers.Ended ends_by.Exhausted)
try_came (Err try_faults.Memory) = Err troubles.Memory
try_came (Err (try_faults.TooLong stamp)) = Err (troubles.TooLong stamp)

-- the answer or trouble that a fetch came to
abbrev pub fetch_came : Result (List ℕ) (UnitNote × Trouble) → Result Answer Trouble
fetch_came (Ok body) = Ok (answers.Body body)
fetch_came (Err e) = Err e.1

-- of the end of a batch, of the problem, and of Finish
abbrev pub done_came : Result (Unit {0}) Trouble → Result Answer Trouble
done_came (Ok done) = Ok answers.Fine
done_came (Err trouble) = Err trouble

-- the answer or trouble that a count came to
abbrev pub count_came : Result Info Trouble → Result Answer Trouble
count_came (Ok info) = Ok (answers.Info info)
count_came (Err trouble) = Err trouble

-- What a call asks for besides that the rank runs. A put asks for a body of at most 2^20 bytes and a target that is a rank; a fetch, that
-- the unit was not fetched. The beginning of a batch asks for a common part of at most 2^20 bytes and no batch, its end for a batch, and
-- Finish, that no batch goes on.
abbrev pub Suits : LinkModel → Call → Type 0
Suits m (calls_to.Put kind prio target answer body) = (length body ≤ body_limit) × Aims target m.seat.ranks
Suits m (calls_to.Fetch id) = is_fetched id m.said ≡ false
Suits m (calls_to.BeginBatch common) = (length common ≤ body_limit) × (m.batch ≡ false)
Suits m calls_to.EndBatch = m.batch ≡ true
Suits m calls_to.Finish = m.batch ≡ false
Suits m call = Unit {0}

-- the rank can make the call
pub record Can (m : LinkModel) (call : Call) : Type 0 where
  pub running : has_finished m.said ≡ false
  pub suits : Suits m call

-- what a fetch names was granted
abbrev pub HasGrant : List Said → Call → Type 0
HasGrant said (calls_to.Fetch id) = (note : UnitNote) × granted note said × (note.id ≡ id)
HasGrant said call = Unit {0}

-- whether a batch is going on after a call that came to this
abbrev pub batch_after : Call → Result Answer Trouble → Bool → Bool
batch_after call (Ok answer) on = goes_on call answer on
batch_after call (Err trouble) on = false

-- a unit that is granted can be fetched
abbrev pub IsFresh : List Said → Answer → Type 0
IsFresh said (answers.Granted note) = granted note said × (is_fetched note.id said ≡ false)
IsFresh said answer = Unit {0}

-- a call that came to this made the one link of the other
pub record Made (old new : LinkModel) (call : Call) (came : Result Answer Trouble) : Type 0 where
  -- what is said: the call with its answer comes to the transcript, and a call that failed does not
  pub said : new.said ≡ plus old.said call (answered came)
  -- after an end was told, a put, a reserve, a try and the beginning of a batch are answered by it
  pub told : heeds_end call ≡ true → TellsAgain (end_told old.said) (answered came)
  -- whom the link serves stays
  pub seat : new.seat ≡ old.seat
  -- a batch goes on as the call and its answer say; a link that has failed has none
  pub batch : new.batch ≡ batch_after call came old.batch
  -- it has failed exactly if the call did, and fails again with the trouble of its first failure
  pub failed : new.failed ≡ troubled came
  pub repeats : Repeats old.failed (troubled came)
  -- what is begun and not answered, if the link has failed
  pub began : Began old.failed old.begun call new.failed new.begun
  -- what is known of the answer: a unit is granted once, and a fetch gives as many bytes as the note says
  pub known : IfOk came (λ a. IsAnswer old.said call a)
  -- what a program needs for its next call, and to see that its loops end
  pub running : is_finish call ≡ false → has_finished new.said ≡ false
  pub longer : length old.said ≤ length new.said
  pub fresh : IfOk came (λ a. IsFresh new.said a)
