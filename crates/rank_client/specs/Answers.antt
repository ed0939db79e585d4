-- Which answers a call can have.
use Rattle.std.specs.Prelude.{ℕ, ◌≡◌, ◌≤◌, Bool, true, false, List, length, Option, None, Some, Result, Ok, Err}
use Rattle.adlb_unit.specs.Limits.{body_limit}
use Rattle.adlb_unit.specs.Targets.{Aims}
use Rattle.adlb_unit.specs.declared.notes.Trouble.{Trouble}
use Rattle.adlb_unit.specs.declared.notes.UnitNote.{UnitNote}
use Rattle.adlb_unit.specs.Totals.{total_of}
use Rattle.bag_ledger.specs.declared.entries.Answer.{Answer}
use Rattle.bag_ledger.specs.declared.entries.Answer.TheVariants as answers
use Rattle.bag_ledger.specs.declared.entries.Call.{Call}
use Rattle.bag_ledger.specs.declared.entries.Call.TheVariants as calls_to
use Rattle.bag_ledger.specs.declared.entries.Said.{Said}
use Rattle.rank_client.specs.Calls.{TellsAgain, end_told, granted, is_fetched, is_granted, is_open}

-- the answer that was given, and the trouble with which the call failed
abbrev pub answered : Result Answer Trouble → Option Answer
answered (Ok answer) = Some answer
answered (Err trouble) = None

-- the trouble of a call that failed
abbrev pub troubled : Result Answer Trouble → Option Trouble
troubled (Ok answer) = None
troubled (Err trouble) = Some trouble

-- What a put and the beginning of a batch can be answered, a reserve, a try, a fetch and a count. Also the end of a batch and of the
-- problem, and Finish.
abbrev pub answers_put : Answer → Bool
answers_put answers.Fine = true
answers_put answers.Rejected = true
answers_put (answers.Ended end) = true
answers_put _ = false

-- a reserve can be answered so
abbrev pub answers_reserve : Answer → Bool
answers_reserve (answers.Granted note) = true
answers_reserve (answers.Ended end) = true
answers_reserve _ = false

-- a try can be answered so
abbrev pub answers_try : Answer → Bool
answers_try (answers.Granted note) = true
answers_try answers.NoCurrent = true
answers_try (answers.Ended end) = true
answers_try _ = false

-- a fetch can be answered so
abbrev pub answers_fetch : Answer → Bool
answers_fetch (answers.Body body) = true
answers_fetch _ = false

-- the end of a batch or of the problem, and Finish, can be answered so
abbrev pub answers_done : Answer → Bool
answers_done answers.Fine = true
answers_done _ = false

-- a count can be answered so
abbrev pub answers_count : Answer → Bool
answers_count (answers.Info info) = true
answers_count _ = false

-- the call can be answered so
abbrev pub answers_call : Call → Answer → Bool
answers_call (calls_to.Put kind prio target answer body) = answers_put
answers_call (calls_to.Reserve types) = answers_reserve
answers_call (calls_to.Try types) = answers_try
answers_call (calls_to.Fetch id) = answers_fetch
answers_call (calls_to.BeginBatch common) = answers_put
answers_call calls_to.EndBatch = answers_done
answers_call (calls_to.Count kind) = answers_count
answers_call calls_to.SetDone = answers_done
answers_call calls_to.Finish = answers_done

-- after an end was told, a put, a reserve, a try and the beginning of a batch are answered by it
abbrev pub heeds_end : Call → Bool
heeds_end (calls_to.Put kind prio target answer body) = true
heeds_end (calls_to.Reserve types) = true
heeds_end (calls_to.Try types) = true
heeds_end (calls_to.BeginBatch common) = true
heeds_end _ = false

-- The rank can make the call, in a run with these numbers of ranks and servers. A reserve, a try, a count, and that the problem is done it
-- always can. A put has a body of at most 2^20 bytes and is for a rank of the run. A fetch is of a unit that was granted and not fetched. A
-- batch that is going on can be ended. While no batch is, one can begin, with a common part of at most 2^20 bytes, and so can Finish.
abbrev pub CanCall : ℕ → ℕ → List Said → Call → Type 0
CanCall ranks servers said (calls_to.Put kind prio target answer body) = (length body ≤ body_limit) × Aims target ranks
CanCall ranks servers said (calls_to.Reserve types) = Unit {0}
CanCall ranks servers said (calls_to.Try types) = Unit {0}
CanCall ranks servers said (calls_to.Fetch id) =
    (note : UnitNote) × granted note said × (note.id ≡ id) × (is_fetched id said ≡ false)
CanCall ranks servers said (calls_to.BeginBatch common) = (length common ≤ body_limit) × (is_open said ≡ false)
CanCall ranks servers said calls_to.EndBatch = is_open said ≡ true
CanCall ranks servers said (calls_to.Count kind) = Unit {0}
CanCall ranks servers said calls_to.SetDone = Unit {0}
CanCall ranks servers said calls_to.Finish = is_open said ≡ false

-- what is known of an answer: a unit is granted that was not granted and not fetched before, and as many bytes come as the note says
abbrev pub IsAnswer : List Said → Call → Answer → Type 0
IsAnswer said (calls_to.Reserve types) (answers.Granted note) = (is_granted note.id said ≡ false) × (is_fetched note.id said ≡ false)
IsAnswer said (calls_to.Try types) (answers.Granted note) = (is_granted note.id said ≡ false) × (is_fetched note.id said ≡ false)
IsAnswer said (calls_to.Fetch id) (answers.Body body) =
    (note : UnitNote) → granted note said → note.id ≡ id → length body ≡ total_of note
IsAnswer said call answer = Unit {0}

-- the call has this answer: it is of the call's kind, and after an end was told it is that end
pub record IsAnswerTo (said : List Said) (call : Call) (answer : Answer) : Type 0 where
  pub kind : answers_call call answer ≡ true
  pub known : IsAnswer said call answer
  pub again : heeds_end call ≡ true → TellsAgain (end_told said) (Some answer)
