-- A run of puzzle programs that may go on.
use Rattle.std.specs.Prelude.{◌≡◌, ◌<◌, Bool, true, List, [], ◌∷◌, ◌++◌, Option, Some, None}
use Rattle.adlb_unit.specs.declared.configs.Config.{Config}
use Rattle.adlb_unit.specs.declared.names.Rank.{Rank}
use Rattle.bag_ledger.specs.declared.entries.Call.{Call}
use Rattle.bag_ledger.specs.declared.entries.Call.TheVariants as calls_to
use Rattle.bag_ledger.specs.declared.entries.Entry.{Entry}
use Rattle.bag_ledger.specs.declared.entries.Said.{Said}
use Rattle.bag_ledger.specs.Bag.{Bag}
use Rattle.bag_ledger.specs.Runs.{calls}
use Rattle.cover_law.specs.Begun.{pending_of}
use Rattle.job_text.specs.declared.jobs.Job.{Job}
use Rattle.puzzle_app.specs.Follows.{IsSoFar, IsUnderWay}
use Rattle.puzzle_app.specs.declared.outcomes.Settings.{Settings}
use Rattle.puzzle_app.specs.declared.program.PuzzleProgram.{PuzzleProgram}
use Rattle.puzzle_law.specs.Joined.{jobs_of}
use Rattle.rank_client.specs.Calls.{is_open}

-- the calls of a rank after those of its program, where a batch goes on or not: it ends that, and finishes
pub data IsLeaving (on : Bool) (late : List Said) : Type 0 where
  closes : (s : Said) → on ≡ true → s.call ≡ calls_to.EndBatch → late ≡ s ∷ [] → IsLeaving on late
  finishes : (s : Said) → s.call ≡ calls_to.Finish → late ≡ s ∷ [] → IsLeaving on late
  both : (s t : Said) → on ≡ true → s.call ≡ calls_to.EndBatch → t.call ≡ calls_to.Finish → late ≡ s ∷ t ∷ [] → IsLeaving on late

-- how far the rank of the program has come, with these calls and this one pending
pub data HasCome (program : PuzzleProgram) (said : List Said) (pending : Option Call) : Type 0 where
  -- the calls are those of the program so far, whatever is pending
  works : IsSoFar program said → HasCome program said pending
  -- the run has the answer of the call that was begun after those of the program, and the rank has not heard it
  hears : (own : List Said) (s : Said) → IsUnderWay program own (Some s.call) → said ≡ own ++ s ∷ [] → pending ≡ None →
      HasCome program said pending
  -- after those of the program the rank leaves, and nothing is pending
  leaves : (own late : List Said) → IsSoFar program own → IsLeaving (is_open own) late → said ≡ own ++ late →
      pending ≡ None → HasCome program said pending

-- the rank runs its program with these settings. Rank 0 has the jobs, and no other rank has any
pub record IsRankUnderWay (config : Config) (ledger : List Entry) (last : Bag) (settings : Settings) (jobs : List Job)
    (rank : Rank) : Type 0 where
  pub program : PuzzleProgram
  pub settings_are : program.settings ≡ settings
  pub jobs_are : program.jobs ≡ jobs_of jobs rank
  pub stands : HasCome program (calls config ledger rank) (pending_of last rank)

-- each rank of the run does
abbrev pub AreUnderWay : Config → List Entry → Bag → Settings → List Job → Type 0
AreUnderWay config ledger last settings jobs = (rank : Rank) → rank.0 < config.ranks → IsRankUnderWay config ledger last settings jobs rank
