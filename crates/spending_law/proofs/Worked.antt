-- A small run, worked: one rank, one server, and a batch of one item. The rank begins the batch, puts its job and ends it; it reserves and
-- fetches the job, puts the answer, reserves and fetches that, is told an end, and finishes. These are ten calls, and no run has more.
use Rattle.std.proofs.Common.{◌≡◌, ℕ, pos, List, ◌∷◌, [], length, None, Some, refl, arith}
use Rattle.adlb_unit.specs.declared.configs.Config.{Config}
use Rattle.adlb_unit.specs.declared.names.BatchId.{BatchId}
use Rattle.adlb_unit.specs.declared.names.Rank.{Rank}
use Rattle.adlb_unit.specs.declared.names.Server.{Server}
use Rattle.adlb_unit.specs.declared.names.Target.TheVariants.{Any, Only}
use Rattle.adlb_unit.specs.declared.names.UnitId.{UnitId}
use Rattle.adlb_unit.specs.declared.notes.End.TheVariants as ends_by
use Rattle.bag_ledger.specs.declared.entries.Entry.{Entry}
use Rattle.bag_ledger.specs.declared.entries.Entry.TheVariants.{Putting, Accepted, Keeping, Kept, Closing, Closed, Freed, Asked, Granted}
use Rattle.bag_ledger.specs.declared.entries.Entry.TheVariants.{Fetching, Fetched, CommonFetched, Exhausted, Over, Finished}
use Rattle.bag_ledger.specs.Bag.{start}
use Rattle.bag_ledger.specs.Runs.{calls, first_illegal}
use Rattle.job_text.specs.declared.items.Item.TheVariants.{Sum}
use Rattle.job_text.specs.declared.jobs.Job.{Job}
use Rattle.job_text.specs.declared.jobs.Job.TheVariants.{Batch}
use Rattle.job_report.specs.Jobs.{puzzles}
use Rattle.job_units.specs.Bodies.{answer_body, job_body}
use Rattle.job_units.specs.declared.answers.Answer.{Answer}
use Rattle.job_units.specs.declared.jobs.Job as units
use Rattle.spending_law.specs.Most.{most_calls}

abbrev rank : Rank
rank = record { 0 = 0 }

abbrev server : Server
server = record { 0 = 0 }

abbrev unit : ℕ → UnitId
unit call = record { rank = rank; number = call }

abbrev batch : BatchId
batch = record { rank = rank; number = 0 }

abbrev common : List ℕ
common = 97 ∷ 98 ∷ []

abbrev job : units.Job
job = record { batch = 1; number = 1; item = Sum }

abbrev its_answer : Answer
its_answer = record { batch = 1; number = 1; value = 195 }

jobs : List Job
jobs = Batch common (Sum ∷ []) ∷ []

small : Config
small = record {
  ranks = 1;
  servers = 1;
  limit = 100;
  ranks_within = (omega arith, omega arith);
  servers_within = (omega arith, omega arith);
  limit_within = (omega arith, omega arith);
}

ledger : List Entry
ledger =
    Keeping rank 0 common ∷ Kept server batch
    ∷ Putting rank 1 (record { 0 = 2 }) (pos 50) Any (Some rank) (job_body job) ∷ Accepted server (unit 1)
    ∷ Closing rank 2 ∷ Closed server batch
    ∷ Asked rank 3 None ∷ Granted server rank 3 (unit 1) ∷ Fetching rank 4 (unit 1) ∷ Fetched server rank (unit 1)
    ∷ CommonFetched server rank batch ∷ Freed server batch
    ∷ Putting rank 5 (record { 0 = 3 }) (pos 100) (Only rank) None (answer_body its_answer) ∷ Accepted server (unit 5)
    ∷ Asked rank 6 None ∷ Granted server rank 6 (unit 5) ∷ Fetching rank 7 (unit 5) ∷ Fetched server rank (unit 5)
    ∷ Asked rank 8 None ∷ Exhausted ∷ Over rank 8 ends_by.Exhausted ∷ Finished rank 9 ∷ []

-- the ledger is a legal run
legal : first_illegal (start small) 0 ledger ≡ None
unfolding small ledger job_body answer_body
legal = refl

-- the rank makes ten calls in it
ten : length (calls small ledger rank) ≡ 10
unfolding small ledger job_body answer_body
ten = refl

-- and ten is the most: of two units three calls each, of one batch two, and of one rank two
most : most_calls 1 1 1 jobs ≡ 10
unfolding jobs puzzles
most = refl
