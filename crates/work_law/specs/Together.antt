-- A run of ranks that work, and what holds of all of them at its end.
use Rattle.std.specs.Prelude.{◌≡◌, ℕ, zero, suc, List, [], ◌∷◌, ◌++◌, map, flat_map, Option, None}
use Rattle.adlb_unit.specs.declared.configs.Config.{Config}
use Rattle.adlb_unit.specs.declared.names.Rank.{Rank}
use Rattle.bag_ledger.specs.declared.entries.Entry.{Entry}
use Rattle.bag_ledger.specs.declared.entries.Said.{Said}
use Rattle.bag_ledger.specs.Runs.{calls}
use Rattle.balance_law.specs.Orderly.{finish}
use Rattle.work_law.specs.Work.{Arrival, Work, arrival, made_by}
use Rattle.work_law.specs.Books.{Books, Goes, Task, Put, Begin, End, bytes_on, going, shut}

-- what is still to be put in these tasks, in the batch of these common bytes or in none
unfoldable pub waits : {Made : Type 0} → Work Made → Option (List ℕ) → List (Task Made) → List (Arrival Made)
waits W on [] = []
waits W on (Put unit ∷ tasks) = arrival W (bytes_on on) unit ∷ waits W on tasks
waits W on (Begin common units ∷ tasks) = map (arrival W common) units ++ waits W on tasks
waits W on (End ∷ tasks) = waits W None tasks

-- what the work on these units makes
abbrev pub all_by : {Made : Type 0} → Work Made → List (Arrival Made) → List (Arrival Made)
all_by W came = map (arrival W []) (flat_map (made_by W) came)

-- a rank that was to do these tasks did so until an end was told, and then finished; these units came to it
pub record IsWorker {Made : Type 0} (W : Work Made) (config : Config) (ledger : List Entry) (first : List (Task Made)) (rank : Rank)
    (came : List (Arrival Made)) : Type 0 where
  pub said : List Said
  pub left : List (Task Made)
  pub calls_are : calls config ledger rank ≡ said ++ finish ∷ []
  pub goes : Goes W (going first None []) said (shut left None came)

-- what came to the ranks below n, rank by rank
unfoldable pub all_came : {Made : Type 0} → (Rank → List (Arrival Made)) → ℕ → List (Arrival Made)
all_came came zero = []
all_came came (suc n) = all_came came n ++ came (record { 0 = n })

-- what the ranks below n are to put first
unfoldable pub all_first : {Made : Type 0} → Work Made → (Rank → List (Task Made)) → ℕ → List (Arrival Made)
all_first W first zero = []
all_first W first (suc n) = all_first W first n ++ waits W None (first (record { 0 = n }))
