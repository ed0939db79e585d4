-- A run of flow programs that may go on.
use Rattle.std.specs.Prelude.{◌≡◌, ◌<◌, List, [], ◌∷◌, ◌++◌, Option, None}
use Rattle.adlb_unit.specs.declared.configs.Config.{Config}
use Rattle.adlb_unit.specs.declared.names.Rank.{Rank}
use Rattle.bag_ledger.specs.declared.entries.Answer.{Answer}
use Rattle.bag_ledger.specs.declared.entries.Call.{Call}
use Rattle.bag_ledger.specs.declared.entries.Entry.{Entry}
use Rattle.bag_ledger.specs.declared.entries.Said.{Said}
use Rattle.bag_ledger.specs.Bag.{Bag}
use Rattle.bag_ledger.specs.Runs.{calls}
use Rattle.balance_law.specs.Orderly.{finish}
use Rattle.cover_law.specs.Begun.{pending_of}
use Rattle.flow_law.specs.declared.Definition.{Definition}
use Rattle.work_law.specs.Books.{said_of}
use Rattle.flow_run_law.specs.Desk.{Desk, Goes, at_start}
use Rattle.flow_run_law.specs.Run.{flow_of}
use Rattle.flow_run_law.specs.Units.{Forms}

-- how far a rank with this flow, or with none, has come, with these calls and this one pending
pub data HasCome (F : Forms) (flow : Option (List Definition)) (said : List Said) (pending : Option Call) : Type 0 where
  -- the calls are those of the program so far, whatever is pending
  works : (desk : Desk) → Goes F flow at_start said desk → HasCome F flow said pending
  -- the run has the answer of the call that was begun after those of the program, which is the next with some answer; the rank has not
  -- heard it
  hears : (own : List Said) (s : Said) (answer : Answer) (desk : Desk) → Goes F flow at_start (own ++ said_of s.call answer ∷ []) desk →
      said ≡ own ++ s ∷ [] → pending ≡ None → HasCome F flow said pending
  -- after those of the program the rank finishes, and nothing is pending
  leaves : (own : List Said) (desk : Desk) → Goes F flow at_start own desk → said ≡ own ++ finish ∷ [] → pending ≡ None →
      HasCome F flow said pending

-- each rank of the run runs the flow program. Rank 0 has the flow, and no other rank has any
abbrev pub AreUnderWay : Forms → Config → List Entry → Bag → List Definition → Type 0
AreUnderWay F config ledger last flow =
    (rank : Rank) → rank.0 < config.ranks → HasCome F (flow_of flow rank) (calls config ledger rank) (pending_of last rank)
