-- What the ranks of a run have begun of their programs, whether the run has come to its end or not.
use Rattle.std.specs.Prelude.{◌≡◌, ◌<◌, ◌≤◌, ◌++◌, ◌∷◌, ℕ, List, [], Option, Some, None, slice_get}
use Rattle.adlb_unit.specs.declared.configs.Config.{Config}
use Rattle.adlb_unit.specs.declared.names.Rank.{Rank}
use Rattle.bag_ledger.specs.declared.entries.Call.{Call}
use Rattle.bag_ledger.specs.declared.entries.Entry.{Entry}
use Rattle.bag_ledger.specs.declared.entries.Said.{Said}
use Rattle.bag_ledger.specs.Bag.{Bag, start}
use Rattle.bag_ledger.specs.Runs.{IsRun, calls}
use Rattle.balance_law.specs.Orderly.{finish}
use Rattle.cover_law.specs.Begun.{all_begun, pending_of}

-- how far a rank has come by its program, with these calls in the ledger and this one pending, if one is
pub data HasCome (so_far : List Said → Option Call → Type 0) (told : List Said) (pending : Option Call) : Type 0 where
  -- it has heard of these calls, which are those of its program so far
  works : (begun : Option Call) → so_far told begun → HasCome so_far told pending
  -- the ledger has the answer of the call that it began after those, of which it has not heard
  hears : (own : List Said) (s : Said) → so_far own (Some s.call) → told ≡ own ++ s ∷ [] → pending ≡ None → HasCome so_far told pending
  -- after those it finishes
  leaves : (own : List Said) (begun : Option Call) → so_far own begun → told ≡ own ++ finish ∷ [] → pending ≡ None →
      HasCome so_far told pending

-- in a legal run over what is asked, of this number of ranks, which may not have come to its end, each rank has come as far as its program
-- allows, and all together have begun this many calls or more
pub record HaveBegun {A P : Type 0} (are_programs : ℕ → A → List P → Type 0) (so_far : P → Rank → List Said → Option Call → Type 0)
    (asked : A) (ranks many : ℕ) : Type 0 where
  pub config : Config
  pub ranks_are : config.ranks ≡ ranks
  pub ledger : List Entry
  pub last : Bag
  pub legal : IsRun (start config) ledger last
  pub programs : List P
  pub are : are_programs ranks asked programs
  pub each : (rank : Rank) → rank.0 < ranks → (program : P) × (slice_get programs rank.0 ≡ Some program)
      × HasCome (so_far program rank) (calls config ledger rank) (pending_of last rank)
  pub enough : many ≤ all_begun config ledger last
