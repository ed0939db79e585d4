-- The order of four units, worked by hand. In arrival order they are Any with priority 9, Soft of rank 1 with 5, Only of rank 0 with 0, and
-- Soft of rank 0 with 1.
use Rattle.std.proofs.Common.{◌≡◌, ℕ, zero, suc, List, [], ◌∷◌, Option, Some, None, pos, map, refl}
use Rattle.adlb_unit.specs.declared.names.Rank.{Rank}
use Rattle.adlb_unit.specs.declared.names.Target.{Target}
use Rattle.adlb_unit.specs.declared.names.Target.TheVariants.{Any, Only, Soft}
use Rattle.adlb_unit.specs.declared.names.UnitId.{UnitId}
use Rattle.work_queue.proofs.Walks.{best_walk, push_walk}
use Rattle.work_queue.specs.Best.{IsBest, best_of}
use Rattle.work_queue.specs.Push.{IsFirstToPush, first_to_push_of}
use Rattle.work_queue.specs.Queue.{pinned_by}
use Rattle.work_queue.specs.declared.placing.Placed.{Placed}

abbrev rank : ℕ → Rank
rank n = record { 0 = n }

abbrev id : ℕ → UnitId
id n = record { rank = rank 0; number = n }

abbrev free : ℕ → ℕ → Target → Placed
free number prio target = record {
  unit = record { id = id number; kind = record { 0 = 5 }; prio = pos prio; target = target; answer = None; common = None; body = [] };
  pin = None;
}

abbrev four : List Placed
four = free 1 9 Any ∷ free 2 5 (Soft (rank 1)) ∷ free 3 0 (Only (rank 0)) ∷ free 4 1 (Soft (rank 0)) ∷ []

-- the units after the best for the rank was pinned; the best units of `n` such turns
abbrev pinned : Rank → Option UnitId → List Placed → List Placed
pinned r None units = units
pinned r (Some best) units = map (pinned_by best r) units

abbrev given : ℕ → Rank → List Placed → List (Option UnitId)
given zero r units = []
given (suc n) r units = best_of r None units ∷ given n r (pinned r (best_of r None units) units)

rank_zero : given 4 (rank 0) four ≡ Some (id 3) ∷ Some (id 4) ∷ Some (id 1) ∷ Some (id 2) ∷ []
rank_zero = refl

rank_one : given 4 (rank 1) four ≡ Some (id 2) ∷ Some (id 1) ∷ Some (id 4) ∷ None ∷ []
rank_one = refl

-- the first to push is the one for any rank
pushed : first_to_push_of four ≡ Some (id 1, 0)
pushed = refl

pushed_first : IsFirstToPush four (id 1, 0)
pushed_first = (push_walk four (id 1, 0)).0 pushed

-- the best by the relation
best_for_zero : IsBest (rank 0) None four (id 3)
best_for_zero = (best_walk (rank 0) None four (id 3)).0 refl

best_for_one : IsBest (rank 1) None four (id 2)
best_for_one = (best_walk (rank 1) None four (id 2)).0 refl
