-- Where an entry is in the index, and where a run ends.
use Rattle.std.proofs.Common.{◌≡◌, ◌≢◌, ◌<◌, ◌≤◌, ◌⊎◌, ℕ, Bool, true, false, not, List, get_or, length, refl, arith, inl, inr, All}
use Rattle.std.specs.List.{insert}
use Rattle.std.specs.List.Sorted.{IsPartitionPoint, IsPartitionedBy}
use Rattle.std.proofs.lemmas.Bool.{both_ways, cases_eq, not-false, not-true}
use Rattle.work_queue.proofs.Orders.{before_other, run_stays}
use Rattle.work_queue.proofs.Sorted.{added_in_order}
use Rattle.work_queue.specs.inside.Index.{IsInOrder, goes_before, runs_before}
use Rattle.work_queue.specs.declared.entries.Entry.{Entry}

-- the entries of the run of one, and those of earlier runs, come before those of later runs
pub parted_runs : (entries : List Entry) (entry : Entry) → IsInOrder entries → IsPartitionedBy (λ x. not (runs_before entry x)) entries
parted_runs entries entry order i j d le within is = by_cases (cases_eq i j)
  where
    by_test : (t : Bool) → runs_before entry (get_or entries i d) ≡ t → i < j → not t ≡ true
    by_test false test before = refl
    by_test true test before =
        absurd (both_ways (runs_before entry (get_or entries j d)) (not-true _ is)
        (run_stays entry (get_or entries i d) (get_or entries j d) test (order i j d before within)))

    by_cases : (i ≡ j) ⊎ (i ≢ j) → not (runs_before entry (get_or entries i d)) ≡ true
    by_cases (inl same) = rw same is
    by_cases (inr differs) = by_test (runs_before entry (get_or entries i d)) refl (omega arith)

-- the point where a run ends, by the test as it is written
pub run_point : (entries : List Entry) (entry : Entry) (n : ℕ) → IsPartitionPoint (λ x. not (runs_before entry x) ≡ true)
    (λ x. not (runs_before entry x) ≡ false) entries n
    → IsPartitionPoint (λ x. runs_before entry x ≡ false) (λ x. runs_before entry x ≡ true) entries n
run_point entries entry n point =
    (λ k d from below. not-true _ (point.0 k d from below), λ k d from below. not-false _ (point.1 k d from below))

-- an entry that came later than all others goes in at its place
pub order_added : (entries : List Entry) (entry : Entry) (n : ℕ) → IsInOrder entries → n ≤ length entries
    → IsPartitionPoint (λ x. goes_before x entry ≡ true) (λ x. goes_before x entry ≡ false) entries n
    → All (λ x. x.stamp < entry.stamp) entries → IsInOrder (insert entries n entry)
order_added entries entry n order within point last =
    added_in_order goes_before entries entry n order within point
    (λ k d below. before_other (get_or entries k d) entry (λ same. let earlier = last k d below in omega (arith, earlier, same)))
