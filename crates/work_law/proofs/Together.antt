-- What came to all ranks is what they were to put first and what their work makes.
use Rattle.std.proofs.Common.{◌≡◌, ◌<◌, ◌≤◌, ◌+◌, ℕ, zero, suc, List, [], ◌∷◌, ◌++◌, None, refl, sym, ap, ◌∙◌, subst, arith, count_by}
use Rattle.std.proofs.lemmas.List.Sums.{sum_by-append}
use Rattle.adlb_unit.specs.declared.configs.Config.{Config}
use Rattle.adlb_unit.specs.declared.names.Rank.{Rank}
use Rattle.bag_ledger.specs.declared.entries.Entry.{Entry}
use Rattle.bag_ledger.specs.declared.entries.Said.{Said}
use Rattle.bag_ledger.specs.Bag.{Bag}
use Rattle.bag_ledger.specs.Runs.{calls}
use Rattle.balance_law.specs.Balanced.{AreOrderly, IsBalanced, over_ranks}
use Rattle.balance_law.specs.Orderly.{IsOrderly}
use Rattle.balance_law.specs.Parcels.{got, sent}
use Rattle.work_law.specs.Work.{Arrival, IsWork, Work}
use Rattle.work_law.specs.Books.{Task}
use Rattle.work_law.specs.Together.{IsWorker, all_by, all_came, all_first, waits}
use Rattle.work_law.proofs.Flow.{AreEndedWell, rank_flows, reads}
use Rattle.work_law.proofs.Orderly.{worker_orderly}
use Rattle.work_law.proofs.Pieces.{Test, all-append, one_if}

-- ranks that work are orderly
pub workers_orderly : {Made : Type 0} (W : Work Made) → IsWork W → (config : Config) (ledger : List Entry) → 0 < config.ranks →
    (first : Rank → List (Task Made)) (came : Rank → List (Arrival Made)) →
    ((rank : Rank) → rank.0 < config.ranks → IsWorker W config ledger (first rank) rank (came rank)) → AreOrderly config ledger
workers_orderly W is config ledger some first came each rank within =
    let w = each rank within in
    subst (λ l. IsOrderly config.ranks None None l) (sym w.calls_are)
    (worker_orderly W is config.ranks (first rank) w.left w.said (came rank) some w.goes)

module _ {Made : Type 0} (W : Work Made) (is : IsWork W) (config : Config) (ledger : List Entry) (last : Bag)
    (work_balanced : IsBalanced config ledger last) (first : Rank → List (Task Made)) (came : Rank → List (Arrival Made))
    (each : (rank : Rank) → rank.0 < config.ranks → IsWorker W config ledger (first rank) rank (came rank))
  where
    of_rank : (q : Test Made) (rank : Rank) → rank.0 < config.ranks →
        count_by q (came rank) + count_by (reads W is q) (sent None (calls config ledger rank))
        ≡ count_by q (waits W None (first rank) ++ all_by W (came rank)) + count_by (reads W is q) (got None (calls config ledger rank))
    of_rank q rank within =
        let w = each rank within in
        subst (λ l. count_by q (came rank) + count_by (reads W is q) (sent None l)
        ≡ count_by q (waits W None (first rank) ++ all_by W (came rank)) + count_by (reads W is q) (got None l)) (sym w.calls_are)
        (rank_flows W is (first rank) w.said w.left (came rank) (subst AreEndedWell w.calls_are (work_balanced.ended rank within)) w.goes q)

    of_ranks : (q : Test Made) (n : ℕ) → n ≤ config.ranks →
        count_by q (all_came came n) + over_ranks n (λ rank. count_by (reads W is q) (sent None (calls config ledger rank)))
        ≡ count_by q (all_first W first n ++ all_by W (all_came came n))
        + over_ranks n (λ rank. count_by (reads W is q) (got None (calls config ledger rank)))
    unfolding all_came all_first
    of_ranks q zero within = refl
    of_ranks q (suc n) within =
        let rank : Rank = record { 0 = n } in
        let here = of_rank q rank (omega arith) in
        let before = of_ranks q n (omega arith) in
        let f : List (Arrival Made) = waits W None (first rank) in
        omega (
          arith,
          here,
          before,
          sum_by-append (one_if q) (all_came came n) (came rank),
          sum_by-append (one_if q) (all_first W first n) (all_by W (all_came came n)),
          sum_by-append (one_if q) f (all_by W (came rank)),
          sum_by-append (one_if q) (all_first W first n ++ f) (all_by W (all_came came n ++ came rank)),
          sum_by-append (one_if q) (all_first W first n) f,
          all-append W is q (all_came came n) (came rank),
        )

    -- the law
    pub together : (q : Test Made) →
        count_by q (all_came came config.ranks) ≡ count_by q (all_first W first config.ranks ++ all_by W (all_came came config.ranks))
    together q =
        let all = of_ranks q config.ranks (omega arith) in
        let same = work_balanced.same (reads W is q) in
        omega (arith, all, same)
