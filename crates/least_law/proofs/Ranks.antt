-- The ranks of a run of tour programs as workers, and what their outcomes hold.
use Rattle.std.proofs.Common.{◌≡◌, ◌<◌, ◌≤◌, ◌+◌, ◌==◌, ℕ, zero, suc, Bool, true, false, cond, List, [], ◌∷◌, ◌++◌, length, take, All}
use Rattle.std.proofs.Common.{Option, Some, None, slice_get, refl, sym, ap, ◌∙◌, subst, arith, append_assoc, append-nil}
use Rattle.std.specs.Prelude.{nat_lt, flat_map}
use Rattle.std.proofs.lemmas.Bool.{ltb-true, lt-ltb, ne_eqb}
use Rattle.std.proofs.lemmas.List.{take_all}
use Rattle.adlb_unit.specs.declared.configs.Config.{Config}
use Rattle.adlb_unit.specs.declared.names.Rank.{Rank}
use Rattle.bag_ledger.specs.declared.entries.Entry.{Entry}
use Rattle.bag_ledger.specs.declared.entries.Said.{Said}
use Rattle.bag_ledger.specs.Bag.{Bag}
use Rattle.bag_ledger.specs.Runs.{calls}
use Rattle.balance_law.specs.Balanced.{IsBalanced, IsEndedWell}
use Rattle.balance_law.specs.Orderly.{finish}
use Rattle.tour_law.specs.Tours.{cost}
use Rattle.work_law.specs.Books.{Goes, Task, going, shut}
use Rattle.work_law.specs.Together.{IsWorker, all_came}
use Rattle.work_law.specs.Work.{Arrival}
use Rattle.work_law.proofs.Calls.{none_left}
use Rattle.work_law.proofs.Flow.{AreEndedWell, All-front}
use Rattle.tour_app.specs.Found.{all_found}
use Rattle.tour_app.specs.Starts.{StartModel, costs}
use Rattle.tour_app.specs.Works.{found, found_in, known, left_over, tasks, tours}
use Rattle.tour_app.specs.declared.outcomes.TourOutcome.{TourOutcome}
use Rattle.tour_app.specs.declared.units.TourUnit.{TourUnit}
use Rattle.tour_app.proofs.Lists.{flat-append}
use Rattle.least_law.specs.Joined.{IsRankRun, IsTourRun, start_at}

-- what a rank is to do
abbrev pub first_at : StartModel → Rank → List (Task TourUnit)
first_at s rank = tasks (start_at s rank)

module _ (config : Config) (ledger : List Entry) (s : StartModel) (outcomes : List TourOutcome)
    (run : IsTourRun config ledger s outcomes) where
  -- what came to a rank; nothing to one that is not in the run
  abbrev came_at : (rank : Rank) (b : Bool) → b ≡ nat_lt rank.0 config.ranks → List (Arrival TourUnit)
  came_at rank true e = (run.each rank (ltb-true rank.0 config.ranks (sym e))).follows.came
  came_at rank false e = []

  -- what came to a rank of the run
  abbrev pub came : Rank → List (Arrival TourUnit)
  came rank = came_at rank (nat_lt rank.0 config.ranks) refl

  worker_of : (rank : Rank) (r : IsRankRun config ledger s outcomes rank) →
      IsWorker tours config ledger (first_at s rank) rank r.follows.came
  worker_of rank r = record {
    said = r.said;
    left = r.follows.left;
    calls_are = r.calls_are;
    goes = subst (λ o. Goes tours (going (tasks o) None []) r.said (shut r.follows.left None r.follows.came)) r.start_is r.follows.goes;
  }

  worker_at : (rank : Rank) (b : Bool) (e : b ≡ nat_lt rank.0 config.ranks) → b ≡ true →
      IsWorker tours config ledger (first_at s rank) rank (came_at rank b e)
  worker_at rank true e is = worker_of rank (run.each rank (ltb-true rank.0 config.ranks (sym e)))
  worker_at rank false e is = absurd (cc)

  -- each rank of the run is a worker of the law of work
  pub worker : (rank : Rank) → rank.0 < config.ranks → IsWorker tours config ledger (first_at s rank) rank (came rank)
  worker rank below = worker_at rank (nat_lt rank.0 config.ranks) refl (lt-ltb rank.0 config.ranks below)

  -- Outcomes, where no end was told but at a reserve.

  module _ (last : Bag) (balanced : IsBalanced config ledger last) where
    record HasFound (rank : Rank) (its : List (Arrival TourUnit)) : Type 0 where
      outcome : TourOutcome
      there : slice_get outcomes rank.0 ≡ Some outcome
      found_are : outcome.found.items ≡ known (start_at s rank) ++ found its

    found_of : (rank : Rank) → rank.0 < config.ranks → (r : IsRankRun config ledger s outcomes rank) → HasFound rank r.follows.came
    found_of rank below r =
        let well : AreEndedWell (r.said ++ finish ∷ []) = subst AreEndedWell r.calls_are (balanced.ended rank below) in
        let front : AreEndedWell r.said = All-front (λ (x : Said). IsEndedWell x.call x.answer) r.said (finish ∷ []) well in
        let none : r.follows.left ≡ [] =
        none_left tours (tasks r.program.start) r.said r.follows.left r.follows.came front r.follows.goes in
        record {
          outcome = r.outcome;
          there = r.there;
          found_are = r.follows.found_are ∙ ap (λ l. (known r.program.start ++ found r.follows.came) ++ left_over l) none
              ∙ append-nil (known r.program.start ++ found r.follows.came)
              ∙ ap (λ o. known o ++ found r.follows.came) r.start_is;
        }

    found_at : (rank : Rank) → rank.0 < config.ranks → (b : Bool) (e : b ≡ nat_lt rank.0 config.ranks) → b ≡ true →
        HasFound rank (came_at rank b e)
    found_at rank below true e is = found_of rank below (run.each rank (ltb-true rank.0 config.ranks (sym e)))
    found_at rank below false e is = absurd (cc)

    has_found : (rank : Rank) → rank.0 < config.ranks → HasFound rank (came rank)
    has_found rank below = found_at rank below (nat_lt rank.0 config.ranks) refl (lt-ltb rank.0 config.ranks below)

    -- one outcome more
    take_one : (xs : List TourOutcome) (k : ℕ) (x : TourOutcome) → slice_get xs k ≡ Some x → take (suc k) xs ≡ take k xs ++ x ∷ []
    take_one [] k x at = absurd (cc)
    take_one (y ∷ xs) zero x at = let e : y ≡ x = cc in ap (λ z. z ∷ []) e
    take_one (y ∷ xs) (suc k) x at = ap (λ l. y ∷ l) (take_one xs k x at)

    flat_one : (k : ℕ) (x : TourOutcome) → slice_get outcomes k ≡ Some x →
        all_found (take (suc k) outcomes) ≡ all_found (take k outcomes) ++ x.found.items
    flat_one k x at =
        ap all_found (take_one outcomes k x at) ∙ flat-append (λ (o : TourOutcome). o.found.items) (take k outcomes) (x ∷ [])
        ∙ ap (λ l. all_found (take k outcomes) ++ l) (append-nil x.found.items)

    abbrev home : ℕ × List ℕ
    home = (cost (costs s) s.first, s.first)

    came_more : (k : ℕ) → found (all_came came (suc k)) ≡ found (all_came came k) ++ found (came (record { 0 = k }))
    unfolding all_came
    came_more k = flat-append (λ (a : Arrival TourUnit). found_in a.unit) (all_came came k) (came (record { 0 = k }))

    came_none : found (all_came came 0) ≡ []
    unfolding all_came
    came_none = refl

    -- what the first ranks found
    found_below : (k : ℕ) → suc k ≤ config.ranks → all_found (take (suc k) outcomes) ≡ home ∷ found (all_came came (suc k))
    found_below zero within =
        let rank : Rank = record { 0 = 0 } in
        let f = has_found rank (omega arith) in
        flat_one 0 f.outcome f.there ∙ f.found_are
        ∙ ap (λ l. home ∷ l) (ap (λ l. l ++ found (came rank)) (sym came_none) ∙ sym (came_more 0))
    found_below (suc k) within =
        let rank : Rank = record { 0 = suc k } in
        let f = has_found rank (omega arith) in
        let other : (suc k == 0) ≡ false = ne_eqb (suc k) 0 (λ e. omega arith) in
        let none : known (start_at s rank) ≡ [] = ap (λ b. known (cond b (Some s) None)) other in
        flat_one (suc k) f.outcome f.there ∙ ap (λ l. l ++ f.outcome.found.items) (found_below k (omega arith))
        ∙ ap (λ l. (home ∷ found (all_came came (suc k))) ++ l) (f.found_are ∙ ap (λ l. l ++ found (came rank)) none)
        ∙ ap (λ l. home ∷ l) (sym (came_more (suc k)))

    -- all outcomes together are the first tour and what all ranks found
    pub all_found_is : 0 < config.ranks → all_found outcomes ≡ home ∷ found (all_came came config.ranks)
    all_found_is some = at config.ranks refl some
      where
        at : (n : ℕ) → n ≡ config.ranks → 0 < n → all_found outcomes ≡ home ∷ found (all_came came config.ranks)
        at zero e some = absurd (omega arith)
        at (suc k) e some =
            let all = run.all in
            let entire : take (suc k) outcomes ≡ outcomes = take_all (suc k) outcomes (omega (arith, all, e)) in
            ap all_found (sym entire) ∙ found_below k (omega (arith, e)) ∙ ap (λ n. home ∷ found (all_came came n)) e
