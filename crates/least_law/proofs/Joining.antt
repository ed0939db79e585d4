-- How ledger and programs are joined, over the law of what every run of orderly ranks conserves.
use Rattle.std.proofs.Common.{◌≡◌, ◌<◌, true, List, All, sym, subst}
use Rattle.adlb_unit.specs.declared.configs.Config.{Config}
use Rattle.bag_ledger.specs.declared.entries.Entry.{Entry}
use Rattle.bag_ledger.specs.declared.states.UnitPlace.TheVariants.{Spent}
use Rattle.bag_ledger.specs.Bag.{Bag, start}
use Rattle.bag_ledger.specs.Runs.{IsRun}
use Rattle.balance_law.specs.Balanced.{AreOrderly, IsBalanced}
use Rattle.work_law.specs.Together.{all_came}
use Rattle.work_law.proofs.Together.{together, workers_orderly}
use Rattle.tour_app.specs.Found.{HoldLeast, all_found}
use Rattle.tour_app.specs.Starts.{StartModel, costs}
use Rattle.tour_app.specs.Works.{tours}
use Rattle.tour_app.specs.declared.outcomes.TourOutcome.{TourOutcome}
use Rattle.tour_app.proofs.Read.{is_work}
use Rattle.least_law.specs.Joined.{IsTourRun, StartsWell}
use Rattle.least_law.proofs.Least.{least_is_held}
use Rattle.least_law.proofs.Ranks.{all_found_is, came, first_at, worker}

-- what is conserved in every legal run of orderly ranks
abbrev Conserves : Type 0
Conserves =
    (config : Config) (ledger : List Entry) (last : Bag) → 0 < config.ranks → IsRun (start config) ledger last → AreOrderly config ledger →
    IsBalanced config ledger last

run_balanced : Conserves → (config : Config) (ledger : List Entry) (last : Bag) (s : StartModel) (outcomes : List TourOutcome) →
    0 < config.ranks → IsRun (start config) ledger last → IsTourRun config ledger s outcomes → IsBalanced config ledger last
run_balanced conserves config ledger last s outcomes some legal run =
    conserves config ledger last some legal
    (workers_orderly tours is_work config ledger some (first_at s) (came config ledger s outcomes run)
    (worker config ledger s outcomes run))

-- if a legal run over tours is finished, the tours that its ranks found hold the least one
pub joined_least : Conserves → (config : Config) (ledger : List Entry) (last : Bag) (s : StartModel) (outcomes : List TourOutcome) →
    0 < config.ranks → IsRun (start config) ledger last → StartsWell s → IsTourRun config ledger s outcomes →
    HoldLeast s.cities.count (costs s) (all_found outcomes)
joined_least conserves config ledger last s outcomes some legal starts run =
    let balanced = run_balanced conserves config ledger last s outcomes some legal run in
    let its = came config ledger s outcomes run in
    subst (HoldLeast s.cities.count (costs s)) (sym (all_found_is config ledger s outcomes run last balanced some))
    (least_is_held s starts config.ranks some (all_came its config.ranks)
    (together tours is_work config ledger last balanced (first_at s) its (worker config ledger s outcomes run)))

-- at the end of such a run each unit is spent
pub joined_spent : Conserves → (config : Config) (ledger : List Entry) (last : Bag) (s : StartModel) (outcomes : List TourOutcome) →
    0 < config.ranks → IsRun (start config) ledger last → IsTourRun config ledger s outcomes → All (λ u. u.place ≡ Spent) last.units
joined_spent conserves config ledger last s outcomes some legal run =
    (run_balanced conserves config ledger last s outcomes some legal run).spent

-- at the end of such a run each part is closed and freed
pub joined_freed : Conserves → (config : Config) (ledger : List Entry) (last : Bag) (s : StartModel) (outcomes : List TourOutcome) →
    0 < config.ranks → IsRun (start config) ledger last → IsTourRun config ledger s outcomes →
    All (λ p. (p.closed ≡ true) × (p.freed ≡ true)) last.parts
joined_freed conserves config ledger last s outcomes some legal run =
    (run_balanced conserves config ledger last s outcomes some legal run).freed
