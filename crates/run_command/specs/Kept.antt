-- What is kept of a run beside what was written: the ledger of a legal run, and what the ranks said and found. What a command's input
-- asks is run by programs (`are_programs`, by the number of ranks), each of which follows its own relation (`follows`).
use Rattle.std.specs.Prelude.{◌≡◌, ◌<◌, ◌+◌, ◌++◌, ◌∷◌, ℕ, true, false, Bool, List, [], length, Option, Some, IfSome, All, slice_get}
use Rattle.adlb_threads.specs.Reports.{Reported}
use Rattle.adlb_threads.specs.Runs.{RisesBy}
use Rattle.adlb_unit.specs.declared.configs.Config.{Config}
use Rattle.adlb_unit.specs.declared.names.Rank.{Rank}
use Rattle.bag_ledger.specs.declared.entries.Said.{Said}
use Rattle.bag_ledger.specs.declared.states.UnitPlace.TheVariants.{Spent}
use Rattle.bag_ledger.specs.Bag.{Bag, start}
use Rattle.bag_ledger.specs.Runs.{IsRun, calls}
use Rattle.balance_law.specs.Orderly.{finish}
use Rattle.run_command.specs.Ends.{Scene, StartsNone}

-- what is kept of a run: its report, and whether it ran in threads
pub record Kept (O : Type 0) : Type 0 where
  pub report : Reported O
  pub threaded : Bool

-- the rank ran its program, had this outcome, and then finished: its calls in the ledger are those of the program at the outcome, and
-- Finish
pub record IsRunBy {P O : Type 0} (follows : P → Rank → List Said → O → Type 0) (programs : List P) (r : Reported O)
    (rank : Rank) : Type 0 where
  pub program : P
  pub said : List Said
  pub outcome : O
  pub program_is : slice_get programs rank.0 ≡ Some program
  pub outcome_is : slice_get r.outcomes rank.0 ≡ Some outcome
  pub calls_are : calls r.config r.ledger rank ≡ said ++ finish ∷ []
  pub followed : follows program rank said outcome

-- what is asked was run by its programs: the ledger is a legal run with the configuration of the report. Each rank's transcript is its
-- calls in the ledger, in order. Each rank ran its program. Where each accepted unit was fetched none is left
pub record HasRun {A P O : Type 0} (are_programs : ℕ → A → List P → Type 0) (follows : P → Rank → List Said → O → Type 0)
    (asked : A) (r : Reported O) : Type 0 where
  pub programs : List P
  pub are : are_programs r.config.ranks asked programs
  pub last : Bag
  pub legal : IsRun (start r.config) r.ledger last
  pub transcripts : (rank : Rank) → rank.0 < r.config.ranks → slice_get r.transcripts rank.0 ≡ Some (calls r.config r.ledger rank)
  pub all : length r.transcripts ≡ r.config.ranks
  pub each : (rank : Rank) → rank.0 < r.config.ranks → IsRunBy follows programs r rank
  pub outcomes : length r.outcomes ≡ r.config.ranks
  pub left : All (λ u. u.place ≡ Spent) last.units → r.left ≡ []

-- all work is done where the ledger leads: each accepted unit was fetched, and each common part was freed
abbrev pub IsWorkedUp : {O : Type 0} → Reported O → Type 0
IsWorkedUp r = (last : Bag) → IsRun (start r.config) r.ledger last →
    All (λ u. u.place ≡ Spent) last.units × All (λ p. (p.closed ≡ true) × (p.freed ≡ true)) last.parts

-- what is asked was run by its programs, all work is done, and no unit is left
pub record IsKept {A P O : Type 0} (are_programs : ℕ → A → List P → Type 0) (follows : P → Rank → List Said → O → Type 0)
    (asked : A) (k : Kept O) : Type 0 where
  pub run : HasRun are_programs follows asked k.report
  pub worked_up : IsWorkedUp k.report
  pub left : k.report.left ≡ []

-- a run in line or with threads: what it keeps has such numbers. With threads, what is kept is of a run in threads, which is one run of
-- all actors (`Kept::one_run`). A thread for each rank and for each server was started, or the count is at its last value. A run in
-- line leaves the spawner alone.
pub record IsRunWith {O : Type 0} (IsOf : Config → Type 0) (inline : Bool) (before after : Scene) (kept : Option (Kept O)) : Type 0 where
  pub numbers : IfSome kept (λ k. IsOf k.report.config)
  pub threaded : inline ≡ false →
      IfSome kept (λ k. (k.threaded ≡ true) × RisesBy (k.report.config.ranks + k.report.config.servers) before.started after.started)
  pub untouched : inline ≡ true → StartsNone before after
