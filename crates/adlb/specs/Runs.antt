-- A run of one program on every rank.
use Rattle.std.specs.Prelude.{ℕ, ◌≡◌, List, All, length}
use Rattle.adlb_unit.specs.declared.configs.Config.{Config}
use Rattle.adlb_unit.specs.declared.names.Rank.{Rank}
use Rattle.bag_ledger.specs.declared.entries.Said.{Said}
use Rattle.adlb_threads.specs.Reports.{Reported}
use Rattle.adlb_threads.specs.Runs.{IsRunOf}

-- it is a run of this number of programs, of which each is this one
pub record IsRunOfEach {P O : Type 0} (follows : P → Rank → List Said → O → Type 0) (program : P) (ranks : ℕ)
    (r : Reported O) : Type 0 where
  pub config : Config
  pub programs : List P
  pub ranks_are : config.ranks ≡ ranks
  pub long : length programs ≡ ranks
  pub all : All (λ p. p ≡ program) programs
  pub run : IsRunOf config follows programs r
