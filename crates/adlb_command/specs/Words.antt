-- What the words say of a run.
use Rattle.std.specs.Prelude.{◌≡◌, ℕ, Bool, if◌then◌else◌}
use Rattle.adlb_unit.specs.declared.configs.Config.{Config}
use Rattle.command_words.specs.declared.commands.RunOptions.{RunOptions}
use Rattle.command_words.specs.declared.commands.Sizes.{Sizes}
use Rattle.command_words.specs.declared.commands.SolveWords.{SolveWords}
use Rattle.puzzle_app.specs.declared.outcomes.Settings.{Settings}
use Rattle.solve_report.specs.declared.extras.Extras.{Extras}

-- the settings of the puzzles, and what follows the report
abbrev pub settings_of : RunOptions → Settings
settings_of options = record { budget = options.budget; grain = options.grain }

-- what `solve` is to write after the report
abbrev pub extras_of : SolveWords → Extras
extras_of words = record { stats = words.stats; ledger = words.ledger }

-- these options, but that the run's progress is said or not
abbrev pub told_or_not : Bool → RunOptions → RunOptions
told_or_not told options = record options { progress = told }

-- how many ranks a run has: as the sizes say, but one in line
abbrev pub ranks_of : Sizes → Bool → ℕ
ranks_of sizes inline = if inline then 1 else sizes.ranks

-- the numbers of a run: ranks, servers and their limit as the sizes say, but one rank and one server in line
pub record IsConfigOf (sizes : Sizes) (inline : Bool) (config : Config) : Type 0 where
  pub ranks : config.ranks ≡ ranks_of sizes inline
  pub servers : config.servers ≡ (if inline then 1 else sizes.servers)
  pub limit : config.limit ≡ sizes.limit
