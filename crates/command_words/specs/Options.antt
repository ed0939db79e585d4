-- What `clap` is told about each command.
use Rattle.std.specs.Prelude.{ℕ, Some, codes, true}
use Rattle.clap.specs.Words.{App, Rule, Text, new_app, new_rule, with_rule}
use Rattle.clap.specs.declared.builder.ArgAction.TheVariants.{Set, SetTrue}
use Rattle.clap.specs.declared.builder.ValueParser.TheVariants.{Bool, Unsigned}
use Rattle.command_words.specs.Ranges.{budgets, counts, grains, limits, rank_counts, seeds, server_counts}

-- a number from `low` to `high` by itself, which has to be given
abbrev pub number_rule : Text → ℕ → ℕ → Rule
number_rule name low high = record (new_rule name) {
  action = Some Set;
  parser = Some (Unsigned low high);
  required = true;
}

-- `--name X` or `--name=X`, with a number from `low` to `high`
abbrev pub option_rule : Text → ℕ → ℕ → Rule
option_rule name low high = record (new_rule name) {
  long = Some name;
  action = Some Set;
  parser = Some (Unsigned low high);
}

-- `--name`
abbrev pub flag_rule : Text → Rule
flag_rule name = record (new_rule name) { long = Some name; action = Some SetTrue; parser = Some Bool }

-- a command that has no help and no version, and whose words begin after its name
abbrev pub bare : Text → App
bare name =
    let a = new_app name in
    record a { top = record a.top { no_binary_name = true; disable_help_flag = true; disable_version_flag = true } }

-- a command that takes N and SEED as well
abbrev pub with_made : App → App
with_made a = with_rule
    (with_rule a (number_rule (codes "count") counts.low counts.high))
    (number_rule (codes "seed") seeds.low seeds.high)

-- a command that takes the sizes of a run as well
abbrev pub with_sizes : App → App
with_sizes a = with_rule
    (with_rule
    (with_rule a (option_rule (codes "ranks") rank_counts.low rank_counts.high))
    (option_rule (codes "servers") server_counts.low server_counts.high))
    (option_rule (codes "limit") limits.low limits.high)

-- a command that takes as well the sizes of a run, and whether it says how far it is
abbrev pub with_told_sizes : App → App
with_told_sizes a = with_rule (with_sizes a) (flag_rule (codes "progress"))

-- a command that takes the budget and the grain as well
abbrev pub with_work : App → App
with_work a = with_rule
    (with_rule a (option_rule (codes "budget") budgets.low budgets.high))
    (option_rule (codes "grain") grains.low grains.high)

-- a command that takes as well whether its run is in line, and whether it says how far it is
abbrev pub with_manner : App → App
with_manner a = with_rule (with_rule a (flag_rule (codes "inline"))) (flag_rule (codes "progress"))

-- a command that takes the options of a run as well
abbrev pub with_run : App → App
with_run a = with_manner (with_work (with_sizes a))

-- the options of `solve`
abbrev pub solve_app : App
solve_app = with_rule
    (with_rule (with_run (bare (codes "solve"))) (flag_rule (codes "stats")))
    (flag_rule (codes "ledger"))

-- the options of `check`
abbrev pub check_app : App
check_app = bare (codes "check")

-- the options of `make`
abbrev pub make_app : App
make_app = with_made (bare (codes "make"))

-- the options of `drill`
abbrev pub drill_app : App
drill_app = with_run (with_made (bare (codes "drill")))

-- the options of `tour`
abbrev pub tour_app : App
tour_app = with_told_sizes (bare (codes "tour"))

abbrev pub flow_app : App
flow_app = with_told_sizes (bare (codes "flow"))

-- the options of `draw`
abbrev pub draw_app : App
draw_app = bare (codes "draw")
