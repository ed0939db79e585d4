-- Which command lines are accepted, and what they say.
use Rattle.std.specs.Prelude.{ℕ, Bool, List, [], ◌∷◌, ◌&&◌, Option, Some, None, codes, false, not, ⊤, if◌then◌else◌}
use Rattle.std.specs.Option.{option_map_or}
use Rattle.std.specs.Str.{bytes_eq}
use Rattle.std.specs.Str.Parse.{digits_value, without_leading_plus}
use Rattle.adlb_unit.specs.Limits.{InLimit}
use Rattle.clap.specs.Words.{App, Kinds, Row, Text, fault_of, matches_of, one_of}
use Rattle.command_words.specs.Options.{check_app, draw_app, drill_app, flow_app, make_app, solve_app, tour_app}
use Rattle.command_words.specs.Ranges.{IsIn, budgets, counts, grains, limits, rank_counts, seeds, server_counts}
use Rattle.command_words.specs.declared.commands.Command.{Command}
use Rattle.command_words.specs.declared.commands.Command.TheVariants.{Solve, Check, Make, Drill, Tour, Flow, Draw}
use Rattle.command_words.specs.declared.commands.RunOptions.{RunOptions}
use Rattle.command_words.specs.declared.commands.RunWords.{RunWords}
use Rattle.command_words.specs.declared.commands.Sizes.{Sizes}

-- the number that is given under this name, in decimal digits; `default` where none is
abbrev pub number_of : Text → ℕ → List Row → ℕ
number_of name default rows = option_map_or (λ t. digits_value 10 (without_leading_plus t)) (one_of name rows) default

-- the flag of this name is given
abbrev pub flag_of : Text → List Row → Bool
flag_of name rows = option_map_or (λ t. bytes_eq t (codes "true")) (one_of name rows) false

-- the sizes of a run
abbrev pub sizes_of : List Row → Sizes
sizes_of rows = record {
  ranks = number_of (codes "ranks") rank_counts.default rows;
  servers = number_of (codes "servers") server_counts.default rows;
  limit = number_of (codes "limit") limits.default rows;
}

-- the options of a run over puzzles
abbrev pub run_of : List Row → RunOptions
run_of rows = record {
  sizes = sizes_of rows;
  budget = number_of (codes "budget") budgets.default rows;
  grain = number_of (codes "grain") grains.default rows;
  inline = flag_of (codes "inline") rows;
  progress = flag_of (codes "progress") rows;
}

-- the words of a run that has no other options
abbrev pub words_of : List Row → RunWords
words_of rows = record { sizes = sizes_of rows; progress = flag_of (codes "progress") rows }

-- where no option is given
abbrev pub default_run : RunOptions
default_run = run_of []

-- what each command says
abbrev pub solve_of : List Row → Command
solve_of rows = Solve (record {
  options = run_of rows;
  stats = flag_of (codes "stats") rows;
  ledger = flag_of (codes "ledger") rows;
})

-- `check`
abbrev pub check_of : List Row → Command
check_of rows = Check

-- `make` with its numbers
abbrev pub make_of : List Row → Command
make_of rows = Make (number_of (codes "count") counts.default rows) (number_of (codes "seed") seeds.default rows)

-- `drill` with its numbers and options
abbrev pub drill_of : List Row → Command
drill_of rows = Drill
    (number_of (codes "count") counts.default rows)
    (number_of (codes "seed") seeds.default rows)
    (run_of rows)

-- `tour` with its options
abbrev pub tour_of : List Row → Command
tour_of rows = Tour (words_of rows)

abbrev pub flow_of : List Row → Command
flow_of rows = Flow (words_of rows)

-- `draw`
abbrev pub draw_of : List Row → Command
draw_of rows = Draw

-- the command, unless there is a fault
abbrev pub unless : Kinds → Command → Option Command
unless [] command = Some command
unless (fault ∷ faults) command = None

-- what the words after a command say, where `clap` finds no fault in them
abbrev pub read_by : App → (List Row → Command) → List Text → Option Command
read_by app says words = unless (fault_of app words) (says (matches_of app words))

-- the first word is the command, and `clap` reads the words after it
abbrev pub command_of : List Text → Option Command
command_of [] = None
command_of (word ∷ words) =
    if bytes_eq word (codes "solve") then read_by solve_app solve_of words
    else (if bytes_eq word (codes "check") then read_by check_app check_of words
    else (if bytes_eq word (codes "make") then read_by make_app make_of words
    else (if bytes_eq word (codes "drill") then read_by drill_app drill_of words
    else (if bytes_eq word (codes "tour") then read_by tour_app tour_of words
    else (if bytes_eq word (codes "flow") then read_by flow_app flow_of words
    else (if bytes_eq word (codes "draw") then read_by draw_app draw_of words
    else None))))))

-- a run in threads tells each second how far it is
abbrev pub run_tells : RunOptions → Bool
run_tells run = run.progress && not run.inline

-- the command says how far its run is
abbrev pub tells_progress : Command → Bool
tells_progress (Solve words) = run_tells words.options
tells_progress (Drill count seed run) = run_tells run
tells_progress (Tour words) = words.progress
tells_progress (Flow words) = words.progress
tells_progress _ = false

-- the numbers of a run are within their limits
pub record AreWithin (sizes : Sizes) : Type 0 where
  pub ranks : IsIn rank_counts sizes.ranks
  pub servers : IsIn server_counts sizes.servers
  pub limit : InLimit sizes.limit

-- the options of a run are within their ranges
pub record IsRunWithin (run : RunOptions) : Type 0 where
  pub sizes : AreWithin run.sizes
  pub budget : IsIn budgets run.budget
  pub grain : IsIn grains run.grain

-- and so are all numbers of a command
abbrev pub IsWithin : Command → Type 0
IsWithin (Solve words) = IsRunWithin words.options
IsWithin Check = ⊤
IsWithin (Make count seed) = IsIn counts count
IsWithin (Drill count seed run) = IsIn counts count × IsRunWithin run
IsWithin (Tour words) = AreWithin words.sizes
IsWithin (Flow words) = AreWithin words.sizes
IsWithin Draw = ⊤
