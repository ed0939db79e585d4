-- What is written of a run over puzzles and batches.
use Rattle.std.specs.Prelude.{◌≡◌, ◌++◌, ℕ, Bool, List, [], length, if◌then◌else◌, codes, decimal}
use Rattle.run_command.specs.Reports.{Reported}
use Rattle.job_report.specs.Report.{IsReport}
use Rattle.job_report.specs.Summary.{summary}
use Rattle.job_report.specs.declared.outcomes.Outcome.{Outcome}
use Rattle.job_text.specs.declared.jobs.Job.{Job}
use Rattle.ledger_file.specs.Lines.{text}
use Rattle.ledger_stats.specs.Stats.{stats_text}
use Rattle.puzzle_app.specs.declared.outcomes.Settings.{Settings}
use Rattle.solve_report.specs.declared.extras.Extras.{Extras}
use Rattle.solve_report.specs.declared.wanted.Wanted.{Wanted}
use Rattle.solve_report.specs.declared.wanted.Wanted.TheVariants.{Report, Summary}

-- the report of the jobs, and after it this tail of what is kept
abbrev pub IsReported : Settings → (Reported Outcome → List ℕ) → List Job → Reported Outcome → List ℕ → Type 0
IsReported settings tail jobs r told =
    (report : List ℕ) × IsReport settings.budget settings.grain jobs report × (told ≡ report ++ tail r)

-- the first line of a summary: what was drilled
abbrev pub drill_line : ℕ → ℕ → List ℕ
drill_line count seed = codes "drill " ++ decimal count ++ codes " " ++ decimal seed ++ codes "\n"

-- the summary of a drill
abbrev pub IsSummed : Settings → ℕ → ℕ → List Job → Reported Outcome → List ℕ → Type 0
IsSummed settings count seed jobs r told = told ≡ drill_line count seed ++ summary settings.budget settings.grain jobs

-- what is wanted: one of the two
abbrev pub IsTold : {E : Type 0} → (E → Reported Outcome → List ℕ) → Settings → Wanted E → List Job → Reported Outcome → List ℕ → Type 0
IsTold tail settings (Report extra) jobs r told = IsReported settings (tail extra) jobs r told
IsTold tail settings (Summary count seed) jobs r told = IsSummed settings count seed jobs r told

-- A tail: the counts of the kept ledger, and its text, if they are asked for.

-- the counts of the ledger, if they are asked for
abbrev pub stats_behind : Bool → Reported Outcome → List ℕ
stats_behind asked r = if asked then stats_text r.ledger (length r.left) else []

-- the text of the ledger, if it is asked for
abbrev pub ledger_behind : Bool → Reported Outcome → List ℕ
ledger_behind asked r = if asked then text r.config r.ledger else []

-- what is written after the report
abbrev pub behind : Extras → Reported Outcome → List ℕ
behind extras r = stats_behind extras.stats r ++ ledger_behind extras.ledger r
