-- How a command ends, by what the words say.
use Rattle.std.specs.Prelude.{◌≡◌, ◌⊎◌, ℕ, false, Option, Some, None, Result, option_map}
use Rattle.adlb_io.specs.Inputs.{Seen, seen}
use Rattle.command_words.specs.declared.commands.Command.{Command}
use Rattle.command_words.specs.declared.commands.Command.TheVariants.{Solve, Check, Make, Drill, Tour, Flow, Draw}
use Rattle.command_words.specs.declared.commands.RunOptions.{RunOptions}
use Rattle.command_words.specs.declared.commands.RunWords.{RunWords}
use Rattle.command_words.specs.declared.commands.SolveWords.{SolveWords}
use Rattle.draw_command.specs.Ends.{DrawsTo}
use Rattle.flow_app.specs.declared.faults.FlowWhy.{FlowWhy}
use Rattle.flow_app.specs.declared.finishing.FlowOutcome.{FlowOutcome}
use Rattle.flow_command.specs.Ends.{FindsValues}
use Rattle.job_report.specs.declared.outcomes.Outcome.{Outcome}
use Rattle.job_text.specs.declared.faults.LineWhy as of_jobs
use Rattle.ledger_command.specs.Ends.{ChecksTo}
use Rattle.ledger_command.specs.declared.faults.CheckFault.{CheckFault}
use Rattle.ledger_command.specs.declared.verdicts.Verdict.{Verdict}
use Rattle.ledger_picture.specs.declared.numbers.Numbers.{Numbers}
use Rattle.made_jobs.specs.Ends.{MakesTo, sink_seen}
use Rattle.made_jobs.specs.Made.{made_text}
use Rattle.made_jobs.specs.declared.faults.MadeFault.{MadeFault}
use Rattle.run_command.specs.Ends.{IsSilent, ReadsNothing, Scene, StartsNone}
use Rattle.run_command.specs.declared.faults.Fault.{Fault}
use Rattle.run_command.specs.Kept.{Kept}
use Rattle.solve_command.specs.Ends.{Drills, Solves}
use Rattle.solve_report.specs.Told.{behind}
use Rattle.tour_app.specs.declared.outcomes.TourOutcome.{TourOutcome}
use Rattle.tour_command.specs.Ends.{FindsTour}
use Rattle.tour_search.specs.declared.faults.CitiesWhy.{CitiesWhy}
use Rattle.command_ends.specs.Ends.{fault_made, fault_run, fault_told, why_of, why_of_cities, why_of_flow}
use Rattle.adlb_command.specs.Words.{IsConfigOf, extras_of, ranks_of, settings_of}
use Rattle.command_ends.specs.declared.ends.AnyKept.{AnyKept}
use Rattle.command_ends.specs.declared.ends.AnyKept.TheVariants.{Puzzles, Tours, Flows}
use Rattle.command_ends.specs.declared.reasons.LineWhy.{LineWhy}
use Rattle.command_ends.specs.declared.faults.RunFault.{RunFault}
use Rattle.command_ends.specs.declared.faults.RunFault.TheVariants.{Usage, Memory}

-- what `check` and `draw` see of the outside
abbrev pub seen_in : Scene → Seen
seen_in s = seen s.left s.reads s.taken s.writes s.flushed

-- the words say nothing: nothing was read or written, nothing is kept, and no thread was started
pub record EndsUnsaid (before after : Scene) (fault : Option RunFault) (kept : Option AnyKept) : Type 0 where
  pub cause : (fault ≡ Some Usage) ⊎ (fault ≡ Some Memory)
  pub unread : ReadsNothing before after
  pub silent : IsSilent before after kept
  pub none_started : StartsNone before after

-- the ends of `solve`, of `drill`, of `tour` and of `flow` with these words
abbrev pub SolvesAs : SolveWords → Scene → Scene → Option (Fault of_jobs.LineWhy) → Option (Kept Outcome) → Type 0
SolvesAs words before after met kept =
    let o = words.options in
    Solves (settings_of o) (behind (extras_of words)) (ranks_of o.sizes o.inline) (IsConfigOf o.sizes o.inline) o.inline
    before after met kept

-- how `drill` ends with these words
abbrev pub DrillsAs : ℕ → ℕ → RunOptions → Scene → Scene → Option (Fault of_jobs.LineWhy) → Option (Kept Outcome) → Type 0
DrillsAs count seed options before after met kept =
    let o = options in
    Drills count seed (settings_of o) (ranks_of o.sizes o.inline) (IsConfigOf o.sizes o.inline) o.inline before after met kept

-- how `tour` ends with these words
abbrev pub ToursAs : RunWords → Scene → Scene → Option (Fault CitiesWhy) → Option (Kept TourOutcome) → Type 0
ToursAs words before after met kept = FindsTour (IsConfigOf words.sizes false) before after met kept

-- how `flow` ends with these words
abbrev pub FlowsAs : RunWords → Scene → Scene → Option (Fault FlowWhy) → Option (Kept FlowOutcome) → Type 0
FlowsAs words before after met kept = FindsValues words.sizes.ranks (IsConfigOf words.sizes false) before after met kept

-- a run of ranks ended so, with this fault of its own and this kept, which mean these
pub record EndsAsRun {W O : Type 0} (means : W → LineWhy) (holds : Kept O → AnyKept) (ends : Option (Fault W) → Option (Kept O) → Type 0)
    (fault : Option RunFault) (kept : Option AnyKept) : Type 0 where
  pub met : Option (Fault W)
  pub own : Option (Kept O)
  pub fault_is : fault ≡ option_map (fault_run means) met
  pub kept_is : kept ≡ option_map holds own
  pub ended : ends met own

-- the ends of `check`: it ends as the check of the ledger did, keeps nothing, and starts no thread
pub record EndsAsChecked (before after : Scene) (fault : Option RunFault) (kept : Option AnyKept) : Type 0 where
  pub checked : Result Verdict CheckFault
  pub fault_is : fault ≡ fault_told checked
  pub ends : ChecksTo (seen_in before) (seen_in after) checked
  pub none_kept : kept ≡ None
  pub none_started : StartsNone before after

-- the ends of `draw`: it ends as the drawing of the ledger did, keeps nothing, and starts no thread
pub record EndsAsDrawn (before after : Scene) (fault : Option RunFault) (kept : Option AnyKept) : Type 0 where
  pub drawn : Result Numbers CheckFault
  pub fault_is : fault ≡ fault_told drawn
  pub ends : DrawsTo (seen_in before) (seen_in after) drawn
  pub none_kept : kept ≡ None
  pub none_started : StartsNone before after

-- the ends of `make`: the made text was written, or a part of it; nothing was read, nothing is kept, and no thread was started
pub record EndsAsMade (count seed : ℕ) (before after : Scene) (fault : Option RunFault) (kept : Option AnyKept) : Type 0 where
  pub made : Result (Unit {0}) MadeFault
  pub fault_is : fault ≡ fault_made made
  pub ends : MakesTo (made_text count seed) (sink_seen before.taken before.writes before.flushed)
      (sink_seen after.taken after.writes after.flushed) made
  pub unread : ReadsNothing before after
  pub none_kept : kept ≡ None
  pub none_started : StartsNone before after

-- the ends of the command that the words say, if they say one
abbrev pub EndsAs : Option Command → Scene → Scene → Option RunFault → Option AnyKept → Type 0
EndsAs None before after fault kept = EndsUnsaid before after fault kept
EndsAs (Some (Solve words)) before after fault kept = EndsAsRun why_of Puzzles (SolvesAs words before after) fault kept
EndsAs (Some Check) before after fault kept = EndsAsChecked before after fault kept
EndsAs (Some (Make count seed)) before after fault kept = EndsAsMade count seed before after fault kept
EndsAs (Some (Drill count seed options)) before after fault kept =
    EndsAsRun why_of Puzzles (DrillsAs count seed options before after) fault kept
EndsAs (Some (Tour words)) before after fault kept = EndsAsRun why_of_cities Tours (ToursAs words before after) fault kept
EndsAs (Some (Flow words)) before after fault kept = EndsAsRun why_of_flow Flows (FlowsAs words before after) fault kept
EndsAs (Some Draw) before after fault kept = EndsAsDrawn before after fault kept
