-- How the top call ends, by what the words say.
use Rattle.std.proofs.Common.{◌≡◌, ◌⊎◌, ℕ, false, Option, Some, None, Result, Ok, Err, refl, sym, subst, inl, inr}
use Rattle.std.specs.Prelude.{option_map}
use Rattle.adlb_unit.specs.declared.configs.Config.{Config}
use Rattle.command_words.specs.declared.commands.Command.{Command}
use Rattle.command_words.specs.declared.commands.Command.TheVariants.{Solve, Check, Make, Drill, Tour, Flow, Draw}
use Rattle.command_words.specs.declared.commands.RunOptions.{RunOptions}
use Rattle.command_words.specs.declared.commands.RunWords.{RunWords}
use Rattle.command_words.specs.declared.commands.SolveWords.{SolveWords}
use Rattle.command_words.specs.declared.commands.WordsFault.{WordsFault}
use Rattle.command_words.specs.declared.commands.WordsFault.TheVariants as words
use Rattle.flow_app.specs.declared.faults.FlowWhy.{FlowWhy}
use Rattle.flow_app.specs.declared.finishing.FlowOutcome.{FlowOutcome}
use Rattle.flow_command.proofs.Starting.{flowed_early}
use Rattle.flow_command.specs.Ends as flows
use Rattle.flow_command.specs.Ends.{FindsValues}
use Rattle.job_report.specs.declared.outcomes.Outcome.{Outcome}
use Rattle.job_text.specs.declared.faults.LineWhy as of_jobs
use Rattle.ledger_command.specs.declared.faults.CheckFault.{CheckFault}
use Rattle.ledger_command.specs.declared.faults.CheckFault.TheVariants as checks
use Rattle.made_jobs.specs.Made.{made_text}
use Rattle.made_jobs.specs.declared.faults.MadeFault.{MadeFault}
use Rattle.made_jobs.specs.declared.faults.MadeFault.TheVariants as makes
use Rattle.puzzle_app.specs.declared.outcomes.Settings.{Settings}
use Rattle.run_command.proofs.Running.{ran_as}
use Rattle.run_command.specs.Ends.{ReadsNothing, Scene, StartsNone}
use Rattle.run_command.specs.declared.faults.Fault.{Fault}
use Rattle.run_command.specs.declared.faults.Fault.TheVariants as runs
use Rattle.run_command.specs.Kept.{Kept}
use Rattle.solve_command.proofs.Starting.{drilled_early, solved_early}
use Rattle.solve_command.specs.Ends.{Drills, Solves}
use Rattle.solve_report.specs.Told.{behind}
use Rattle.solve_report.specs.declared.extras.Extras.{Extras}
use Rattle.tour_app.specs.declared.outcomes.TourOutcome.{TourOutcome}
use Rattle.tour_command.proofs.Starting.{toured_early}
use Rattle.tour_command.specs.Ends.{FindsTour}
use Rattle.tour_search.specs.declared.faults.CitiesWhy.{CitiesWhy}
use Rattle.adlb_command.proofs.Made.{none_taken}
use Rattle.command_ends.specs.Ends.{fault_made, fault_run, fault_said, fault_told, why_of, why_of_cities, why_of_flow}
use Rattle.adlb_command.specs.Top.{DrillsAs, EndsAs, EndsAsChecked, EndsAsDrawn, EndsAsMade, EndsAsRun, EndsUnsaid, FlowsAs, SolvesAs}
use Rattle.adlb_command.specs.Top.{ToursAs}
use Rattle.adlb_command.specs.Words.{IsConfigOf, extras_of, ranks_of, settings_of}
use Rattle.command_ends.specs.declared.ends.AnyKept.{AnyKept}
use Rattle.command_ends.specs.declared.ends.AnyKept.TheVariants.{Puzzles, Tours, Flows}
use Rattle.command_ends.specs.declared.reasons.LineWhy.{LineWhy}
use Rattle.command_ends.specs.declared.faults.RunFault.{RunFault}
use Rattle.command_ends.specs.declared.faults.RunFault.TheVariants.{Usage, Memory}

module _ (here : Scene) where
  reads_nothing : ReadsNothing here here
  reads_nothing = record { left = refl; reads = refl }

  starts_none : StartsNone here here
  starts_none = record { refused = refl; started = refl }

  unsaid : (fault : Option RunFault) → (fault ≡ Some Usage) ⊎ (fault ≡ Some Memory) → EndsUnsaid here here fault None
  unsaid fault cause = record {
    cause = cause;
    unread = reads_nothing;
    silent = record { nothing = refl; none_kept = refl };
    none_started = starts_none;
  }

  -- an allocation failed before anything was done, whatever the words say
  out_of_memory : (said : Option Command) → EndsAs said here here (Some Memory) None
  out_of_memory None = unsaid (Some Memory) (inr refl)
  out_of_memory (Some (Solve w)) = record {
    met = Some runs.Memory;
    own = None;
    fault_is = refl;
    kept_is = refl;
    ended = solved_early (settings_of w.options) (ranks_of w.options.sizes w.options.inline)
        (IsConfigOf w.options.sizes w.options.inline) w.options.inline here here refl starts_none (behind (extras_of w));
  }
  out_of_memory (Some Check) = record {
    checked = Err checks.Memory;
    fault_is = refl;
    ends = (refl, inl refl);
    none_kept = refl;
    none_started = starts_none;
  }
  out_of_memory (Some Draw) = record {
    drawn = Err checks.Memory;
    fault_is = refl;
    ends = (refl, inl refl);
    none_kept = refl;
    none_started = starts_none;
  }
  out_of_memory (Some (Make count seed)) = record {
    made = Err makes.Memory;
    fault_is = refl;
    ends = none_taken here.taken here.taken (made_text count seed) refl;
    unread = reads_nothing;
    none_kept = refl;
    none_started = starts_none;
  }
  out_of_memory (Some (Drill count seed options)) = record {
    met = Some runs.Memory;
    own = None;
    fault_is = refl;
    kept_is = refl;
    ended = drilled_early (settings_of options) (ranks_of options.sizes options.inline) (IsConfigOf options.sizes options.inline)
        options.inline here here refl starts_none count seed reads_nothing;
  }
  out_of_memory (Some (Tour w)) = record {
    met = Some runs.Memory;
    own = None;
    fault_is = refl;
    kept_is = refl;
    ended = toured_early (IsConfigOf w.sizes false) here here refl starts_none;
  }
  out_of_memory (Some (Flow w)) = record {
    met = Some runs.Memory;
    own = None;
    fault_is = refl;
    kept_is = refl;
    ended = flowed_early w.sizes.ranks (IsConfigOf w.sizes false) here here refl starts_none;
  }

  -- the words were not read
  unread_as : (said : Option Command) (met : WordsFault) → (met ≡ words.Usage → said ≡ None)
      → EndsAs said here here (Some (fault_said met)) None
  unread_as said words.Usage none = subst (λ s. EndsAs s here here (Some Usage) None) (sym (none refl)) (unsaid (Some Usage) (inl refl))
  unread_as said words.Memory none = out_of_memory said

  -- a fault before anything is read ends the command with nothing read and no report
  pub ends_unread : (said : Option Command) (met : WordsFault) (fault : Option RunFault) (kept : Option AnyKept) →
      (met ≡ words.Usage → said ≡ None) → fault ≡ Some (fault_said met) → kept ≡ None → EndsAs said here here fault kept
  ends_unread said met fault kept none is nothing =
      subst (λ f. EndsAs said here here f kept) (sym is)
      (subst (λ k. EndsAs said here here (Some (fault_said met)) k) (sym nothing) (unread_as said met none))

-- The words say a run over puzzles and batches, and this is how it ended.

module _ (before after : Scene) (met : Option (Fault of_jobs.LineWhy)) (own : Option (Kept Outcome)) (settings : Settings) (config : Config)
  where
    -- how `solve` ends by its run is how it ends by its words
    pub solved_said : (w : SolveWords) (extras : Extras) → settings ≡ settings_of w.options → extras ≡ extras_of w
        → IsConfigOf w.options.sizes w.options.inline config →
        Solves settings (behind extras) config.ranks (λ x. x ≡ config) w.options.inline before after met own →
        SolvesAs w before after met own
    solved_said w extras set extra is solved =
        let IsOf : Config → Type 0 = λ x. x ≡ config in
        let n : ℕ = ranks_of w.options.sizes w.options.inline in
        let here : Solves (settings_of w.options) (behind (extras_of w)) n IsOf w.options.inline before after met own =
        subst (λ (s : Settings). Solves s (behind (extras_of w)) n IsOf w.options.inline before after met own) set
        (subst (λ (e : Extras). Solves settings (behind e) n IsOf w.options.inline before after met own) extra
        (subst (λ k. Solves settings (behind extras) k IsOf w.options.inline before after met own) is.ranks solved)) in
        record {
          ends = here.ends;
          run = ran_as config before after (IsConfigOf w.options.sizes w.options.inline) is w.options.inline own here.run;
        }

    -- how `drill` ends by its run is how it ends by its words
    pub drilled_said : (count seed : ℕ) (options : RunOptions) → settings ≡ settings_of options
        → IsConfigOf options.sizes options.inline config →
        Drills count seed settings config.ranks (λ x. x ≡ config) options.inline before after met own →
        DrillsAs count seed options before after met own
    drilled_said count seed options set is drilled =
        let IsOf : Config → Type 0 = λ x. x ≡ config in
        let n : ℕ = ranks_of options.sizes options.inline in
        let here : Drills count seed (settings_of options) n IsOf options.inline before after met own =
        subst (λ (s : Settings). Drills count seed s n IsOf options.inline before after met own) set
        (subst (λ k. Drills count seed settings k IsOf options.inline before after met own) is.ranks drilled) in
        record {
          rest = here.rest;
          ends = here.ends;
          run = ran_as config before after (IsConfigOf options.sizes options.inline) is options.inline own here.run;
          unread = here.unread;
        }

-- The words say a run over cities, and this is how it ended.

-- how `tour` ends by its run is how it ends by its words
pub toured_said : (before after : Scene) (met : Option (Fault CitiesWhy)) (own : Option (Kept TourOutcome)) (config : Config)
    (w : RunWords) → IsConfigOf w.sizes false config → FindsTour (λ x. x ≡ config) before after met own → ToursAs w before after met own
toured_said before after met own config w is found = record {
  ends = found.ends;
  run = ran_as config before after (IsConfigOf w.sizes false) is false own found.run;
}

-- The words say a run over a flow, and this is how it ended.

pub flowed_said : (before after : Scene) (met : Option (Fault FlowWhy)) (own : Option (Kept FlowOutcome)) (config : Config)
    (w : RunWords) → IsConfigOf w.sizes false config → FindsValues config.ranks (λ x. x ≡ config) before after met own →
    FlowsAs w before after met own
flowed_said before after met own config w is found = record {
  ends = subst (λ n. flows.EndsWith n before after met own) is.ranks found.ends;
  run = ran_as config before after (IsConfigOf w.sizes false) is false own found.run;
}

-- The words say a command, and this is how it ended.

module _ (said : Option Command) (before after : Scene) (fault : Option RunFault) (kept : Option AnyKept) where
  -- a command that says `solve` ends as `solve` does
  pub ends_solved : (w : SolveWords) → said ≡ Some (Solve w) → (met : Option (Fault of_jobs.LineWhy)) (own : Option (Kept Outcome)) →
      fault ≡ option_map (fault_run why_of) met → kept ≡ option_map Puzzles own → SolvesAs w before after met own →
      EndsAs said before after fault kept
  ends_solved w is met own fault_is same ended =
      let run : EndsAsRun why_of Puzzles (SolvesAs w before after) fault kept =
      record { met = met; own = own; fault_is = fault_is; kept_is = same; ended = ended } in
      subst (λ s. EndsAs s before after fault kept) (sym is) run

  -- a command that says `drill` ends as `drill` does
  pub ends_drilled : (count seed : ℕ) (options : RunOptions) → said ≡ Some (Drill count seed options) →
      (met : Option (Fault of_jobs.LineWhy)) (own : Option (Kept Outcome)) → fault ≡ option_map (fault_run why_of) met →
      kept ≡ option_map Puzzles own → DrillsAs count seed options before after met own → EndsAs said before after fault kept
  ends_drilled count seed options is met own fault_is same ended =
      let run : EndsAsRun why_of Puzzles (DrillsAs count seed options before after) fault kept =
      record { met = met; own = own; fault_is = fault_is; kept_is = same; ended = ended } in
      subst (λ s. EndsAs s before after fault kept) (sym is) run

  -- a command that says `tour` ends as `tour` does
  pub ends_toured : (w : RunWords) → said ≡ Some (Tour w) → (met : Option (Fault CitiesWhy)) (own : Option (Kept TourOutcome)) →
      fault ≡ option_map (fault_run why_of_cities) met → kept ≡ option_map Tours own → ToursAs w before after met own →
      EndsAs said before after fault kept
  ends_toured w is met own fault_is same ended =
      let run : EndsAsRun why_of_cities Tours (ToursAs w before after) fault kept =
      record { met = met; own = own; fault_is = fault_is; kept_is = same; ended = ended } in
      subst (λ s. EndsAs s before after fault kept) (sym is) run

  -- a command that says `flow` ends as `flow` does
  pub ends_flowed : (w : RunWords) → said ≡ Some (Flow w) → (met : Option (Fault FlowWhy)) (own : Option (Kept FlowOutcome)) →
      fault ≡ option_map (fault_run why_of_flow) met → kept ≡ option_map Flows own → FlowsAs w before after met own →
      EndsAs said before after fault kept
  ends_flowed w is met own fault_is same ended =
      let run : EndsAsRun why_of_flow Flows (FlowsAs w before after) fault kept =
      record { met = met; own = own; fault_is = fault_is; kept_is = same; ended = ended } in
      subst (λ s. EndsAs s before after fault kept) (sym is) run

  -- a command that says `check` ends as `check` does
  pub ends_checked : said ≡ Some Check → EndsAsChecked before after fault kept → EndsAs said before after fault kept
  ends_checked is ended = subst (λ s. EndsAs s before after fault kept) (sym is) ended

  -- a command that says `draw` ends as `draw` does
  pub ends_drawn : said ≡ Some Draw → EndsAsDrawn before after fault kept → EndsAs said before after fault kept
  ends_drawn is ended = subst (λ s. EndsAs s before after fault kept) (sym is) ended

  -- a command that says `make` ends as `make` does
  pub ends_made : (count seed : ℕ) → said ≡ Some (Make count seed) → EndsAsMade count seed before after fault kept →
      EndsAs said before after fault kept
  ends_made count seed is ended = subst (λ s. EndsAs s before after fault kept) (sym is) ended

-- No command that the words say ends as refused words do.

no_usage_ran : {W : Type 0} (means : W → LineWhy) (met : Option (Fault W)) → Some Usage ≡ option_map (fault_run means) met → ⊥
no_usage_ran means None e = absurd (cc)
no_usage_ran means (Some (runs.Input line why)) e = absurd (cc)
no_usage_ran means (Some runs.Read) e = absurd (cc)
no_usage_ran means (Some runs.Write) e = absurd (cc)
no_usage_ran means (Some runs.NoThread) e = absurd (cc)
no_usage_ran means (Some runs.Memory) e = absurd (cc)
no_usage_ran means (Some (runs.TooLong stamp)) e = absurd (cc)
no_usage_ran means (Some (runs.TooLarge taken)) e = absurd (cc)

no_usage_told : {X : Type 0} (told : Result X CheckFault) → Some Usage ≡ fault_told told → ⊥
no_usage_told (Ok x) e = absurd (cc)
no_usage_told (Err checks.Read) e = absurd (cc)
no_usage_told (Err checks.Write) e = absurd (cc)
no_usage_told (Err checks.Memory) e = absurd (cc)
no_usage_told (Err (checks.TooLarge taken)) e = absurd (cc)
no_usage_told (Err (checks.Entry line)) e = absurd (cc)

no_usage_made : (made : Result (Unit {0}) MadeFault) → Some Usage ≡ fault_made made → ⊥
no_usage_made (Ok done) e = absurd (cc)
no_usage_made (Err makes.Write) e = absurd (cc)
no_usage_made (Err makes.Memory) e = absurd (cc)

-- the fault of usage comes only if the words say no command
pub usage_unsaid : (said : Option Command) (before after : Scene) (kept : Option AnyKept) →
    EndsAs said before after (Some Usage) kept → said ≡ None
usage_unsaid None before after kept ends = refl
usage_unsaid (Some (Solve w)) before after kept ends = absurd (no_usage_ran why_of ends.met ends.fault_is)
usage_unsaid (Some Check) before after kept ends = absurd (no_usage_told ends.checked ends.fault_is)
usage_unsaid (Some (Make count seed)) before after kept ends = absurd (no_usage_made ends.made ends.fault_is)
usage_unsaid (Some (Drill count seed options)) before after kept ends = absurd (no_usage_ran why_of ends.met ends.fault_is)
usage_unsaid (Some (Tour w)) before after kept ends = absurd (no_usage_ran why_of_cities ends.met ends.fault_is)
usage_unsaid (Some (Flow w)) before after kept ends = absurd (no_usage_ran why_of_flow ends.met ends.fault_is)
usage_unsaid (Some Draw) before after kept ends = absurd (no_usage_told ends.drawn ends.fault_is)
