use Rattle.std.proofs.Common.{ap, Err, ◌^◌, ◌∙◌, sym, subst}
use Rattle.adlb_threads.specs.Reports.{Reported}
use Rattle.run_command.specs.Kept.{HasRun}
use Rattle.run_command.proofs.Late.{ran_late}
use Rattle.run_command.proofs.RunKept.{one_run, threaded_has_run}
use Rattle.run_command.proofs.threads.run_in_threads.Goals as goal

pub threaded-requires : goal.threaded-requires
threaded-requires g c = record { one = one_run _ _ c.in-Ok-run_ranks.ensures.run.config_is c.in-Ok-run_ranks.ensures.one }

pub returns-in-Ok-run_ranks-clause-run : goal.returns-in-Ok-run_ranks-clause-run
returns-in-Ok-run_ranks-clause-run g c =
    subst (λ (r : Reported _). HasRun (g.C.Command.are_programs c.args.command.now) g.C.Program.RankProgram.follows c.args.asked.now r)
    (sym c.threaded.ensures.report)
    (threaded_has_run _ _ _ _ c.args.config c.in-Ok-run_ranks.report c.in-Ok-run_ranks.ensures.run c.in-Ok.ensures.all
    c.in-Ok.ensures.programs)

-- the stamps ran out, or not
pub returns-in-Err-clause-faults : goal.returns-in-Err-clause-faults
returns-in-Err-clause-faults g c =
    ran_late (g.C.Command.are_programs c.args.command.now) g.C.Program.RankProgram.so_far c.args.asked.now c.args.config
    c.in-Ok.programs.items c.in-Ok.ensures.all c.in-Ok.ensures.programs
    (g.C.Command.may_take c.args.command.now c.args.asked.now c.args.config.ranks (2 ^ 34))
    (g.met.C.Command.takes c.args.command.now c.args.asked.now c.args.config.ranks (2 ^ 34)) c.in-Err.met c.in-Err.ensures.faults
    (λ stamp e. c.run_ranks.ensures.late stamp (c.in-Err.is ∙ ap Err e))
