use Rattle.std.proofs.Common.{◌∙◌, refl, sym, subst}
use Rattle.std.proofs.lemmas.Result.{IfErr-weaker, err_from_is_err_and}
use Rattle.core_inline.proofs.Batches.{start_closed}
use Rattle.run_command.proofs.Hearing.{has_begun, memory_alone, memory_is, one_plus, trouble_wider}
use Rattle.run_command.proofs.Keeping.{finishes, first_at, numbers_of, reports_run}
use Rattle.run_command.proofs.programs.run_in_line.Goals as goal

pub work-outcome-requires-clause-closed : goal.work-outcome-requires-clause-closed
work-outcome-requires-clause-closed g c = start_closed c.args.config.limit c.in-Ok-new.world.run c.in-Ok-new.ensures

pub work-outcome-requires-clause-fits : goal.work-outcome-requires-clause-fits
work-outcome-requires-clause-fits g c =
    subst (λ n. g.C.Program.RankProgram.fits c.index.result.now n) (c.requires.one_rank ∙ sym c.in-Ok-new.ensures.one_rank)
    (c.in-Ok.ensures.fits 0 c.index.result.now
    (first_at c.in-Ok.programs.items c.index.result.now (c.in-Ok.ensures.all ∙ c.requires.one_rank) c.index.ensures))

pub returns-clause-run : goal.returns-clause-run
returns-clause-run g c =
    reports_run (g.C.Command.are_programs c.args.command.now) g.C.Program.RankProgram.follows c.args.asked.now c.in-Ok.programs.items
    c.index.result.now c.args.config c.finish_inline.new.self.run c.work-outcome.new.world.run.transcript c.in_ok-parts.parts.1.items
    c.in_ok-parts.parts.0 c.in_ok-parts.parts.2.items c.requires.one_rank
    (numbers_of c.args.config c.args.config.limit c.in-Ok-new.world.run c.work-outcome.new.world.run c.finish_inline.new.self.run
    c.requires.one_rank c.requires.one_server refl c.in-Ok-new.ensures c.work-outcome.ensures.config c.finish_inline.ensures.config)
    c.in-Ok.ensures.programs
    (first_at c.in-Ok.programs.items c.index.result.now (c.in-Ok.ensures.all ∙ c.requires.one_rank) c.index.ensures)
    (finishes c.work-outcome.new.world.run c.finish_inline.new.self.run c.in_ok-parts.parts.1.items c.finish_inline.ensures.says
    c.in_ok-parts.ensures.whole c.in_ok-parts.ensures.transcript)
    c.in_ok-parts.ensures.ended c.work-outcome.result c.report_of.result c.work-outcome.ensures.follows c.report_of.ensures.report

-- the stamps ran out
pub returns-in_err-parts-clause-faults : goal.returns-in_err-parts-clause-faults
returns-in_err-parts-clause-faults g c =
    let asked = c.args.asked.now in
    let are = g.C.Command.are_programs c.args.command.now in
    let p = err_from_is_err_and c.from_residual.result c.from_residual.ensures.1 in
    rw (p.1, p.2)
    (trouble_wider _ _ _
    (λ enough. g.met.C.Command.takes c.args.command.now asked c.args.config.ranks _
    (has_begun are g.C.Program.RankProgram.so_far asked c.in-Ok.programs.items c.index.result.now c.args.config.ranks
    c.requires.one_rank c.in-Ok.ensures.programs
    (first_at c.in-Ok.programs.items c.index.result.now (c.in-Ok.ensures.all ∙ c.requires.one_rank) c.index.ensures)
    c.work-outcome.new.world.run.transcript c.work-outcome.ensures.heard c.finish_inline.new.self.run
    (one_plus _ _ _ _ c.finish_inline.ensures.says) c.finish_inline.ensures.holds enough))
    c.in_err-parts.ensures.faults)

pub report_of-requires : goal.report_of-requires
report_of-requires g c =
    memory_alone c.work-outcome.result c.work-outcome.new.world.run.failed c.finish_inline.new.self.run.failed
    c.work-outcome.ensures.too_long c.finish_inline.ensures.repeats c.in_ok-parts.ensures.whole

pub returns-clause-faults : goal.returns-clause-faults
returns-clause-faults g c = IfErr-weaker c.report_of.result _ _ (memory_is _) c.report_of.ensures.fault
