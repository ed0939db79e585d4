use Rattle.std.proofs.Common.{ap, Err, ◌^◌, ◌∙◌, sym, subst}
use Rattle.std.proofs.lemmas.Result.{IfOk-weaker}
use Rattle.run_command.specs.inside.{Stops}
use Rattle.run_command.proofs.Stopping.{memory_stops, ran_stops, stops_wider}
use Rattle.run_command.proofs.threads.answer_threads.Goals as goal

pub returns-in-Err-clause-stopped : goal.returns-in-Err-clause-stopped
returns-in-Err-clause-stopped g c =
    stops_wider (g.C.Command.asks c.args.command.now) (g.C.Command.refuses c.args.command.now) (g.S.Source.left c.args.input.now)
    (g.S.Source.left c.read_input.new.input) (g.S.Source.faults c.args.input.now) (g.S.Source.faults c.read_input.new.input)
    (g.T.Spawner.faults c.args.threads.now) (g.T.Spawner.faults c.args.threads.now) (λ asked. ⊥)
    (λ asked. g.C.Command.may_take c.args.command.now asked c.args.config.ranks (2 ^ 34)) (λ asked none. absurd none) c.in-Err.fault
    (c.in-Err.ensures.stopped (g.T.Spawner.faults c.args.threads.now) (g.T.Spawner.faults c.args.threads.now))

pub returns-in-Err-run_in_threads-clause-stopped : goal.returns-in-Err-run_in_threads-clause-stopped
returns-in-Err-run_in_threads-clause-stopped g c =
    subst
    (λ f. Stops (g.C.Command.asks c.args.command.now) (g.C.Command.refuses c.args.command.now)
    (λ asked. g.C.Command.may_take c.args.command.now asked c.args.config.ranks (2 ^ 34)) (g.S.Source.left c.args.input.now)
    (g.S.Source.left c.read_input.new.input) (g.S.Source.faults c.args.input.now) (g.S.Source.faults c.read_input.new.input)
    (g.T.Spawner.faults c.args.threads.now) (g.T.Spawner.faults c.run_in_threads.new.threads) f)
    (sym c.ran.ensures)
    (ran_stops (g.C.Command.asks c.args.command.now) (g.C.Command.refuses c.args.command.now) (g.S.Source.left c.args.input.now)
    (g.S.Source.left c.read_input.new.input) (g.S.Source.faults c.args.input.now) (g.S.Source.faults c.read_input.new.input)
    (g.T.Spawner.faults c.args.threads.now) (g.T.Spawner.faults c.run_in_threads.new.threads)
    (λ asked. g.C.Command.may_take c.args.command.now asked c.args.config.ranks (2 ^ 34)) c.in-Ok.asked c.in-Ok.ensures.asked
    c.in-Err-run_in_threads.met c.in-Err-run_in_threads.ensures.faults
    (λ e. c.run_in_threads.ensures.no_thread (c.in-Err-run_in_threads.is ∙ ap Err e)))

pub returns-clause-answered : goal.returns-clause-answered
returns-clause-answered g c =
    IfOk-weaker c.answer_of.result _ _
    (λ a is. record { asked = c.in-Ok.asked; read = c.in-Ok.ensures.asked; kept = is.0; text = is.1 }) c.answer_of.ensures.answered

pub returns-clause-stopped : goal.returns-clause-stopped
returns-clause-stopped g c =
    memory_stops (g.C.Command.asks c.args.command.now) (g.C.Command.refuses c.args.command.now)
    (λ asked. g.C.Command.may_take c.args.command.now asked c.args.config.ranks (2 ^ 34)) (g.S.Source.left c.args.input.now)
    (g.S.Source.left c.read_input.new.input) (g.S.Source.faults c.args.input.now) (g.S.Source.faults c.read_input.new.input)
    (g.T.Spawner.faults c.args.threads.now) (g.T.Spawner.faults c.run_in_threads.new.threads) c.answer_of.result c.answer_of.ensures.fault
