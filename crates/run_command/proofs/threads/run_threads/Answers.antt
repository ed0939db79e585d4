use Rattle.std.proofs.Common.{◌≡◌, ◌^◌, true, refl}
use Rattle.run_command.specs.Ends.{scene}
use Rattle.run_command.specs.Kept.{IsKept, Kept}
use Rattle.run_command.proofs.Ending.{ends_answered, ends_as_stopped, kept_has}
use Rattle.run_command.proofs.threads.run_threads.Goals as goal

pub returns-in-Ok-clause-ends : goal.returns-in-Ok-clause-ends
returns-in-Ok-clause-ends g c =
    ends_answered (g.C.Command.asks c.args.command.now) (g.C.Command.refuses c.args.command.now)
    (IsKept (g.C.Command.are_programs c.args.command.now) g.C.Program.RankProgram.follows) (g.C.Command.tells c.args.command.now)
    (λ asked. g.C.Command.may_take c.args.command.now asked c.args.config.ranks (2 ^ 34))
    (scene (g.S.Source.left c.args.input.now) (g.S.Source.faults c.args.input.now) (g.K.Sink.taken c.args.output.now)
    (g.K.Sink.faults c.args.output.now) (g.K.Sink.all_flushed c.args.output.now) (g.T.Spawner.faults c.args.threads.now)
    (g.T.Spawner.starts c.args.threads.now))
    (scene (g.S.Source.left c.answer_threads.new.input) (g.S.Source.faults c.answer_threads.new.input)
    (g.K.Sink.taken c.write_answer.new.output) (g.K.Sink.faults c.write_answer.new.output)
    (g.K.Sink.all_flushed c.write_answer.new.output) (g.T.Spawner.faults c.answer_threads.new.threads)
    (g.T.Spawner.starts c.answer_threads.new.threads))
    c.in-Ok.answer.kept c.in-Ok.answer.text.items c.in-Ok.ensures.answered c.in-Ok.ensures.end _ _ c.write_answer.ensures.written

pub returns-in-Err-clause-ends : goal.returns-in-Err-clause-ends
returns-in-Err-clause-ends g c =
    ends_as_stopped (g.C.Command.asks c.args.command.now) (g.C.Command.refuses c.args.command.now)
    (IsKept (g.C.Command.are_programs c.args.command.now) g.C.Program.RankProgram.follows) (g.C.Command.tells c.args.command.now)
    (λ asked. g.C.Command.may_take c.args.command.now asked c.args.config.ranks (2 ^ 34))
    (scene (g.S.Source.left c.args.input.now) (g.S.Source.faults c.args.input.now) (g.K.Sink.taken c.args.output.now)
    (g.K.Sink.faults c.args.output.now) (g.K.Sink.all_flushed c.args.output.now) (g.T.Spawner.faults c.args.threads.now)
    (g.T.Spawner.starts c.args.threads.now))
    (scene (g.S.Source.left c.answer_threads.new.input) (g.S.Source.faults c.answer_threads.new.input) (g.K.Sink.taken c.args.output.now)
    (g.K.Sink.faults c.args.output.now) (g.K.Sink.all_flushed c.args.output.now) (g.T.Spawner.faults c.answer_threads.new.threads)
    (g.T.Spawner.starts c.answer_threads.new.threads))
    c.in-Err.fault c.new.result.fault c.new.result.kept c.new.ensures.fault c.new.ensures.kept c.in-Err.ensures.stopped refl

pub returns-in-Ok-clause-config : goal.returns-in-Ok-clause-config
returns-in-Ok-clause-config g c =
    kept_has (λ (k : Kept _). k.report.config ≡ c.args.config) c.in-Ok.answer.kept c.in-Ok.ensures.config c.in-Ok.answer.text.items
    _ _ _ _ _ _ _ c.write_answer.ensures.written

pub returns-in-Ok-clause-threaded : goal.returns-in-Ok-clause-threaded
returns-in-Ok-clause-threaded g c =
    kept_has (λ (k : Kept _). k.threaded ≡ true) c.in-Ok.answer.kept c.in-Ok.ensures.threaded c.in-Ok.answer.text.items
    _ _ _ _ _ _ _ c.write_answer.ensures.written
