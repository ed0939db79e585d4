use Rattle.std.proofs.Common.{refl}
use Rattle.run_command.specs.Ends.{scene}
use Rattle.run_command.proofs.Running.{ran_inline, ran_threads}
use Rattle.run_command.proofs.runs.run.Goals as goal

pub returns-then-inline-clause-ends : goal.returns-then-inline-clause-ends
returns-then-inline-clause-ends g c =
    c.run_inline.ensures.ends (g.T.Spawner.faults c.args.threads.now) (g.T.Spawner.starts c.args.threads.now)
    (g.T.Spawner.faults c.args.threads.now) (g.T.Spawner.starts c.args.threads.now)

pub returns-then-inline-clause-ran : goal.returns-then-inline-clause-ran
returns-then-inline-clause-ran g c =
    ran_inline c.args.config
    (scene (g.S.Source.left c.args.input.now) (g.S.Source.faults c.args.input.now) (g.K.Sink.taken c.args.output.now)
    (g.K.Sink.faults c.args.output.now) (g.K.Sink.all_flushed c.args.output.now) (g.T.Spawner.faults c.args.threads.now)
    (g.T.Spawner.starts c.args.threads.now))
    (scene (g.S.Source.left c.run_inline.new.input) (g.S.Source.faults c.run_inline.new.input) (g.K.Sink.taken c.run_inline.new.output)
    (g.K.Sink.faults c.run_inline.new.output) (g.K.Sink.all_flushed c.run_inline.new.output) (g.T.Spawner.faults c.args.threads.now)
    (g.T.Spawner.starts c.args.threads.now))
    c.args.inline c.if-inline.true c.run_inline.result.kept c.run_inline.ensures.config (record { refused = refl; started = refl })

pub returns-else-inline-clause-ran : goal.returns-else-inline-clause-ran
returns-else-inline-clause-ran g c =
    ran_threads c.args.config
    (scene (g.S.Source.left c.args.input.now) (g.S.Source.faults c.args.input.now) (g.K.Sink.taken c.args.output.now)
    (g.K.Sink.faults c.args.output.now) (g.K.Sink.all_flushed c.args.output.now) (g.T.Spawner.faults c.args.threads.now)
    (g.T.Spawner.starts c.args.threads.now))
    (scene (g.S.Source.left c.run_threads.new.input) (g.S.Source.faults c.run_threads.new.input) (g.K.Sink.taken c.run_threads.new.output)
    (g.K.Sink.faults c.run_threads.new.output) (g.K.Sink.all_flushed c.run_threads.new.output)
    (g.T.Spawner.faults c.run_threads.new.threads) (g.T.Spawner.starts c.run_threads.new.threads))
    c.args.inline c.if-inline.false c.run_threads.result.kept c.run_threads.ensures.config c.run_threads.ensures.threaded
    c.run_threads.ensures.started
