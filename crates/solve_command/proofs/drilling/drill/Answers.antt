use Rattle.std.proofs.Common.{List, ℕ, Some, ◌≡◌, ◌∙◌, refl, subst}
use Rattle.adlb_io.specs.Memory.{steady_left}
use Rattle.adlb_unit.specs.declared.configs.Config.{Config}
use Rattle.run_command.specs.Ends.{Scene, scene}
use Rattle.run_command.proofs.Running.{ran_apart}
use Rattle.solve_command.specs.Ends.{EndsWith}
use Rattle.solve_report.specs.Told.{IsSummed}
use Rattle.solve_command.proofs.drilling.drill.Goals as goal

pub returns-clause-drills : goal.returns-clause-drills
returns-clause-drills g c = λ left reads.
    let settings = c.args.settings in
    let count = c.args.count in
    let seed = c.args.seed in
    let rest : List ℕ = steady_left c.run.new.input in
    let taken = g.K.Sink.taken c.args.output.now in
    let writes : ℕ = g.K.Sink.faults c.args.output.now in
    let flushed = g.K.Sink.all_flushed c.args.output.now in
    let refused : ℕ = g.T.Spawner.faults c.args.threads.now in
    let started : ℕ = g.T.Spawner.starts c.args.threads.now in
    let made : List ℕ → Scene = λ l. scene (Some l) 0 taken writes flushed refused started in
    let here : Scene = scene left reads taken writes flushed refused started in
    let there : Scene = scene left reads (g.K.Sink.taken c.run.new.output) (g.K.Sink.faults c.run.new.output)
    (g.K.Sink.all_flushed c.run.new.output) (g.T.Spawner.faults c.run.new.threads) (g.T.Spawner.starts c.run.new.threads) in
    let after : Scene = scene (Some rest) 0 (g.K.Sink.taken c.run.new.output) (g.K.Sink.faults c.run.new.output)
    (g.K.Sink.all_flushed c.run.new.output) (g.T.Spawner.faults c.run.new.threads) (g.T.Spawner.starts c.run.new.threads) in
    let before : Scene = made (steady_left c.new-source.result) in
    record {
      rest = rest;
      ends = subst
          (λ (l : List ℕ). EndsWith settings c.args.config.ranks (IsSummed settings count seed) (made l) after c.run.result.fault
          c.run.result.kept)
          (c.new-source.ensures ∙ c.in-Ok.ensures) c.run.ensures.ends;
      run = ran_apart (λ (x : Config). x ≡ c.args.config) c.args.inline before after here there c.run.result.kept
          (refl {a = refused}) (refl {a = started}) (refl {a = g.T.Spawner.faults c.run.new.threads})
          (refl {a = g.T.Spawner.starts c.run.new.threads}) c.run.ensures.ran;
      unread = record { left = refl; reads = refl };
    }
