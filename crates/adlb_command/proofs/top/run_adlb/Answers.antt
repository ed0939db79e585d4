use Rattle.std.proofs.Common.{◌≡◌, ◌∙◌, Some, ap, map, subst}
use Rattle.std.specs.String.{string_bytes}
use Rattle.command_words.specs.Said.{command_of}
use Rattle.run_command.specs.Ends.{scene}
use Rattle.adlb_command.proofs.Ending.{drilled_said, ends_checked, ends_drawn, ends_drilled, ends_made, ends_solved, ends_unread}
use Rattle.adlb_command.proofs.Ending.{ends_flowed, ends_toured, flowed_said, solved_said, toured_said}
use Rattle.adlb_command.proofs.top.run_adlb.Goals as goal

pub returns-in-Ok-Solve-clause-ends : goal.returns-in-Ok-Solve-clause-ends
returns-in-Ok-Solve-clause-ends g c =
    let said = command_of (map string_bytes c.args.words.now) in
    ends_solved said
    (scene (g.S.Source.left c.args.input.now) (g.S.Source.faults c.args.input.now) (g.K.Sink.taken c.args.output.now)
    (g.K.Sink.faults c.args.output.now) (g.K.Sink.all_flushed c.args.output.now) (g.T.Spawner.faults c.args.threads.now)
    (g.T.Spawner.starts c.args.threads.now))
    (scene (g.S.Source.left c.solve.new.input) (g.S.Source.faults c.solve.new.input) (g.K.Sink.taken c.solve.new.output)
    (g.K.Sink.faults c.solve.new.output) (g.K.Sink.all_flushed c.solve.new.output) (g.T.Spawner.faults c.solve.new.threads)
    (g.T.Spawner.starts c.solve.new.threads))
    c.of.result.fault c.of.result.kept c.in-Ok-Solve.words
    (subst (λ x. said ≡ Some x) c.in-Ok-Solve.field-0-is c.in-Ok-Solve.ensures.said)
    c.solve.result.fault c.solve.result.kept c.of.ensures.fault c.of.ensures.kept
    (solved_said _ _ c.solve.result.fault c.solve.result.kept c.settings.result c.config.result c.in-Ok-Solve.words c.extras.result
    c.settings.ensures c.extras.ensures c.config.ensures.numbers c.solve.ensures.solves)

pub returns-in-Ok-Check-clause-ends : goal.returns-in-Ok-Check-clause-ends
returns-in-Ok-Check-clause-ends g c =
    let said = command_of (map string_bytes c.args.words.now) in
    let refused = g.T.Spawner.faults c.args.threads.now in
    let started = g.T.Spawner.starts c.args.threads.now in
    ends_checked said
    (scene (g.S.Source.left c.args.input.now) (g.S.Source.faults c.args.input.now) (g.K.Sink.taken c.args.output.now)
    (g.K.Sink.faults c.args.output.now) (g.K.Sink.all_flushed c.args.output.now) refused started)
    (scene (g.S.Source.left c.check.new.input) (g.S.Source.faults c.check.new.input) (g.K.Sink.taken c.check.new.output)
    (g.K.Sink.faults c.check.new.output) (g.K.Sink.all_flushed c.check.new.output) refused started)
    c.check.result.fault c.check.result.kept
    (subst (λ x. said ≡ Some x) c.in-Ok-Check.field-0-is c.in-Ok-Check.ensures.said) (c.check.ensures.ends refused started)

pub returns-in-Ok-Draw-clause-ends : goal.returns-in-Ok-Draw-clause-ends
returns-in-Ok-Draw-clause-ends g c =
    let said = command_of (map string_bytes c.args.words.now) in
    let refused = g.T.Spawner.faults c.args.threads.now in
    let started = g.T.Spawner.starts c.args.threads.now in
    ends_drawn said
    (scene (g.S.Source.left c.args.input.now) (g.S.Source.faults c.args.input.now) (g.K.Sink.taken c.args.output.now)
    (g.K.Sink.faults c.args.output.now) (g.K.Sink.all_flushed c.args.output.now) refused started)
    (scene (g.S.Source.left c.draw.new.input) (g.S.Source.faults c.draw.new.input) (g.K.Sink.taken c.draw.new.output)
    (g.K.Sink.faults c.draw.new.output) (g.K.Sink.all_flushed c.draw.new.output) refused started)
    c.draw.result.fault c.draw.result.kept
    (subst (λ x. said ≡ Some x) c.in-Ok-Draw.field-0-is c.in-Ok-Draw.ensures.said) (c.draw.ensures.ends refused started)

pub returns-in-Ok-Make-clause-ends : goal.returns-in-Ok-Make-clause-ends
returns-in-Ok-Make-clause-ends g c =
    let said = command_of (map string_bytes c.args.words.now) in
    let left = g.S.Source.left c.args.input.now in
    let reads = g.S.Source.faults c.args.input.now in
    let refused = g.T.Spawner.faults c.args.threads.now in
    let started = g.T.Spawner.starts c.args.threads.now in
    ends_made said
    (scene left reads (g.K.Sink.taken c.args.output.now) (g.K.Sink.faults c.args.output.now) (g.K.Sink.all_flushed c.args.output.now)
    refused started)
    (scene left reads (g.K.Sink.taken c.make.new.output) (g.K.Sink.faults c.make.new.output) (g.K.Sink.all_flushed c.make.new.output)
    refused started)
    c.make.result.fault c.make.result.kept c.in-Ok-Make.count c.in-Ok-Make.seed
    (subst (λ x. said ≡ Some x) c.in-Ok-Make.field-0-is c.in-Ok-Make.ensures.said) (c.make.ensures.ends left reads refused started)

pub returns-in-Ok-Drill-clause-ends : goal.returns-in-Ok-Drill-clause-ends
returns-in-Ok-Drill-clause-ends g c =
    let said = command_of (map string_bytes c.args.words.now) in
    let left = g.S.Source.left c.args.input.now in
    let reads = g.S.Source.faults c.args.input.now in
    ends_drilled said
    (scene left reads (g.K.Sink.taken c.args.output.now) (g.K.Sink.faults c.args.output.now) (g.K.Sink.all_flushed c.args.output.now)
    (g.T.Spawner.faults c.args.threads.now) (g.T.Spawner.starts c.args.threads.now))
    (scene left reads (g.K.Sink.taken c.drill.new.output) (g.K.Sink.faults c.drill.new.output) (g.K.Sink.all_flushed c.drill.new.output)
    (g.T.Spawner.faults c.drill.new.threads) (g.T.Spawner.starts c.drill.new.threads))
    c.of-in-Ok-Drill.result.fault c.of-in-Ok-Drill.result.kept c.in-Ok-Drill.count c.in-Ok-Drill.seed c.in-Ok-Drill.options
    (subst (λ x. said ≡ Some x) c.in-Ok-Drill.field-0-is c.in-Ok-Drill.ensures.said)
    c.drill.result.fault c.drill.result.kept c.of-in-Ok-Drill.ensures.fault c.of-in-Ok-Drill.ensures.kept
    (drilled_said _ _ c.drill.result.fault c.drill.result.kept c.settings-in-Ok-Drill.result c.config-in-Ok-Drill.result
    c.in-Ok-Drill.count c.in-Ok-Drill.seed c.in-Ok-Drill.options c.settings-in-Ok-Drill.ensures c.config-in-Ok-Drill.ensures.numbers
    (c.drill.ensures.drills left reads))

pub returns-in-Ok-Tour-clause-ends : goal.returns-in-Ok-Tour-clause-ends
returns-in-Ok-Tour-clause-ends g c =
    let said = command_of (map string_bytes c.args.words.now) in
    ends_toured said
    (scene (g.S.Source.left c.args.input.now) (g.S.Source.faults c.args.input.now) (g.K.Sink.taken c.args.output.now)
    (g.K.Sink.faults c.args.output.now) (g.K.Sink.all_flushed c.args.output.now) (g.T.Spawner.faults c.args.threads.now)
    (g.T.Spawner.starts c.args.threads.now))
    (scene (g.S.Source.left c.tour.new.input) (g.S.Source.faults c.tour.new.input) (g.K.Sink.taken c.tour.new.output)
    (g.K.Sink.faults c.tour.new.output) (g.K.Sink.all_flushed c.tour.new.output) (g.T.Spawner.faults c.tour.new.threads)
    (g.T.Spawner.starts c.tour.new.threads))
    c.of-in-Ok-Tour.result.fault c.of-in-Ok-Tour.result.kept c.in-Ok-Tour.words
    (subst (λ x. said ≡ Some x) c.in-Ok-Tour.field-0-is c.in-Ok-Tour.ensures.said)
    c.tour.result.fault c.tour.result.kept c.of-in-Ok-Tour.ensures.fault c.of-in-Ok-Tour.ensures.kept
    (toured_said _ _ c.tour.result.fault c.tour.result.kept c.config-in-Ok-Tour.result c.in-Ok-Tour.words
    c.config-in-Ok-Tour.ensures.numbers c.tour.ensures.finds)

pub returns-in-Ok-Flow-clause-ends : goal.returns-in-Ok-Flow-clause-ends
returns-in-Ok-Flow-clause-ends g c =
    let said = command_of (map string_bytes c.args.words.now) in
    ends_flowed said
    (scene (g.S.Source.left c.args.input.now) (g.S.Source.faults c.args.input.now) (g.K.Sink.taken c.args.output.now)
    (g.K.Sink.faults c.args.output.now) (g.K.Sink.all_flushed c.args.output.now) (g.T.Spawner.faults c.args.threads.now)
    (g.T.Spawner.starts c.args.threads.now))
    (scene (g.S.Source.left c.flow.new.input) (g.S.Source.faults c.flow.new.input) (g.K.Sink.taken c.flow.new.output)
    (g.K.Sink.faults c.flow.new.output) (g.K.Sink.all_flushed c.flow.new.output) (g.T.Spawner.faults c.flow.new.threads)
    (g.T.Spawner.starts c.flow.new.threads))
    c.of-in-Ok-Flow.result.fault c.of-in-Ok-Flow.result.kept c.in-Ok-Flow.asked
    (subst (λ x. said ≡ Some x) c.in-Ok-Flow.field-0-is c.in-Ok-Flow.ensures.said)
    c.flow.result.fault c.flow.result.kept c.of-in-Ok-Flow.ensures.fault c.of-in-Ok-Flow.ensures.kept
    (flowed_said _ _ c.flow.result.fault c.flow.result.kept c.config-in-Ok-Flow.result c.in-Ok-Flow.asked
    c.config-in-Ok-Flow.ensures.numbers c.flow.ensures.finds)

pub returns-in-Err-clause-ends : goal.returns-in-Err-clause-ends
returns-in-Err-clause-ends g c =
    ends_unread
    (scene (g.S.Source.left c.args.input.now) (g.S.Source.faults c.args.input.now) (g.K.Sink.taken c.args.output.now)
    (g.K.Sink.faults c.args.output.now) (g.K.Sink.all_flushed c.args.output.now) (g.T.Spawner.faults c.args.threads.now)
    (g.T.Spawner.starts c.args.threads.now))
    (command_of (map string_bytes c.args.words.now)) c.in-Err.met c.new.result.fault c.new.result.kept c.in-Err.ensures.refused
    (c.new.ensures.fault ∙ ap Some c.from.ensures) c.new.ensures.kept
