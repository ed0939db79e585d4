use Rattle.std.proofs.Common.{◌∙◌, ap, length}
use Rattle.job_report.specs.Jobs.{all_items, puzzles}
use Rattle.puzzle_app.proofs.Steps.{begins_with}
use Rattle.puzzle_app.proofs.program.PuzzleProgram.desk.Goals as goal

pub returns-in-Some-clause-going : goal.returns-in-Some-clause-going
returns-in-Some-clause-going c =
    begins_with c.args.self.now c.new-in-Some.result c.in-Some.jobs _ _ c.in-Some.is
    (c.count_made-boards.ensures.boards ∙ ap (λ js. length (puzzles js)) c.as_slice.ensures.jobs)
    (c.count_made-boards.ensures.items ∙ ap all_items c.as_slice.ensures.jobs)
    c.count_made-boards.ensures.few_boards
    c.count_made-boards.ensures.few_items
    (record {
      waiting = c.new-in-Some.ensures.waiting;
      kept = c.new-in-Some.ensures.kept;
      answers = c.new-in-Some.ensures.answers;
      overs = c.new-in-Some.ensures.overs;
      boards = c.new-in-Some.ensures.boards;
      found = c.new-in-Some.ensures.found;
      jobs = c.new-in-Some.ensures.jobs;
      answered = c.new-in-Some.ensures.answered;
    })
