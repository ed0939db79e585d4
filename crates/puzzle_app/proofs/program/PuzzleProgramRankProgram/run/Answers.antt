use Rattle.puzzle_app.proofs.Calling.{so_open}
use Rattle.puzzle_app.proofs.Steps.{follows_is}
use Rattle.puzzle_app.proofs.UnderWay.{way_so}
use Rattle.puzzle_app.proofs.program.PuzzleProgramRankProgram.run.Goals as goal

pub returns-in_err-work-clause-open : goal.returns-in_err-work-clause-open
returns-in_err-work-clause-open g c = so_open c.args.self.now _ (way_so c.args.self.now _ _ c.in_err-work.ensures.so_far)

pub returns-clause-follows : goal.returns-clause-follows
returns-clause-follows g c =
    follows_is c.args.self.now _ c.work.new.desk c.outcome.result c.in_ok-work.ensures.stopped (g.met.A.Adlb.short c.work.new.link)
    c.outcome.ensures.solutions c.outcome.ensures.overs c.outcome.ensures.answers c.outcome.ensures.made

pub returns-clause-open : goal.returns-clause-open
returns-clause-open g c = so_open c.args.self.now _ (way_so c.args.self.now _ _ c.in_ok-work.ensures.so_far)
