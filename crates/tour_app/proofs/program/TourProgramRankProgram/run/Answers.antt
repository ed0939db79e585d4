use Rattle.std.proofs.Common.{None, [], subst, sym, refl}
use Rattle.tour_app.proofs.Calling.{so_open}
use Rattle.tour_app.proofs.Steps.{empty_so, ended_so, follows_is}
use Rattle.tour_app.proofs.Ways.{way_so, whole_way}
use Rattle.tour_app.proofs.program.TourProgramRankProgram.run.Goals as goal

pub returns-in_default-clause-so_far : goal.returns-in_default-clause-so_far
returns-in_default-clause-so_far g c = whole_way c.args.self.now _ _ _ c.requires.whole (empty_so c.args.self.now _ c.requires.empty)

pub returns-in_err-work-clause-open : goal.returns-in_err-work-clause-open
returns-in_err-work-clause-open g c = so_open c.args.self.now _ (way_so c.args.self.now _ _ c.in_err-work.ensures.so_far)

pub returns-clause-follows : goal.returns-clause-follows
returns-clause-follows g c =
    follows_is c.args.self.now _ c.work.new.desk c.in-Ok-outcome.outcome c.in_ok-work.ensures.stopped c.in-Ok-outcome.ensures

pub returns-clause-open : goal.returns-clause-open
returns-clause-open g c = so_open c.args.self.now _ (way_so c.args.self.now _ _ c.in_ok-work.ensures.so_far)

pub returns-in_default-outcome-clause-open : goal.returns-in_default-outcome-clause-open
returns-in_default-outcome-clause-open g c = so_open c.args.self.now _ (way_so c.args.self.now _ _ c.in_ok-work.ensures.so_far)
