use Rattle.std.proofs.Common.{rules}
use Rattle.std.specs.Int.{w32}
use Rattle.std.proofs.lemmas.Int.{to_z-of_z}
use Rattle.work_law.specs.Work.{put_of}
use Rattle.tour_app.specs.Works.{tours}
use Rattle.tour_app.proofs.Making.{begun_put, keeps_by, on_ok, same_by, says_put}
use Rattle.tour_app.proofs.calls.put.Goals as goal

pub put-requires : goal.put-requires
put-requires g c = record {
  can = record {
    running = c.requires.running;
    suits = (
      c.in-Ok.ensures.few,
      c.in-Ok.ensures.target (g.R.Rank.link c.args.link.now).seat.ranks c.requires.ready.ranks,
    );
  };
}

pub returns-clause-says : goal.returns-clause-says
returns-clause-says g c =
    says_put _ _ c.in-Ok.putting _ (put_of tours c.args.unit.now) c.put.result (to_z-of_z w32 c.in-Ok.putting.prio (search rules))
    c.in-Ok.ensures.put c.put.ensures.made.said

pub returns-clause-form : goal.returns-clause-form
returns-clause-form g c = on_ok _ c.in-Ok.ensures.form c.put.result

pub returns-clause-same : goal.returns-clause-same
returns-clause-same g c = same_by _ _ _ c.put.result c.put.ensures.made.said

pub returns-clause-begun : goal.returns-clause-begun
returns-clause-begun g c =
    begun_put (g.R.Rank.link c.args.link.now) (g.R.Rank.link c.put.new.self) c.in-Ok.putting _ (put_of tours c.args.unit.now) c.put.result
    (to_z-of_z w32 c.in-Ok.putting.prio (search rules)) c.in-Ok.ensures.put c.requires.ready.whole c.put.ensures.made

pub returns-clause-kept : goal.returns-clause-kept
returns-clause-kept g c =
    keeps_by (g.R.Rank.link c.args.link.now) (g.R.Rank.link c.put.new.self) _ c.put.result c.put.ensures.made c.put.ensures.stays
