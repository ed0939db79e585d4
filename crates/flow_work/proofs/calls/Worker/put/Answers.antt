use Rattle.std.proofs.Common.{rules, ◌≡◌, ℕ, ◌<◌, subst, sym}
use Rattle.std.specs.Int.{w32}
use Rattle.std.proofs.lemmas.Int.{to_z-of_z}
use Rattle.adlb_unit.specs.Targets.{Aims}
use Rattle.work_law.specs.Work.{put_of}
use Rattle.flow_run_law.specs.Units.{flows}
use Rattle.flow_units.specs.Bodies.{forms}
use Rattle.flow_work.specs.Pieces.{piece}
use Rattle.flow_work.proofs.Making.{begun_put, keeps_by, same_by, says_put}
use Rattle.flow_work.proofs.calls.Worker.put.Goals as goal

pub put-requires : goal.put-requires
put-requires g c = record {
  can = record {
    running = c.requires.running;
    suits = (
      c.in-Ok.ensures.few,
      subst (λ (n : ℕ). Aims c.in-Ok.putting.target n) (sym c.requires.ready.ranks_are) c.in-Ok.ensures.target,
    );
  };
}

pub returns-clause-says : goal.returns-clause-says
returns-clause-says g c =
    says_put _ _ c.in-Ok.putting _ (put_of (flows (forms c.args.self.now.ranks)) (piece c.args.unit.now)) c.put.result
    (to_z-of_z w32 c.in-Ok.putting.prio (search rules))
    c.in-Ok.ensures.put c.put.ensures.made.said

pub returns-clause-same : goal.returns-clause-same
returns-clause-same g c = same_by _ _ _ c.put.result c.put.ensures.made.said

pub returns-clause-begun : goal.returns-clause-begun
returns-clause-begun g c =
    begun_put (g.R.Rank.link c.args.link.now) (g.R.Rank.link c.put.new.self) c.in-Ok.putting _
    (put_of (flows (forms c.args.self.now.ranks)) (piece c.args.unit.now)) c.put.result
    (to_z-of_z w32 c.in-Ok.putting.prio (search rules)) c.in-Ok.ensures.put c.requires.ready.whole c.put.ensures.made

pub returns-clause-kept : goal.returns-clause-kept
returns-clause-kept g c =
    keeps_by (g.R.Rank.link c.args.link.now) (g.R.Rank.link c.put.new.self) _ c.put.result c.put.ensures.made c.put.ensures.stays
