use Rattle.std.proofs.Common.{Option, List, IfOk, subst}
use Rattle.adlb_rank.specs.Calls.{HasTaken, Takes}
use Rattle.adlb_unit.specs.declared.names.WorkType.{WorkType}
use Rattle.bag_ledger.specs.declared.entries.Call.TheVariants.{Reserve}
use Rattle.flow_work.proofs.Making.{fails_by, took_keeps}
use Rattle.flow_work.proofs.calls.Worker.take.Goals as goal

pub returns-clause-takes : goal.returns-clause-takes
returns-clause-takes g c =
    subst (λ (types : Option (List WorkType)). IfOk c.take.result
    (Takes (Reserve types) (g.R.Rank.link c.args.link.now).said (g.R.Rank.link c.take.new.self).said)) c.any.ensures c.take.ensures.takes

pub returns-clause-part : goal.returns-clause-part
returns-clause-part g c =
    fails_by (g.R.Rank.link c.args.link.now) (g.R.Rank.link c.take.new.self) c.take.result c.requires.ready.whole
    (subst (λ (types : Option (List WorkType)). HasTaken (Reserve types) (g.R.Rank.link c.args.link.now) (g.R.Rank.link c.take.new.self)
    c.take.result) c.any.ensures c.take.ensures.made)

pub returns-clause-kept : goal.returns-clause-kept
returns-clause-kept g c =
    took_keeps (g.R.Rank.link c.args.link.now) (g.R.Rank.link c.take.new.self) c.take.result
    (subst (λ (types : Option (List WorkType)). HasTaken (Reserve types) (g.R.Rank.link c.args.link.now) (g.R.Rank.link c.take.new.self)
    c.take.result) c.any.ensures c.take.ensures.made) c.take.ensures.stays
